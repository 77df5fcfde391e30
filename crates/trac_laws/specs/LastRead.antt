-- Steps that read to the end of the input.
use Rattle.std.specs.Prelude.{Bool, true, false, List, [], ◌∷◌, Option, None, Some, not, ◌&&◌, ◌==◌}
use Rattle.std.specs.List.{list_any}
use Rattle.trac_language.specs.declared.function.Function.{Function}
use Rattle.trac_language.specs.declared.function.Function.TheVariants.{ReadString}
use Rattle.trac_language.specs.State.{OpenCall, State}
use Rattle.trac_language.specs.Meaning.{World}
use Rattle.trac_language.specs.Rule.{Rule, LoadIdling, DeleteLayout, AddProtected, ClearActive}
use Rattle.trac_language.specs.Rule.{BeginArgument, BeginCall, EndCall, AddCharacter, rule}
use Rattle.trac_language.specs.Step.{function_of, world_of}

-- whether the function reads a string
abbrev pub is_read_string : Function → Bool
is_read_string ReadString = true
is_read_string _ = false

-- whether a call reads a text that no meta character follows
abbrev pub reads_last : Option Function → World → Bool
reads_last None world = false
reads_last (Some function) world =
    is_read_string function && not (list_any (λ c. c == world.meta) world.input.text)

abbrev pub end_reads_last : List OpenCall → World → Bool
end_reads_last [] world = false
end_reads_last (call ∷ outer) world = reads_last (function_of call) world

abbrev pub reads_last_by : Rule → State → Bool
reads_last_by LoadIdling state = false
reads_last_by (DeleteLayout rest) state = false
reads_last_by (AddProtected inside rest) state = false
reads_last_by ClearActive state = false
reads_last_by (BeginArgument rest) state = false
reads_last_by (BeginCall mode rest) state = false
reads_last_by (EndCall rest) state = end_reads_last state.memory.calls (world_of state)
reads_last_by (AddCharacter c rest) state = false

-- whether the step reads to the end of the input
abbrev pub reads_to_end : State → Bool
reads_to_end state = reads_last_by (rule state.memory.active) state
