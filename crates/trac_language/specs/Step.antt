-- One step.
use Rattle.std.specs.Prelude.{ℕ, ◌+◌, ◌-◌, Bool, true, false, List, [], ◌∷◌, ◌++◌, Option, codes}
use Rattle.trac_language.specs.declared.mode.Mode.{Mode}
use Rattle.trac_language.specs.declared.mode.Mode.TheVariants.{Active, Neutral}
use Rattle.trac_language.specs.declared.fate.Fate.{Fate}
use Rattle.trac_language.specs.declared.function.Function.{Function}
use Rattle.trac_language.specs.Text.{Text}
use Rattle.trac_language.specs.Store.{cells}
use Rattle.trac_language.specs.State.{OpenCall, Memory, State, arguments, argument, size, add}
use Rattle.trac_language.specs.State.{begin_argument, begin_call}
use Rattle.trac_language.specs.Function.{function_named}
use Rattle.trac_language.specs.Meaning.{World, Meaning, Gives, Ends, meaning, built}
use Rattle.trac_language.specs.Rule.{Rule, LoadIdling, DeleteLayout, AddProtected, ClearActive}
use Rattle.trac_language.specs.Rule.{BeginArgument, BeginCall, EndCall, AddCharacter, rule}

-- a step gives the next state or ends the run
pub data Outcome : Type 0 where
  Next : State → Outcome
  Over : Fate → Outcome

-- the idling procedure
abbrev pub idling : Text
idling = codes "#(ps,#(rs))"

-- the function that a call names by its first argument
abbrev pub function_of : OpenCall → Option Function
function_of call = function_named (argument (arguments call) 0)

-- what a call sees of a state
abbrev pub world_of : State → World
world_of state =
    record { forms = state.memory.forms; meta = state.memory.meta; input = state.input }

-- the memory with a value before the active string, or at the end of the neutral string
abbrev pub deliver : Mode → Bool → Text → Memory → Memory
deliver Active forced value memory = record memory { active = value ++ memory.active }
deliver Neutral true value memory = record memory { active = value ++ memory.active }
deliver Neutral false value memory = add value memory

-- the outcome of a call, by its meaning, in a state from which its mark and arguments have left
abbrev pub perform : Mode → Meaning → State → Outcome
perform mode (Ends fate) state = Over fate
perform mode (Gives answer) state = Next (record {
  memory =
      deliver mode answer.forced answer.value
      (record state.memory { forms = answer.world.forms; meta = answer.world.meta });
  input = answer.world.input;
  output = state.output ++ answer.printed;
})

-- the innermost open call is performed; with no open call nothing else happens
abbrev pub end_call : List OpenCall → State → Outcome
end_call [] state = Next state
end_call (call ∷ outer) state =
    perform call.mode (meaning (function_of call) (arguments call) (world_of state))
    (record state { memory = record state.memory { calls = outer } })

-- the state with another memory
abbrev pub with_memory : Memory → State → State
with_memory memory state = record state { memory = memory }

-- the state with another active string
abbrev pub with_active : Text → State → State
with_active text state = with_memory (record state.memory { active = text }) state

-- the outcome of a step that follows a rule
abbrev pub follow : Rule → State → Outcome
follow LoadIdling state =
    Next (with_memory (record state.memory { active = idling; base = []; calls = [] }) state)
follow (DeleteLayout rest) state = Next (with_active rest state)
follow (AddProtected inside rest) state =
    Next (with_memory (add inside (record state.memory { active = rest })) state)
follow ClearActive state = Next (with_active [] state)
follow (BeginArgument rest) state =
    Next (with_memory
    (record state.memory { active = rest; calls = begin_argument state.memory.calls }) state)
follow (BeginCall mode rest) state =
    Next (with_memory
    (record state.memory { active = rest; calls = begin_call mode state.memory.calls }) state)
follow (EndCall rest) state = end_call state.memory.calls (with_active rest state)
follow (AddCharacter c rest) state =
    Next (with_memory (add (c ∷ []) (record state.memory { active = rest })) state)

-- the outcome of a step: the next state, or an end of the run
unfoldable pub step : State → Outcome
step state = follow (rule state.memory.active) state

-- the cells that a step by a right parenthesis needs
abbrev pub end_need : List OpenCall → State → ℕ
end_need [] state = size state.memory
end_need (call ∷ outer) state =
    size state.memory - 1 + built (function_of call) (arguments call) (world_of state)

-- the cells that a step by a rule needs
abbrev pub need_by : Rule → State → ℕ
need_by LoadIdling state = cells state.memory.forms + 11
need_by (DeleteLayout rest) state = size state.memory
need_by (AddProtected inside rest) state = size state.memory
need_by ClearActive state = size state.memory
need_by (BeginArgument rest) state = size state.memory
need_by (BeginCall mode rest) state = size state.memory
need_by (EndCall rest) state = end_need state.memory.calls state
need_by (AddCharacter c rest) state = size state.memory

-- the cells that a step needs
unfoldable pub need : State → ℕ
need state = need_by (rule state.memory.active) state
