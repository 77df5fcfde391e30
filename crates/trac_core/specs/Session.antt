-- What a machine's next step reads and prints.
use Rattle.std.specs.Prelude.{ℕ, [], ◌&&◌, Option, Some, None, option_map, is_none, nat_lt, if◌then◌else◌}
use Rattle.trac_language.specs.declared.function.Function.{Function}
use Rattle.trac_language.specs.declared.function.Function.TheVariants.{ReadString, ReadCharacter}
use Rattle.trac_language.specs.declared.report.Report.{Report}
use Rattle.trac_language.specs.Text.{Text}
use Rattle.trac_language.specs.State.{Memory, Input}
use Rattle.trac_language.specs.Meaning.{Meaning, Gives, Ends, meaning}
use Rattle.trac_language.specs.Step.{Outcome, Next, Over, step}
use Rattle.trac_core.specs.declared.machine.session.Awaits.{Awaits}
use Rattle.trac_core.specs.declared.machine.session.Awaits.TheVariants.{Nothing, Byte}
use Rattle.trac_core.specs.declared.machine.session.Awaits.TheVariants.{Text as TextAwaited}
use Rattle.trac_forms.specs.Contents.{Contents}
use Rattle.trac_functions.specs.Flat.{arguments_at}
use Rattle.trac_functions.specs.Calls.{world}
use Rattle.trac_core.specs.StepOutcomes.{function_at}
use Rattle.trac_core.specs.Performed.{performs}
use Rattle.trac_core.specs.Machine.{MachineState, state_with}

-- the function that the next step performs, if there is one: the
-- run is not over, and the allowance not used up
abbrev pub next_function : MachineState → Option Function
next_function m =
    if is_none m.fate && nat_lt m.steps m.allowance then performs m.memory else None

-- what a step that performs the function reads
abbrev pub awaited : Option Function → Awaits
awaited None = Nothing
awaited (Some ReadString) = TextAwaited
awaited (Some ReadCharacter) = Byte
awaited (Some _) = Nothing

-- what a call of this meaning prints
abbrev pub printed_in : Meaning → Text
printed_in (Gives answer) = answer.printed
printed_in (Ends fate) = []

-- the output after a step, null if the step ends the run
abbrev pub output_after : Outcome → Text
output_after (Next next) = next.output
output_after (Over fate) = []

-- what a step from a memory prints, given an input
abbrev pub step_prints : Memory → Input → Text
step_prints memory input = output_after (step (state_with memory input []))

-- what the next step prints, if there is one
abbrev pub next_printed : MachineState → Input → Text
next_printed m input =
    if is_none m.fate && nat_lt m.steps m.allowance then step_prints m.memory input else []

-- what the call whose mark stands at `place` prints, given an input
abbrev pub call_prints : Contents → (place meta : ℕ) → Input → Text
call_prints w place meta input =
    printed_in (meaning (function_at w.neutral place) (arguments_at w.neutral place)
    (world w.forms meta input))

-- how the run ended, if it did, with its steps and its peak
abbrev pub report_of : MachineState → Option Report
report_of m = option_map (λ fate. record { fate = fate; steps = m.steps; peak = m.peak }) m.fate
