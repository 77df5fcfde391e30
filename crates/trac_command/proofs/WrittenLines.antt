-- The lines, written out.
use Rattle.std.proofs.Common.{◌≡◌, List, ℕ, Option, Some, None, codes, refl}
use Rattle.std.specs.Fmt.{digits}
use Rattle.trac_language.specs.declared.fate.Fate.{Fate}
use Rattle.trac_language.specs.declared.fate.Fate.TheVariants.{Halted, InputEnded, Workspace, Steps, InputFailed, OutputFailed}
use Rattle.trac_command.specs.Lines.{fault_text, report_text, memory_text}

-- after 8 steps, in a workspace of 18 cells, with 19 steps allowed
abbrev line : Fate → Option (List ℕ)
line fate = fault_text fate 18 19 8

halted : line Halted ≡ None
halted = refl

input_ended : line InputEnded ≡ None
input_ended = refl

workspace : line Workspace ≡ Some (codes "trac: workspace of 18 cells full at step 9")
unfolding digits
workspace = refl

steps : line Steps ≡ Some (codes "trac: allowance of 19 steps used up")
unfolding digits
steps = refl

input_failed : line InputFailed ≡ Some (codes "trac: input failed at step 9")
unfolding digits
input_failed = refl

output_failed : line OutputFailed ≡ Some (codes "trac: output failed at step 9")
unfolding digits
output_failed = refl

last_step : fault_text InputFailed 65536 1 18446744073709551615 ≡ Some (codes "trac: input failed at step 18446744073709551616")
unfolding digits
last_step = refl

report : report_text 29 19 ≡ codes "trac: 29 steps, peak 19 cells"
unfolding digits
report = refl

memory : memory_text 65536 ≡ codes "trac: no memory for 65536 cells"
unfolding digits
memory = refl
