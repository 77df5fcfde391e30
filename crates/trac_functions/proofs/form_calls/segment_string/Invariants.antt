use Rattle.trac_functions.proofs.Imports.{◌≡◌, ◌+◌, ◌<◌, ◌≤◌, suc, drop, length, pointer_at, AreArguments, texts}
use Rattle.trac_functions.proofs.FormLemmas.{segmented}
use Rattle.trac_functions.proofs.form_calls.segment_string.Given as goal

-- the form, with the gaps for the texts that are left, is the one with the gaps for all
abbrev pub invariant-loop-arguments : goal.invariant-loop-arguments
invariant-loop-arguments l =
    record {
      left : AreArguments l.work l.arguments;
      same : l.work ≡ record l.fn.work { forms = l.work.forms };
      known : l.form.0 < length l.work.forms;
      at_start : pointer_at l.work.forms l.form.0 ≡ 0;
      makes : segmented (texts l.work l.arguments) (suc l.ordinal) l.work.forms l.form.0 ≡ segmented (drop 1 (texts l.fn.work l.fn.arguments)) 1 l.fn.work.forms l.form.0;
      counted : l.ordinal + length (texts l.work l.arguments) ≤ 16777217;
    }

-- the arguments that are left
abbrev pub decreases-loop-arguments : goal.decreases-loop-arguments
decreases-loop-arguments l = length (texts l.work l.arguments)
