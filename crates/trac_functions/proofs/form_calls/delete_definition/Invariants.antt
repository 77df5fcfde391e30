use Rattle.trac_functions.proofs.Imports.{◌≡◌, AreArguments, texts}
use Rattle.trac_functions.proofs.FormLemmas.{unnamed}
use Rattle.trac_functions.proofs.form_calls.delete_definition.Given as goal

-- the forms that the names so far left, without those of the names that are left, are what all names leave
abbrev pub invariant-loop-name : goal.invariant-loop-name
invariant-loop-name l =
    record {
      left : AreArguments l.work l.arguments;
      same : l.work ≡ record l.fn.work { forms = l.work.forms };
      leaves : unnamed (texts l.work l.arguments) l.work.forms ≡ unnamed (texts l.fn.work l.fn.arguments) l.fn.work.forms;
    }
