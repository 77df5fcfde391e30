use Rattle.trac_functions.proofs.Imports.{[], refl, DeleteAll, meaning_of}
use Rattle.trac_functions.proofs.FormLemmas.{null-value}
use Rattle.trac_functions.proofs.form_calls.delete_all.Goals as goal

pub returns-clause-makes : goal.returns-clause-makes
unfolding meaning_of
returns-clause-makes c = λ args scanned.
    let old = c.args.work.now in
    ([], rw c.delete_all.ensures.gone (null-value DeleteAll args old (record old { forms = [] }) c.requires (λ meta input. refl) (λ w. refl) refl))
