use Rattle.trac_functions.proofs.Imports.{drop, part_text}
use Rattle.trac_functions.proofs.FormLemmas.{names}
use Rattle.trac_functions.proofs.PutParts.{HasPut}
use Rattle.trac_functions.proofs.form_calls.list_names.Given as goal

-- the names of the forms so far stand, each behind X
abbrev pub invariant-loop-k : goal.invariant-loop-k
invariant-loop-k l =
    let before = part_text l.fn.work.neutral l.before.from l.before.to in
    HasPut l.fn.work (names before l.fn.work.forms) l.work (names before (drop l.k l.fn.work.forms))
