use Rattle.trac_core.proofs.Imports.{◌≡◌, false, true, [], ◌∷◌, ◌++◌, length-append, arith, drop, is_some, length-drop, Comma}
use Rattle.trac_core.proofs.Scanning.{scans-comma, scans-comma-none, last-some, last-none, some-active}
use Rattle.trac_core.proofs.StepsInRow.{one-step, some-run}
use Rattle.trac_core.proofs.scan.begin_argument.Goals as goal

pub returns-then-is_none-clause-passes : goal.returns-then-is_none-clause-passes
returns-then-is_none-clause-passes c =
    let old = c.args.work.now in
    let closed : is_some c.last_call.result ≡ false = (let e = rw c.if-is_none.true at c.is_none.ensures in cc) in
    let none = last-none c.last_call.result _ _ closed c.last_call.ensures in
    let some = some-active old.active 44 c.requires.first in
    let less = length-drop 1 old.active in
    rw c.drop_active.ensures.rest (one-step old (record old { active = drop 1 old.active }) c.args.most (scans-comma-none old c.requires.first none) (omega (arith, less)) (omega (arith, less, some)) c.requires.some)

pub returns-then-are_in_a_row-clause-passes : goal.returns-then-are_in_a_row-clause-passes
returns-then-are_in_a_row-clause-passes c =
    let old = c.args.work.now in
    let opened : is_some c.last_call.result ≡ true = (let e = rw c.if-is_none.false at c.is_none.ensures in cc) in
    let last = last-some c.last_call.result _ _ opened c.last_call.ensures in
    let some = some-active old.active 44 c.requires.first in
    let less = length-drop 1 old.active in
    let pushed = length-append old.neutral (Comma ∷ []) in
    rw c.active_to_cell.ensures.turned (one-step old (record old { active = drop 1 old.active; neutral = old.neutral ++ Comma ∷ [] }) c.args.most (scans-comma old last.0 c.requires.first last.1) (omega (arith, less, pushed, some)) (omega (arith, less, some)) c.requires.some)

pub returns-clause-passes : goal.returns-clause-passes
returns-clause-passes c =
    let run = c.add_run.ensures in
    some-run _ _ _ c.args.most run.passes run.few (run.some 44 c.requires.first (omega arith) c.requires.some) run.shorter
