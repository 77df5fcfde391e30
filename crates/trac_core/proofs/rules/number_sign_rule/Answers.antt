use Rattle.trac_core.proofs.Imports.{◌≡◌, ◌≢◌, Some, slice_get, text_of_cells}
use Rattle.trac_core.proofs.RuleRows.{opens-active, opens-neutral}
use Rattle.trac_core.proofs.Scanning.{sign-rule}
use Rattle.trac_core.proofs.rules.number_sign_rule.Goals as goal
use Rattle.trac_core.proofs.rules.number_sign_rule.Goals.{else-is_in-2-via-then-is_in-2+else-is_in-3, else-is_in-2-via-else-is_in-2}

pub returns-then-is_in : goal.returns-then-is_in
returns-then-is_in c = opens-active (text_of_cells c.args.active.now) c.requires.first (c.is_in.ensures.0 c.if-is_in.true)

pub returns-then-is_in-3 : goal.returns-then-is_in-3
returns-then-is_in-3 c =
    opens-neutral (text_of_cells c.args.active.now) c.requires.first (c.is_in-else-is_in.ensures.0 c.if-is_in-2.true)
    (c.is_in-then-is_in-2.ensures.0 c.if-is_in-3.true)

pub returns-else-is_in-2 : goal.returns-else-is_in-2
returns-else-is_in-2 c =
    let text = text_of_cells c.args.active.now in
    let second : slice_get text 1 ≢ Some 40 = λ e. (let t = c.is_in.ensures.1 e in let f = c.if-is_in.false in cc) in
    let third : slice_get text 1 ≡ Some 35 → slice_get text 2 ≢ Some 40 = λ e g.
    elim c.else-is_in-2.branch [
      | else-is_in-2-via-then-is_in-2+else-is_in-3 w ↦ (let t = w.is_in-then-is_in-2.ensures.1 g in let f = w.if-is_in-3.false in cc)
      | else-is_in-2-via-else-is_in-2 w ↦ (let t = c.is_in-else-is_in.ensures.1 e in let f = w.if-is_in-2.false in cc)
    ] in
    (c.requires.first, sign-rule text c.requires.first second third)
