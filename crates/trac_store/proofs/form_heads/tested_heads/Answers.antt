use Rattle.trac_store.proofs.Imports.{◌≡◌, ◌+◌, ap, ◌∙◌, arith, head_at}
use Rattle.trac_store.proofs.HeadCells.{number-in-part}
use Rattle.trac_store.proofs.form_heads.tested_heads.Goals as goal

pub returns-clause-name : goal.returns-clause-name
returns-clause-name c =
    let start = c.args.start in
    let here : start + 0 ≡ start = omega arith in
    c.number.ensures ∙ number-in-part _ c.store_part-cells.result.now start (start + 3) c.requires.within c.store_part-cells.ensures 0 (omega arith) ∙ ap (head_at _) here

pub returns-clause-body : goal.returns-clause-body
returns-clause-body c =
    c.number-2.ensures ∙ number-in-part c.args.space.now.store c.store_part-cells.result.now c.args.start (c.args.start + 3) c.requires.within c.store_part-cells.ensures 1 (omega arith)

pub returns-clause-pointer : goal.returns-clause-pointer
returns-clause-pointer c =
    c.number-3.ensures ∙ number-in-part c.args.space.now.store c.store_part-cells.result.now c.args.start (c.args.start + 3) c.requires.within c.store_part-cells.ensures 2 (omega arith)
