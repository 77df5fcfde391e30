use Rattle.std.proofs.Common.{◌∙◌, ap, arith, sym}
use Rattle.std.proofs.lemmas.List.Sums.{prefix_len-drop_no, prefix_len-drop_yes}
use Rattle.trac_core.proofs.Scanning.{read-text}
use Rattle.trac_space.specs.Texts.{text_of_cells}
use Rattle.trac_warnings.specs.Rows.{is_plain}
use Rattle.trac_warnings.proofs.watch.rows.plain_in.Goals as goal

pub returns-then-not-is_plain : goal.returns-then-not-is_plain
returns-then-not-is_plain c =
    let text = text_of_cells c.args.cells.now in
    let here = read-text c.args.cells.now c.loop-place.place c.character_of.result c.loop-place-test.true c.character_of.ensures in
    let none = prefix_len-drop_no is_plain text c.loop-place.place 0 here.0 (ap is_plain (sym here.1) ∙ sym c.is_plain.ensures ∙ c.if-not-is_plain.true) in
    omega (arith, c.loop-place.invariant, none)

pub loop-place-preserved : goal.loop-place-preserved
loop-place-preserved c =
    let text = text_of_cells c.args.cells.now in
    let here = read-text c.args.cells.now c.loop-place.place c.character_of.result c.loop-place-test.true c.character_of.ensures in
    let one = prefix_len-drop_yes is_plain text c.loop-place.place 0 here.0 (ap is_plain (sym here.1) ∙ sym c.is_plain.ensures ∙ c.if-not-is_plain.false) in
    omega (arith, c.loop-place.invariant, one)
