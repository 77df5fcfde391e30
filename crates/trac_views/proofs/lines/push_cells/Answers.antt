use Rattle.std.proofs.Common.{ap, ◌∙◌, ◌++◌, get_or, refl}
use Rattle.trac_space.specs.declared.cell.Cell.TheVariants.{Byte}
use Rattle.trac_views.specs.Lines.{cell_text, cells_text}
use Rattle.trac_views.proofs.Texts.{text-more}
use Rattle.trac_views.proofs.lines.push_cells.Goals as goal

pub loop-cell-preserved : goal.loop-cell-preserved
loop-cell-preserved g c =
    c.in_ok-push_cell.ensures ∙ ap (λ t. t ++ cell_text (get_or c.args.cells.now c.loop-cell.cell-index (Byte 0))) c.loop-cell.invariant
    ∙ text-more cell_text cells_text refl (λ x xs. refl) c.args.line.now.items c.args.cells.now c.loop-cell.cell-index (Byte 0) c.loop-cell-test.true
