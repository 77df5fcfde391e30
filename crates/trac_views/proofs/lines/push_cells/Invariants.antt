use Rattle.std.proofs.Common.{◌≡◌, ◌++◌, take}
use Rattle.trac_views.specs.Lines.{cells_text}
use Rattle.trac_views.proofs.lines.push_cells.Given as goal

-- the cells so far stand in the line
abbrev pub invariant-loop-cell : goal.invariant-loop-cell
invariant-loop-cell g l = l.line.items ≡ l.initial.line.items ++ cells_text (take l.cell-index l.cells)
