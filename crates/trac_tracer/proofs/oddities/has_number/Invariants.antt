use Rattle.std.proofs.Common.{◌≡◌, drop, false}
use Rattle.trac_space.specs.Texts.{text_of_cells}
use Rattle.trac_tracer.specs.Odd.{has_number}
use Rattle.trac_tracer.proofs.oddities.has_number.Given as goal

-- the cells that are left decide
abbrev pub invariant-loop-cell : goal.invariant-loop-cell
invariant-loop-cell l = has_number l.found (text_of_cells (drop l.cell-index l.cells)) ≡ has_number false (text_of_cells l.cells)
