use Rattle.std.proofs.Common.{◌≡◌, ◌++◌, drop}
use Rattle.std.specs.List.{flat_map}
use Rattle.trac_views.specs.Shown.{raw_cell}
use Rattle.trac_views.proofs.escapes.push_raw.Given as goal

-- the bytes so far and those of the cells that are left are the whole
abbrev pub invariant-loop-cell : goal.invariant-loop-cell
invariant-loop-cell g l =
    l.bytes.items ++ flat_map raw_cell (drop l.cell-index l.cells)
    ≡ l.initial.bytes.items ++ flat_map raw_cell l.cells
