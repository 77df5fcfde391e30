use Rattle.std.proofs.Common.{◌≡◌, drop}
use Rattle.trac_space.specs.Texts.{text_of_cells}
use Rattle.trac_warnings.specs.Suspicions.{behind_name}
use Rattle.trac_warnings.proofs.names.behind_name.Given as goal

-- the same stands behind what is left of the name in the bytes that are left
abbrev pub invariant-loop-cell : goal.invariant-loop-cell
invariant-loop-cell l =
    behind_name (text_of_cells (drop l.cell-index l.name)) l.rest ≡ behind_name (text_of_cells l.name) l.bytes
