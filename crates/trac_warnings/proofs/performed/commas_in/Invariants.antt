use Rattle.std.proofs.Common.{◌≡◌, ◌≤◌, ◌-◌, ◌^◌, drop, min}
use Rattle.trac_warnings.specs.Performed.{commas_behind, commas_of}
use Rattle.trac_warnings.proofs.performed.commas_in.Given as goal

-- the comma marks so far, as far as 32 bits go, and those of the cells that are left, are all
abbrev pub invariant-loop-cell : goal.invariant-loop-cell
invariant-loop-cell l =
    (l.count ≤ l.cell-index) × (commas_behind (min l.count (2 ^ 32 - 1)) (drop l.cell-index l.cells) ≡ commas_of l.cells)
