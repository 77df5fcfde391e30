use Rattle.trac_space.proofs.Imports.{◌≡◌, ◌+◌, ◌-◌, ◌≤◌, drop, paste}
use Rattle.trac_space.proofs.copies.copy_higher_by_parts.Given as goal

-- the last cells are at their place
abbrev pub invariant-loop-left : goal.invariant-loop-left
invariant-loop-left l =
    record {
      within : l.left ≤ l.end - l.start;
      copied : l.cells ≡ paste l.initial.cells (l.to + l.left) (drop (l.start + l.left) l.initial.cells) (l.end - l.start - l.left);
    }

-- the cells that are left
abbrev pub decreases-loop-left : goal.decreases-loop-left
decreases-loop-left l = l.left
