use Rattle.trac_space.proofs.Imports.{◌≡◌, ◌+◌, ◌-◌, ◌≤◌, ◌<◌, drop, paste}
use Rattle.trac_space.proofs.copies.copy_higher_by_blocks.Given as goal

-- the last cells are at their place
abbrev pub invariant-loop-left : goal.invariant-loop-left
invariant-loop-left l =
    record {
      some : 0 < l.left;
      within : l.left ≤ l.n;
      copied : l.cells ≡ paste l.fn.cells (l.to + l.left) (drop (l.start + l.left) l.fn.cells) (l.n - l.left);
    }

-- the cells that are left
abbrev pub decreases-loop-left : goal.decreases-loop-left
decreases-loop-left l = l.left
