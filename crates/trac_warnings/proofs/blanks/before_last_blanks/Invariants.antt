use Rattle.std.proofs.Common.{◌≡◌, ◌≤◌, length, take}
use Rattle.trac_warnings.specs.Blanks.{before_blanks}
use Rattle.trac_warnings.proofs.blanks.before_last_blanks.Given as goal

-- the cells behind the end so far are blanks and layout
abbrev pub invariant-loop-end : goal.invariant-loop-end
invariant-loop-end l =
    record {
      same : before_blanks (take l.end l.cells) ≡ before_blanks l.cells;
      within : l.end ≤ length l.cells;
    }

-- the cells that are left
abbrev pub decreases-loop-end : goal.decreases-loop-end
decreases-loop-end l = l.end
