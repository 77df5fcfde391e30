use Rattle.trac_store.specs.Borders.{tagged_text}
use Rattle.trac_store.proofs.TextBorders.{GoesUpTo}
use Rattle.trac_store.proofs.borders.next_border.Given as goal

-- no longer border goes on
abbrev pub invariant-loop-cell : goal.invariant-loop-cell
invariant-loop-cell l = GoesUpTo (tagged_text l.text) l.fn.before l.cell l.border

abbrev pub decreases-loop-cell : goal.decreases-loop-cell
decreases-loop-cell l = l.border
