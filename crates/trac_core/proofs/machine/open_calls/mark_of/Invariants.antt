use Rattle.trac_core.proofs.Imports.{◌≡◌, ◌-◌, neutral_of}
use Rattle.trac_space.specs.Cells.{IsCallAt}
use Rattle.trac_core.specs.OpenCalls.{mark_of}
use Rattle.trac_core.proofs.OpenCalls.{mark_from}
use Rattle.trac_core.proofs.machine.open_calls.mark_of.Given as goal

-- the call that is wanted is that many calls further out
abbrev pub invariant-loop-inner : goal.invariant-loop-inner
invariant-loop-inner l =
    IsCallAt l.work.neutral l.place
    × (mark_of l.number (neutral_of l.work.neutral) ≡ mark_from (l.number - l._inner) l.work.neutral l.place)
