use Rattle.trac_space.proofs.Imports.{◌≡◌, ◌+◌, ◌-◌, take, drop, arith, take-map}
use Rattle.trac_space.proofs.Calls.{HasCallsUpTo-seen}
use Rattle.trac_space.proofs.space.Space.frame_before.Goals as goal

pub returns : goal.returns
returns c =
    let s = c.self.inside in
    let size : s.store + s.neutral - s.store ≡ s.neutral = omega arith in
    let front = rw size at c.top_frame_in.ensures in
    rw (← c.self.view_is, take-map) (HasCallsUpTo-seen (take c.args.end (take s.neutral (drop s.store s.cells.now))) c.top_frame_in.result front)
