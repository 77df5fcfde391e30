use Rattle.trac_space.proofs.Imports.{◌≡◌, ◌+◌, ◌-◌, take, drop, arith, take-map}
use Rattle.trac_space.proofs.LastCalls.{last_call-from}
use Rattle.trac_space.proofs.space.Space.call_before.Goals as goal

pub returns : goal.returns
returns c =
    let s = c.self.inside in
    let size : s.store + s.neutral - s.store ≡ s.neutral = omega arith in
    let front = rw size at c.up_to_mark.ensures in
    rw (← c.self.view_is, take-map) (last_call-from (take c.args.place (take s.neutral (drop s.store s.cells.now))) c.up_to_mark.result c.checked_sub.result c.checked_sub.ensures front)
