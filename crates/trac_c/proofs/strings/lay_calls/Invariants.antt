use Rattle.trac_c.proofs.Imports.{◌≡◌, ◌-◌, ◌≤◌, length, take, neutral_in, laid}
use Rattle.std.specs.Prelude.{slice_get}
use Rattle.trac_core.specs.OpenCalls.{call_places, next_after}
use Rattle.trac_c.proofs.strings.lay_calls.Given as goal

-- so many places are put, and the call around the last of them is the one whose place comes next
abbrev pub invariant-loop-place : goal.invariant-loop-place
invariant-loop-place l =
    let places = call_places (neutral_in l.machine.memory) in
    record {
      laid : l.room ≡ laid (take l.count places) l.initial.room;
      next : next_after l.mark places ≡ slice_get places l.count;
      few : l.count ≤ length places;
    }

-- the places that are left
abbrev pub decreases-loop-place : goal.decreases-loop-place
decreases-loop-place l = length (call_places (neutral_in l.machine.memory)) - l.count
