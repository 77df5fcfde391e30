-- The last call mark, by the place behind it.
use Rattle.trac_space.proofs.Imports.{◌≡◌, ℕ, ◌+◌, ◌-◌, ◌≤◌, List, Option, Some, None, MatchOption, map, arith, SomeIff, Cell, seen, NoCall, HasCallsUpTo, IsLastCall}
use Rattle.trac_space.proofs.Calls.{IsLastCall-from, NoCall-from}

-- the last call mark stands one place before the place behind it
pub last_call-from : (cells : List Cell) (n : ℕ) (r : Option ℕ) → SomeIff r (1 ≤ n) (n - 1) → HasCallsUpTo cells n → MatchOption r (NoCall (map seen cells)) (λ place. IsLastCall (map seen cells) place)
last_call-from cells n None is h =
    let e : n ≡ 0 = grind arith in
    NoCall-from cells (rw e at h)
last_call-from cells n (Some place) is h =
    let e : n ≡ place + 1 = omega (arith, is.0, is.1) in
    IsLastCall-from cells place (rw e at h)
