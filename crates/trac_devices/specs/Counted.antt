-- How a device under a buffer counts its failures.
use Rattle.std.specs.Prelude.{◌≡◌, ◌+◌, ◌-◌, ◌^◌, ℕ, min, Result, MatchResult}

-- one failure more, up to the most that are counted
abbrev pub next_count : ℕ → ℕ
next_count n = min (n + 1) (2 ^ 64 - 1)

-- an error adds one to the failures, and nothing else does
abbrev pub Counts : {T E : Type 0} → ℕ → ℕ → Result T E → Type 0
Counts old new r = MatchResult r (λ _. new ≡ old) (λ _. new ≡ next_count old)
