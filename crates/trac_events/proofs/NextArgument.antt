-- The arguments behind the first one.
use Rattle.trac_events.proofs.Imports.{◌≡◌, ℕ, suc, ◌+◌, ◌-◌, ◌<◌, List, drop, ap, arith, position_or_len, Cell, is_comma, from_argument}

-- argument `k - i` is one before it among the arguments behind the first
pub next_argument : (cells : List Cell) (i k : ℕ) → i < k → from_argument (drop (position_or_len is_comma cells + 1) cells) (k - (i + 1)) ≡ from_argument cells (k - i)
next_argument cells i k less = let e : suc (k - (i + 1)) ≡ k - i = omega (arith, less) in ap (from_argument cells) e
