-- Ranges of cells of which one ends before the other begins.
use Rattle.std.specs.Prelude.{ℕ, ◌+◌, ◌≤◌, Bool, true, false}

-- the n cells from `start` on are apart from those from `to` on, which are higher or else lower
abbrev pub IsApart : (higher : Bool) → (start n to : ℕ) → Type 0
IsApart true start n to = start + n ≤ to
IsApart false start n to = to + n ≤ start
