-- The last steps of which something was shown.
use Rattle.std.specs.Prelude.{ℕ, ◌-◌, ◌==◌, List, [], ◌∷◌, ◌++◌, length, drop, if◌then◌else◌}

-- the numbers of steps in their order, and how many there are at most
pub record LastNumbers : Type 0 where
  pub numbers : List ℕ
  pub most : ℕ

-- the last `most` of the numbers, or all if there are fewer
abbrev pub last_of : ℕ → List ℕ → List ℕ
last_of most numbers = drop (length numbers - most) numbers

-- the last numbers with that of a step, if `lines` were shown of it
abbrev pub with_step : ℕ → List ℕ → LastNumbers → LastNumbers
with_step number lines last =
    if length lines == 0 then last
    else record last { numbers = last_of last.most (last.numbers ++ number ∷ []) }
