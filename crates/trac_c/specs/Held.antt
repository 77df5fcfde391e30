-- A byte that may be held behind a buffer.
use Rattle.std.specs.Prelude.{List, ℕ, ◌+◌, ◌*◌, ◌^◌, [], ◌∷◌, Option, Some, None}

-- the name and the size of a buffer of fewer than 2 ^ 64 bytes, as one number: a call that keeps it
-- keeps both
abbrev pub buffer_code : (name size : ℕ) → ℕ
buffer_code name size = name * 2 ^ 64 + size

-- the byte, if there is one
abbrev pub listed : Option ℕ → List ℕ
listed None = []
listed (Some byte) = byte ∷ []
