-- Searches of bytes.
use Rattle.std.specs.Prelude.{ℕ, suc, ◌==◌, ◌||◌, ◌<◌, nat_le, Bool, [], ◌∷◌, if◌then◌else◌}
use Rattle.trac_language.specs.Text.{Text}

-- f gives bytes
abbrev pub Bytes : (ℕ → ℕ) → Type 0
Bytes f = (k : ℕ) → f k < 256

-- whether a byte is a colon, a number sign or a left parenthesis
abbrev pub is_mark : ℕ → Bool
is_mark c = (c == 58) || ((c == 35) || (c == 40))

-- how many bytes of a text stand before the first one that `seeks` holds of; all of them if there is none
abbrev pub len_before : (seeks : ℕ → Bool) → Text → ℕ
len_before seeks [] = 0
len_before seeks (c ∷ text) = if seeks c then 0 else suc (len_before seeks text)

-- whether a byte is a line feed, or no ASCII
abbrev pub is_apart : ℕ → Bool
is_apart c = (c == 10) || nat_le 128 c
