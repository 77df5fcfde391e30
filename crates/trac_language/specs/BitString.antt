-- The bit string at the end of a text.
use Rattle.std.specs.Prelude.{ℕ, ◌+◌, ◌-◌, ◌*◌, ◌%◌, Bool, false, not, ◌&&◌, ◌||◌, cond, List}
use Rattle.std.specs.Prelude.{[], ◌∷◌, ◌++◌, map, take, drop, length, replicate, get_or, ℤ, pos}
use Rattle.std.specs.Prelude.{negsuc, ◌+ℤ◌, nat_le, flat_map}
use Rattle.std.specs.List.{suffix_len, range_with_len}
use Rattle.std.specs.Int.{int_rem_euclid}
use Rattle.trac_language.specs.Text.{Text}

-- a list of bits, the most significant first
abbrev pub Bits : Type 0
Bits = List Bool

-- a digit from 0 to 7
abbrev pub is_octal : ℕ → Bool
is_octal c = nat_le 48 c && nat_le c 55

-- the longest suffix of octal digits
abbrev pub octal_digits : Text → Text
octal_digits text = drop (length text - suffix_len is_octal text) text

-- the text before its longest suffix of octal digits
abbrev pub octal_prefix : Text → Text
octal_prefix text = take (length text - suffix_len is_octal text) text

-- the three bits of an octal digit
abbrev pub bits_of_digit : ℕ → Bits
bits_of_digit c = nat_le 4 (c - 48) ∷ nat_le 2 ((c - 48) % 4) ∷ nat_le 1 ((c - 48) % 2) ∷ []

-- the bit string of a text
abbrev pub bits : Text → Bits
bits text = flat_map bits_of_digit (octal_digits text)

-- the octal digit of three bits
abbrev pub octal_digit : Bool → Bool → Bool → ℕ
octal_digit a b c = 48 + 4 * cond a 1 0 + 2 * cond b 1 0 + cond c 1 0

-- the octal digits of a list of bits
abbrev pub octal : Bits → Text
octal [] = []
octal (a ∷ []) = []
octal (a ∷ b ∷ []) = []
octal (a ∷ b ∷ c ∷ rest) = octal_digit a b c ∷ octal rest

-- the operation on the two bits at each place
abbrev pub bitwise : (Bool → Bool → Bool) → Bits → Bits → Bits
bitwise f [] others = []
bitwise f (a ∷ rest) [] = []
bitwise f (a ∷ rest) (b ∷ others) = f a b ∷ bitwise f rest others

-- the bits filled with zeros at the left, up to n bits
abbrev pub padded : ℕ → Bits → Bits
padded n l = replicate (n - length l) false ++ l

-- the bits cut at the left, down to n bits
abbrev pub cut : ℕ → Bits → Bits
cut n l = drop (length l - n) l

-- the union of two bit strings, of which the shorter is filled with zeros
abbrev pub union : Bits → Bits → Bits
union a b = bitwise ◌||◌ (padded (length b) a) (padded (length a) b)

-- the intersection of two bit strings, of which the longer is cut
abbrev pub intersection : Bits → Bits → Bits
intersection a b = bitwise ◌&&◌ (cut (length b) a) (cut (length a) b)

-- the bit string with each bit turned over
abbrev pub complement : Bits → Bits
complement l = map not l

-- the bit at a place, 0 if there is none
abbrev pub bit_at : Bits → ℤ → Bool
bit_at l (pos i) = get_or l i false
bit_at l (negsuc i) = false

-- the list of n bits that a function from places to bits gives
abbrev pub bits_by : (ℕ → Bool) → ℕ → Bits
bits_by f n = map f (range_with_len 0 n)

-- the bit string shifted left by d places: its bit i is bit i + d, 0 if there is none
abbrev pub shifted : ℤ → Bits → Bits
shifted d l = bits_by (λ i. bit_at l (pos i +ℤ d)) (length l)

-- the bit string rotated left by d places: its bit i is bit i + d, modulo the length
abbrev pub rotated : ℤ → Bits → Bits
rotated d l = bits_by (λ i. bit_at l (int_rem_euclid (pos i +ℤ d) (pos (length l)))) (length l)
