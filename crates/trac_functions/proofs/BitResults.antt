-- Results of bits: how many digits they have, and that they stay when cells are put behind the neutral string.
use Rattle.trac_space.specs.declared.part.Part.{Part}
use Rattle.trac_functions.proofs.Imports.{◌≡◌, ℕ, ◌-◌, ◌*◌, ◌≤◌, max, min, Bool, false, ◌||◌, ◌&&◌, not, List, [], ◌++◌, ◌∷◌, length, slice_range, map, replicate, pos, ℤ, refl, sym, ap, ◌∙◌, subst, arith, flat_map, ◌+ℤ◌, int_rem_euclid, length-append, length-replicate, length-drop, length-map}
use Rattle.trac_functions.proofs.Imports.{length-between, length-map-range_with_len, Text, Bits, is_octal, bits_of_digit, bit_at, octal, padded, cut, union, intersection, complement, shifted, rotated, World, bits_result, Function, Form, Some, bits, octal_prefix, meaning_of, built, value_length, world, Valued, Cell, seen, text_of_cells, flat_text, IsOctal, EachIs, bits_of_cells}
use Rattle.trac_functions.proofs.Imports.{signed, length-text, length-octal, length-bits_of, length-bitwise, rotation_same, Contents, BitResult, Rotation, AreDigits, AreFor, bits_at, bits_made}
use Rattle.trac_functions.specs.declared.bit_strings.BitResult.TheVariants.{Union, Intersection, Complement, Shift}
use Rattle.trac_functions.proofs.MadeValues.{valued-of}
use Rattle.trac_functions.proofs.PutCharacters.{with_text, with-both}
use Rattle.trac_functions.proofs.ArgumentLemmas.{text_of_cells-seen}
use Rattle.trac_functions.proofs.CellRanges.{part-append}

-- ---- how many digits there are

pub length-at : (neutral : List Cell) (part : Part) → AreDigits neutral part → length (bits_at neutral part) ≡ 3 * (part.to - part.from)
length-at neutral part are =
    let cells = slice_range neutral part.from part.to in
    omega (arith, length-bits_of (text_of_cells cells), length-text cells, length-between neutral part.from part.to are.within)

length-padded : (n : ℕ) (l : Bits) → length (padded n l) ≡ max n (length l)
length-padded n l = omega (arith, length-append (replicate (n - length l) false) l, length-replicate {A = Bool} (n - length l) false)

length-cut : (n : ℕ) (l : Bits) → length (cut n l) ≡ min n (length l)
length-cut n l = omega (arith, length-drop (length l - n) l)

length-union : (l m : Bits) → length (union l m) ≡ max (length l) (length m)
length-union l m =
    let left = length-padded (length m) l in
    let right = length-padded (length l) m in
    length-bitwise ◌||◌ (padded (length m) l) (padded (length l) m) (omega arith) ∙ omega arith

length-intersection : (l m : Bits) → length (intersection l m) ≡ min (length l) (length m)
length-intersection l m =
    let left = length-cut (length m) l in
    let right = length-cut (length l) m in
    length-bitwise ◌&&◌ (cut (length m) l) (cut (length l) m) (omega arith) ∙ omega arith

module _ (neutral : List Cell) (a : Part) (are : AreDigits neutral a) where
  pub complement-digits : a.to - a.from ≡ length (octal (complement (bits_at neutral a)))
  complement-digits =
      let l = bits_at neutral a in
      omega (arith, length-octal (complement l), length-map l not, length-at neutral a are)

  pub shift-digits : (d : ℤ) → a.to - a.from ≡ length (octal (shifted d (bits_at neutral a)))
  shift-digits d =
      let l = bits_at neutral a in
      omega (arith, length-octal (shifted d l), length-map-range_with_len (λ i. bit_at l (pos i +ℤ d)) 0 (length l), length-at neutral a are)

  pub rotation-digits : (d : ℤ) → a.to - a.from ≡ length (octal (rotated d (bits_at neutral a)))
  rotation-digits d =
      let l = bits_at neutral a in
      omega (arith, length-octal (rotated d l), length-map-range_with_len (λ i. bit_at l (int_rem_euclid (pos i +ℤ d) (pos (length l)))) 0 (length l), length-at neutral a are)

  module _ (b : Part) (others : AreDigits neutral b) where
    pub union-digits : max (a.to - a.from) (b.to - b.from) ≡ length (octal (union (bits_at neutral a) (bits_at neutral b)))
    union-digits =
        omega (arith, length-octal (union (bits_at neutral a) (bits_at neutral b)), length-union (bits_at neutral a) (bits_at neutral b), length-at neutral a are, length-at neutral b others)

    pub intersection-digits : min (a.to - a.from) (b.to - b.from) ≡ length (octal (intersection (bits_at neutral a) (bits_at neutral b)))
    intersection-digits =
        omega (arith, length-octal (intersection (bits_at neutral a) (bits_at neutral b)), length-intersection (bits_at neutral a) (bits_at neutral b), length-at neutral a are, length-at neutral b others)

-- ---- digits as cells that were read

pub seen-octal : (cells part : List Cell) → map seen cells ≡ part → IsOctal part → IsOctal cells
seen-octal cells part e octal = subst (EachIs is_octal) (sym (ap text_of_cells e) ∙ text_of_cells-seen cells) octal

pub seen-bits : (cells part : List Cell) → map seen cells ≡ part → bits_of_cells cells ≡ bits_of_cells part
seen-bits cells part e = ap (flat_map bits_of_digit) (sym (text_of_cells-seen cells) ∙ ap text_of_cells e)

-- ---- cells put behind the neutral string

module _ (neutral behind : List Cell) where
  grown-at : (part : Part) → AreDigits neutral part → bits_at (neutral ++ behind) part ≡ bits_at neutral part
  grown-at part are = ap (λ cells. bits_of_cells cells) (part-append neutral behind part.from part.to are.order are.within)

  pub grown-made : (bits : BitResult) → AreFor neutral bits → bits_made (neutral ++ behind) bits ≡ bits_made neutral bits
  grown-made (Union a b) are = ap (λ l. union l (bits_at (neutral ++ behind) b)) (grown-at a are.0) ∙ ap (union (bits_at neutral a)) (grown-at b are.1)
  grown-made (Intersection a b) are = ap (λ l. intersection l (bits_at (neutral ++ behind) b)) (grown-at a are.0) ∙ ap (intersection (bits_at neutral a)) (grown-at b are.1)
  grown-made (Complement a) are = ap (λ l. complement l) (grown-at a are)
  grown-made (Shift by a) are = ap (λ l. shifted (signed by.negative by.size) l) (grown-at a are)
  grown-made (Rotation by a) are = ap (λ l. rotated (pos by) l) (grown-at a are.0)

-- ---- a result has no more digits than there are cells in the neutral string

part-within : (neutral : List Cell) (part : Part) → AreDigits neutral part → part.to - part.from ≤ length neutral
part-within neutral part are = let within = are.within in omega arith

pub made-within : (neutral : List Cell) (bits : BitResult) → AreFor neutral bits → length (octal (bits_made neutral bits)) ≤ length neutral
made-within neutral (Union a b) are = omega (arith, union-digits neutral a are.0 b are.1, part-within neutral a are.0, part-within neutral b are.1)
made-within neutral (Intersection a b) are = omega (arith, intersection-digits neutral a are.0 b are.1, part-within neutral a are.0)
made-within neutral (Complement a) are = omega (arith, complement-digits neutral a are, part-within neutral a are)
made-within neutral (Shift by a) are = omega (arith, shift-digits neutral a are (signed by.negative by.size), part-within neutral a are)
made-within neutral (Rotation by a) are = omega (arith, rotation-digits neutral a are.0 (pos by), part-within neutral a are.0)

-- ---- a result that is put behind a text

module _ (old now : Contents) (text : Text) (bits : BitResult) (are : AreFor old.neutral bits) (e : now ≡ with_text old text) where
  pub behind-made : octal (bits_made now.neutral bits) ≡ octal (bits_made old.neutral bits)
  behind-made = ap (λ (w : Contents). octal (bits_made w.neutral bits)) e ∙ ap octal (grown-made old.neutral (flat_text text) bits are)

  pub behind-all : (new : Contents) → new ≡ with_text now (octal (bits_made now.neutral bits)) → new ≡ with_text old (text ++ octal (bits_made old.neutral bits))
  behind-all new put = put ∙ ap (λ t. with_text now t) behind-made ∙ ap (λ w. with_text w (octal (bits_made old.neutral bits))) e ∙ with-both old text (octal (bits_made old.neutral bits))

-- ---- the values of calls

-- the bits that were read of a text are the value, changed in this way
module _ (f : Function) (args : List Text) (change : Bits → Bits) (given : Text) (means : (w : World) → meaning_of f args w ≡ bits_result (octal_prefix given) (change (bits given)) w) (built_is : (w : World) → built (Some f) args w ≡ value_length (meaning_of f args w)) where
  pub bits-valued : (forms : List Form) (read before : Text) (l made : Bits) → read ≡ given → before ≡ octal_prefix read → l ≡ bits read → made ≡ change l → Valued f args forms (before ++ octal made) false forms
  bits-valued forms read before l made same prefix bits_are made_is =
      let front : octal_prefix given ≡ before = ap (λ t. octal_prefix t) (sym same) ∙ sym prefix in
      let back : change (bits given) ≡ made = ap (λ t. change (bits t)) (sym same) ∙ ap change (sym bits_are) ∙ sym made_is in
      valued-of f args forms forms (before ++ octal made) false
      (λ meta input. means (world forms meta input) ∙ ap (λ t. bits_result t (change (bits given)) (world forms meta input)) front ∙ ap (λ l. bits_result before l (world forms meta input)) back)
      built_is

-- a rotation of no bits, too
pub rotation-any : (d : ℤ) (r n : ℕ) (l : Bits) → n ≡ max (length l) 1 → int_rem_euclid d (pos n) ≡ pos r → rotated (pos r) l ≡ rotated d l
rotation-any d r n [] long is = refl
rotation-any d r n (b ∷ l) long is = let e : length (b ∷ l) ≡ n = omega arith in rotation_same d r (b ∷ l) (ap (λ n. int_rem_euclid d (pos n)) e ∙ is)
