-- The names of functions, each of two characters.
use Rattle.trac_functions.proofs.Imports.{◌≡◌, ◌≢◌, ℕ, ◌-◌, ◌≤◌, Bool, true, false, List, [], ◌∷◌, length, take, drop, None, refl, sym, ap, ◌∙◌, subst, rules, arith, get_or, IsSome, IsTrue, take-length, Text, function_named, Cell, Byte, Call, Comma, Gap, Head, is_comma, text_of_cells, character_of}
use Rattle.trac_functions.proofs.Imports.{before_comma}

one : (a : ℕ) → function_named (a ∷ []) ≡ None
one a = search rules

more : (a b c : ℕ) (rest : Text) → function_named (a ∷ b ∷ c ∷ rest) ≡ None
more a b c rest = search rules

comma-zero : (cell : Cell) → is_comma cell ≡ true → character_of cell ≡ 0
comma-zero (Byte c) e = absurd cc
comma-zero (Call mode k) e = absurd cc
comma-zero Comma e = refl
comma-zero (Gap k) e = absurd cc
comma-zero (Head k) e = absurd cc

-- a name of two characters, where a comma mark or nothing follows two cells
named-two : (a b : Cell) (rest : List Cell) → before_comma rest ≡ 0 → function_named (character_of a ∷ character_of b ∷ []) ≡ function_named (text_of_cells (take (before_comma (a ∷ b ∷ rest)) (a ∷ b ∷ rest)))
named-two a b rest e = go (is_comma a) (is_comma b) refl refl
  where
    go : (p q : Bool) → is_comma a ≡ p → is_comma b ≡ q → function_named (character_of a ∷ character_of b ∷ []) ≡ function_named (text_of_cells (take (before_comma (a ∷ b ∷ rest)) (a ∷ b ∷ rest)))
    go true q ea eb = rw (ea, comma-zero a ea) refl
    go false true ea eb = rw (ea, eb, comma-zero b eb) refl
    go false false ea eb = rw (ea, eb, e) refl

-- if the first two cells name a function and no third one is before a comma mark, two cells are before that mark
two-before : (a b : Cell) (rest : List Cell) → before_comma rest ≡ 0 → IsSome (function_named (character_of a ∷ character_of b ∷ [])) → before_comma (a ∷ b ∷ rest) ≡ 2
two-before a b rest e = go (is_comma a) (is_comma b) refl refl
  where
    go : (p q : Bool) → is_comma a ≡ p → is_comma b ≡ q → IsSome (function_named (character_of a ∷ character_of b ∷ [])) → before_comma (a ∷ b ∷ rest) ≡ 2
    go true q ea eb = rw (ea, comma-zero a ea) (λ some. absurd cc)
    go false true ea eb = rw (ea, eb, comma-zero b eb, one (character_of a)) (λ some. absurd cc)
    go false false ea eb = rw (ea, eb, e) (λ some. refl)

-- cells name no function if a character follows the first two
none-longer : (a b : Cell) (rest : List Cell) → before_comma rest ≢ 0 → function_named (text_of_cells (take (before_comma (a ∷ b ∷ rest)) (a ∷ b ∷ rest))) ≡ None
none-longer a b [] more_than = absurd (more_than refl)
none-longer a b (c ∷ rest) more_than = go (is_comma a) (is_comma b) (is_comma c) refl refl refl
  where
    go : (p q r : Bool) → is_comma a ≡ p → is_comma b ≡ q → is_comma c ≡ r → function_named (text_of_cells (take (before_comma (a ∷ b ∷ c ∷ rest)) (a ∷ b ∷ c ∷ rest))) ≡ None
    go true q r ea eb ec = rw ea refl
    go false true r ea eb ec = rw (ea, eb) (one (character_of a))
    go false false true ea eb ec = absurd (more_than (rw ec refl))
    go false false false ea eb ec = rw (ea, eb, ec) (more (character_of a) (character_of b) (character_of c) (text_of_cells (take (before_comma rest) rest)))

-- ---- the function that cells name which are looked at one by one

rest-of : (a b : Cell) (rest : List Cell) → take (length (a ∷ b ∷ rest) - 2) rest ≡ rest
rest-of a b rest =
    let n : length (a ∷ b ∷ rest) - 2 ≡ length rest = omega arith in
    ap (λ n. take n rest) n ∙ take-length rest

pub pair-named : (cells : List Cell) (d e : Cell) → 2 ≤ length cells → before_comma (take (length cells - 2) (drop 2 cells)) ≡ 0 → function_named (character_of (get_or cells 0 d) ∷ character_of (get_or cells 1 e) ∷ []) ≡ function_named (text_of_cells (take (before_comma cells) cells))
pair-named [] d e long none = absurd (omega arith)
pair-named (a ∷ []) d e long none = absurd (omega arith)
pair-named (a ∷ b ∷ rest) d e long none = named-two a b rest (subst (λ l. before_comma l ≡ 0) (rest-of a b rest) none)

pub pair-two : (cells : List Cell) (d e : Cell) → 2 ≤ length cells → before_comma (take (length cells - 2) (drop 2 cells)) ≡ 0 → IsSome (function_named (character_of (get_or cells 0 d) ∷ character_of (get_or cells 1 e) ∷ [])) → before_comma cells ≡ 2
pair-two [] d e long none = absurd (omega arith)
pair-two (a ∷ []) d e long none = absurd (omega arith)
pair-two (a ∷ b ∷ rest) d e long none = two-before a b rest (subst (λ l. before_comma l ≡ 0) (rest-of a b rest) none)

pub none-named : (cells : List Cell) (ends : Bool) → 2 ≤ length cells → ends ≡ false → (before_comma (take (length cells - 2) (drop 2 cells)) ≡ 0 → IsTrue ends) → None ≡ function_named (text_of_cells (take (before_comma cells) cells))
none-named [] ends long fails reserve = absurd (omega arith)
none-named (a ∷ []) ends long fails reserve = absurd (omega arith)
none-named (a ∷ b ∷ rest) ends long fails reserve =
    sym (none-longer a b rest (λ e. let h = reserve (subst (λ l. before_comma l ≡ 0) (sym (rest-of a b rest)) e) in absurd cc))
