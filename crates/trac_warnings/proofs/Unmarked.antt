-- Bytes of a script of which nothing is said.
use Rattle.std.proofs.Common.{◌≡◌, ◌<◌, ◌∙◌, ◌+◌, ◌-◌, ◌==◌, ℕ, zero, suc, Bool, true, false, List, [], ◌∷◌, ◌++◌}
use Rattle.std.proofs.Common.{drop, take, length, get_or, refl, sym, ap, arith, Option, Some, None}
use Rattle.std.proofs.lemmas.List.{drop-drop, length-drop}
use Rattle.std.specs.Option.{option_or}
use Rattle.std.specs.Prelude.{◌&&◌, ◌||◌, not, if◌then◌else◌}
use Rattle.trac_language.specs.Text.{Text}
use Rattle.trac_space.proofs.ByteWords.{not-true}
use Rattle.trac_events.specs.ByteSearch.{is_mark, len_before}
use Rattle.trac_warnings.specs.Misspelled.{misspelled_at, misspelled_from}
use Rattle.trac_warnings.specs.Printed.{is_sign}
use Rattle.trac_warnings.specs.Script.{is_numbered, first_of, numbered_lines, reported_behind, spelled, spelled_at}
use Rattle.trac_warnings.specs.Origins.{more}
use Rattle.trac_warnings.specs.Spelling.{spelling_of}
use Rattle.trac_warnings.specs.Watched.{Said}
use Rattle.trac_warnings.proofs.NextNames.{taken_whole}
use Rattle.trac_warnings.proofs.Said.{next_misspelled, next_spelled}

none-of : (a b c : Bool) → a || (b || c) ≡ false → (a ≡ false) × ((b ≡ false) × (c ≡ false))
none-of true b c e = absurd cc
none-of false true c e = absurd cc
none-of false false true e = absurd cc
none-of false false false e = (refl, (refl, refl))

not-zero : (n : ℕ) → (suc n == 0) ≡ false
not-zero n = not-true _ (λ e. let same : suc n ≡ 0 = grind (arith, e) in absurd (omega (arith, same)))

and-false : (b : Bool) → b && false ≡ false
and-false true = refl
and-false false = refl

-- the spelling of a text is that of what stands behind the bytes before its first mark
module _ (reported : Bool) where
  pub to-mark : (sign : Bool) (place : ℕ) (text : Text)
      → spelled reported sign place text
      ≡ spelled reported ((len_before is_mark text == 0) && sign) (place + len_before is_mark text)
      (drop (len_before is_mark text) text)
  to-mark sign place [] = refl
  to-mark sign place (c ∷ text) = by (is_mark c) refl (to-mark false (place + 1) text)
    where
      by : (m : Bool) → is_mark c ≡ m
          → spelled reported false (place + 1) text
          ≡ spelled reported ((len_before is_mark text == 0) && false) ((place + 1) + len_before is_mark text)
          (drop (len_before is_mark text) text)
          → spelled reported sign place (c ∷ text)
          ≡ spelled reported (((if m then 0 else suc (len_before is_mark text)) == 0) && sign)
          (place + (if m then 0 else suc (len_before is_mark text)))
          (drop (if m then 0 else suc (len_before is_mark text)) (c ∷ text))
      by true marked rest = let same : place ≡ place + 0 = omega arith in ap
          (λ p. spelled reported sign p (c ∷ text)) same
      by false unmarked rest =
          let none = none-of (c == 58) (c == 35) (c == 40) unmarked in
          let n = len_before is_mark text in
          let further : (place + 1) + n ≡ place + suc n = omega arith in
          let here : spelled reported sign place (c ∷ text)
          ≡ spelled reported false (place + 1) text = rw (none.0, none.1.0, none.1.1) refl in
          here ∙ rest
          ∙ ap (λ s. spelled reported s ((place + 1) + n) (drop n text))
          (and-false (n == 0) ∙ sym (ap (λ b. b && sign) (not-zero n)))
          ∙ ap (λ p. spelled reported ((suc n == 0) && sign) p (drop n text)) further

-- the spelling of the input is that of what stands at its first mark
pub first-mark : (unmarked : ℕ) (input : Text) → unmarked ≡ len_before is_mark input
    → spelled false false unmarked (drop unmarked input) ≡ spelled false false 0 input
first-mark unmarked input is =
    let n = len_before is_mark input in
    let same : 0 + n ≡ unmarked = omega (arith, is) in
    sym (to-mark false false 0 input
    ∙ ap (λ s. spelled false s (0 + n) (drop n input)) (and-false (n == 0))
    ∙ ap (λ p. spelled false false p (drop n input)) same
    ∙ ap (λ m. spelled false false unmarked (drop m input)) (sym is))

-- no name of a call begins before the first number sign
pub to-sign : (place : ℕ) (text : Text)
    → misspelled_from place text ≡ misspelled_from (place + len_before is_sign text)
    (drop (len_before is_sign text) text)
to-sign place [] = refl
to-sign place (c ∷ text) = by (c == 35) refl (to-sign (place + 1) text)
  where
    by : (m : Bool) → (c == 35) ≡ m
        → misspelled_from (place + 1) text ≡ misspelled_from ((place + 1) + len_before is_sign text)
        (drop (len_before is_sign text) text)
        → misspelled_from place (c ∷ text)
        ≡ misspelled_from (place + (if m then 0 else suc (len_before is_sign text)))
        (drop (if m then 0 else suc (len_before is_sign text)) (c ∷ text))
    by true marked rest = let same : place ≡ place + 0 = omega arith in ap (λ p. misspelled_from p (c ∷ text)) same
    by false unmarked rest =
        let n = len_before is_sign text in
        let further : (place + 1) + n ≡ place + suc n = omega arith in
        let here : misspelled_from place (c ∷ text) ≡ misspelled_from (place + 1) text = rw unmarked refl in
        here ∙ rest ∙ ap (λ p. misspelled_from p (drop n text)) further

-- the names of calls in the input are those from its first number sign on
pub first-sign : (unmarked : ℕ) (input : Text) → unmarked ≡ len_before is_sign input
    → misspelled_from unmarked (drop unmarked input) ≡ misspelled_from 0 input
first-sign unmarked input is =
    let n = len_before is_sign input in
    let same : 0 + n ≡ unmarked = omega (arith, is) in
    sym (to-sign 0 input ∙ ap (λ p. misspelled_from p (drop n input)) same
    ∙ ap (λ m. misspelled_from unmarked (drop m input)) (sym is))

-- what stands further on in what stands behind a place
further : (place n : ℕ) (input : Text) → drop n (drop place input) ≡ drop (place + n) input
further place n input = drop-drop n place input

abbrev pub is_line_end : ℕ → Bool
is_line_end c = c == 10

-- behind the head of a line nothing is said of numbers up to the next line
pub to-line : (first : Option ℕ) (count place : ℕ) (text : Text)
    → numbered_lines first count false place text
    ≡ numbered_lines first count true (place + (len_before is_line_end text + 1))
    (drop (len_before is_line_end text + 1) text)
to-line first count place [] = refl
to-line first count place (c ∷ text) = by (c == 10) refl (to-line first count (place + 1) text)
  where
    by : (m : Bool) → (c == 10) ≡ m
        → numbered_lines first count false (place + 1) text
        ≡ numbered_lines first count true ((place + 1) + (len_before is_line_end text + 1))
        (drop (len_before is_line_end text + 1) text)
        → numbered_lines first count (c == 10) (place + 1) text
        ≡ numbered_lines first count true (place + ((if m then 0 else suc (len_before is_line_end text)) + 1))
        (drop ((if m then 0 else suc (len_before is_line_end text)) + 1) (c ∷ text))
    by true marked rest = ap (λ h. numbered_lines first count h (place + 1) text) marked
    by false unmarked rest =
        let n = len_before is_line_end text in
        let further : (place + 1) + (n + 1) ≡ place + (suc n + 1) = omega arith in
        let longer : suc (n + 1) ≡ suc n + 1 = omega arith in
        ap (λ h. numbered_lines first count h (place + 1) text) unmarked ∙ rest
        ∙ ap (λ p. numbered_lines first count true p (drop (n + 1) text)) further
        ∙ ap (λ m. numbered_lines first count true (place + (suc n + 1)) (drop m (c ∷ text))) longer

-- behind the head of a line that is numbered
pub numbered : (first : Option ℕ) (count place : ℕ) (text : Text) → 0 < length text → is_numbered text ≡ true
    → numbered_lines first count true place text
    ≡ numbered_lines (first_of first place) (more count 1) false place text
numbered first count place [] some is = absurd (omega (arith, some))
numbered first count place (c ∷ text) some is =
    ap (λ b. if b then numbered_lines (first_of first place) (more count 1) (c == 10) (place + 1) text else
    numbered_lines first count (c == 10) (place + 1) text) is

-- behind the head of a line that isn't
pub unnumbered : (first : Option ℕ) (count place : ℕ) (text : Text) → 0 < length text → is_numbered text ≡ false
    → numbered_lines first count true place text ≡ numbered_lines first count false place text
unnumbered first count place [] some is = absurd (omega (arith, some))
unnumbered first count place (c ∷ text) some is =
    ap (λ b. if b then numbered_lines (first_of first place) (more count 1) (c == 10) (place + 1) text else
    numbered_lines first count (c == 10) (place + 1) text) is

-- the next line of the input
pub next-line : (first : Option ℕ) (count place len : ℕ) (input : Text)
    → len ≡ len_before is_line_end (take (length input - place) (drop place input))
    → numbered_lines first count false place (drop place input)
    ≡ numbered_lines first count true (place + (len + 1)) (drop (place + (len + 1)) input)
next-line first count place len input is =
    let same : len ≡ len_before is_line_end (drop place input) = is
    ∙ ap (len_before is_line_end) (taken_whole input place) in
    to-line first count place (drop place input)
    ∙ sym (ap (λ n. numbered_lines first count true (place + (n + 1)) (drop (n + 1) (drop place input))) same)
    ∙ ap (numbered_lines first count true (place + (len + 1))) (further place (len + 1) input)

first-or : (first : Option ℕ) (place : ℕ) → first_of first place ≡ option_or first (Some place)
first-or None place = refl
first-or (Some n) place = refl

module _ (first f : Option ℕ) (count k place len : ℕ) (input : Text) (less : place < length input)
    (is : len ≡ len_before is_line_end (take (length input - place) (drop place input))) where
  some : 0 < length (drop place input)
  some = let long = length-drop place input in omega (arith, long, less)

  of-text : (b : Bool) → is_numbered (take (length input - place) (drop place input)) ≡ b
      → is_numbered (drop place input) ≡ b
  of-text b e = ap is_numbered (sym (taken_whole input place)) ∙ e

  -- the lines behind one that is numbered
  pub numbered-line : f ≡ option_or first (Some place) → k ≡ more count 1
      → is_numbered (take (length input - place) (drop place input)) ≡ true
      → numbered_lines f k true (place + (len + 1)) (drop (place + (len + 1)) input)
      ≡ numbered_lines first count true place (drop place input)
  numbered-line f_is k_is e =
      sym (numbered first count place (drop place input) some (of-text true e)
      ∙ next-line (first_of first place) (more count 1) place len input is
      ∙ ap (λ g. numbered_lines g (more count 1) true (place + (len + 1)) (drop (place + (len + 1)) input))
      (first-or first place ∙ sym f_is)
      ∙ ap (λ n. numbered_lines f n true (place + (len + 1)) (drop (place + (len + 1)) input)) (sym k_is))

  -- the lines behind one that isn't
  pub unnumbered-line : f ≡ first → k ≡ count → is_numbered (take (length input - place) (drop place input)) ≡ false
      → numbered_lines f k true (place + (len + 1)) (drop (place + (len + 1)) input)
      ≡ numbered_lines first count true place (drop place input)
  unnumbered-line f_is k_is e =
      sym (unnumbered first count place (drop place input) some (of-text false e)
      ∙ next-line first count place len input is
      ∙ ap (λ g. numbered_lines g count true (place + (len + 1)) (drop (place + (len + 1)) input)) (sym f_is)
      ∙ ap (λ n. numbered_lines f n true (place + (len + 1)) (drop (place + (len + 1)) input)) (sym k_is))

-- the next mark of the input
pub next-mark : (old new whole : List Said) (reported sign later : Bool) (place unmarked : ℕ) (input : Text)
    → place < length input
    → new ≡ old ++ spelled_at (spelling_of (take (length input - place) (drop place input))) reported sign place
    (take (length input - place) (drop place input))
    → later ≡ reported_behind (spelling_of (take (length input - place) (drop place input))) reported
    (get_or (take (length input - place) (drop place input)) 0 0)
    → unmarked ≡ len_before is_mark (take (length input - (place + 1)) (drop (place + 1) input))
    → old ++ spelled reported sign place (drop place input) ≡ whole
    → new ++ spelled later ((unmarked == 0) && (get_or input place 0 == 35)) (place + (unmarked + 1))
    (drop (place + (unmarked + 1)) input) ≡ whole
next-mark old new whole reported sign later place unmarked input less added is unmarked_is all =
    let rest = drop (place + 1) input in
    let c = get_or input place 0 in
    let same : unmarked ≡ len_before is_mark rest = unmarked_is
    ∙ ap (len_before is_mark) (taken_whole input (place + 1)) in
    let moved : (place + 1) + unmarked ≡ place + (unmarked + 1) = omega arith in
    let to : spelled later (c == 35) (place + 1) rest
    ≡ spelled later ((unmarked == 0) && (c == 35)) (place + (unmarked + 1))
    (drop (place + (unmarked + 1)) input) =
    to-mark later (c == 35) (place + 1) rest
    ∙ sym (ap (λ n. spelled later ((n == 0) && (c == 35)) ((place + 1) + n) (drop n rest)) same)
    ∙ ap (λ p. spelled later ((unmarked == 0) && (c == 35)) p (drop unmarked rest)) moved
    ∙ ap (spelled later ((unmarked == 0) && (c == 35)) (place + (unmarked + 1)))
    (further (place + 1) unmarked input ∙ ap (λ n. drop n input) moved) in
    ap (λ t. new ++ t) (sym to) ∙ next_spelled old new whole reported sign later place input less added is all

-- the next number sign of the input
pub next-sign : (old new whole : List Said) (place unmarked : ℕ) (input : Text) → place < length input
    → new ≡ old ++ misspelled_at place (take (length input - place) (drop place input))
    → unmarked ≡ len_before is_sign (take (length input - (place + 1)) (drop (place + 1) input))
    → old ++ misspelled_from place (drop place input) ≡ whole
    → new ++ misspelled_from (place + (unmarked + 1)) (drop (place + (unmarked + 1)) input) ≡ whole
next-sign old new whole place unmarked input less added unmarked_is all =
    let rest = drop (place + 1) input in
    let same : unmarked ≡ len_before is_sign rest = unmarked_is
    ∙ ap (len_before is_sign) (taken_whole input (place + 1)) in
    let moved : (place + 1) + unmarked ≡ place + (unmarked + 1) = omega arith in
    let to : misspelled_from (place + 1) rest
    ≡ misspelled_from (place + (unmarked + 1)) (drop (place + (unmarked + 1)) input) =
    to-sign (place + 1) rest
    ∙ sym (ap (λ n. misspelled_from ((place + 1) + n) (drop n rest)) same)
    ∙ ap (λ p. misspelled_from p (drop unmarked rest)) moved
    ∙ ap (misspelled_from (place + (unmarked + 1)))
    (further (place + 1) unmarked input ∙ ap (λ n. drop n input) moved) in
    ap (λ t. new ++ t) (sym to) ∙ next_misspelled old new whole place input less added all
