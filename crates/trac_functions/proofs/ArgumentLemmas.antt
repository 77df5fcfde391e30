-- Parts of the neutral string as texts, and arguments cut at comma marks.
use Rattle.trac_functions.proofs.Imports.{◌≡◌, ℕ, suc, ◌+◌, ◌-◌, ◌<◌, ◌≤◌, Bool, true, false, List, [], ◌∷◌, length, take, drop, slice_range, All, map, refl, sym, ap, ◌∙◌, subst, ⊎_elim, arith, get_or, cond, nat_le, cases_lt, length-map, get_or-drop, drop-drop, take-map}
use Rattle.trac_functions.proofs.Imports.{length-between, All-cons, All-take, All-drop, All-map, Text, argument, Cell, Byte, Call, Comma, Gap, Head, seen, is_call, is_comma, NoCall, NoComma, flat_text, text_of_cells, character_of, IsByte, Contents, IsStringCell, IsSound, IsTextPart, part_text}
use Rattle.trac_functions.proofs.Imports.{before_comma, before_comma-within, found-comma, Arguments, in_first, texts_of, texts_from, texts, AreArguments}
use Rattle.trac_functions.proofs.CellRanges.{drop-range, take-range}

-- ---- cells as contracts see them

character_of-seen : (cell : Cell) → character_of (seen cell) ≡ character_of cell
character_of-seen (Byte c) = refl
character_of-seen _ = refl

pub text_of_cells-seen : (cells : List Cell) → text_of_cells (map seen cells) ≡ text_of_cells cells
text_of_cells-seen [] = refl
text_of_cells-seen (cell ∷ cells) = rw (character_of-seen cell, text_of_cells-seen cells) refl

byte-seen : (cell : Cell) → IsByte (seen cell) → IsByte cell
byte-seen (Byte c) h = tt
byte-seen _ h = h

pub bytes-seen : (cells : List Cell) → All IsByte (map seen cells) → All IsByte cells
bytes-seen [] h = λ k d within. absurd (omega arith)
bytes-seen (cell ∷ cells) h =
    All-cons IsByte cell cells (byte-seen cell (h 0 (Byte 0) (omega arith))) (bytes-seen cells (λ k d within. h (suc k) d (omega arith)))

pub length-seen : (cells part : List Cell) → map seen cells ≡ part → length cells ≡ length part
length-seen cells part e = sym (length-map cells seen) ∙ ap length e

flat-byte : (cell : Cell) → IsByte cell → Byte (character_of cell) ≡ cell
flat-byte (Byte c) h = refl
flat-byte _ h = absurd h

-- characters are the cells of their text
pub flat-bytes : (cells : List Cell) → All IsByte cells → flat_text (text_of_cells cells) ≡ cells
flat-bytes [] h = refl
flat-bytes (cell ∷ cells) h =
    let one = flat-byte cell (h 0 (Byte 0) (omega arith)) in
    let rest = flat-bytes cells (λ k d within. h (suc k) d (omega arith)) in
    rw (one, rest) refl

pub bytes-flat : (text : Text) → All IsByte (flat_text text)
bytes-flat text = All-map IsByte Byte text (λ k d within. tt)

-- ---- texts between comma marks

in_first-first : (c : ℕ) (texts : List Text) → argument (in_first c texts) 0 ≡ c ∷ argument texts 0
in_first-first c [] = refl
in_first-first c (t ∷ ts) = refl

-- the first of the texts that comma marks part
pub texts_of-first : (cells : List Cell) → argument (texts_of cells) 0 ≡ text_of_cells (take (before_comma cells) cells)
texts_of-first [] = refl
texts_of-first (Byte c ∷ cells) = in_first-first c (texts_of cells) ∙ ap (λ t. c ∷ t) (texts_of-first cells)
texts_of-first (Call mode k ∷ cells) = in_first-first 0 (texts_of cells) ∙ ap (λ t. 0 ∷ t) (texts_of-first cells)
texts_of-first (Comma ∷ cells) = refl
texts_of-first (Gap k ∷ cells) = in_first-first 0 (texts_of cells) ∙ ap (λ t. 0 ∷ t) (texts_of-first cells)
texts_of-first (Head k ∷ cells) = in_first-first 0 (texts_of cells) ∙ ap (λ t. 0 ∷ t) (texts_of-first cells)

-- the texts after the first: none if no comma mark follows it
later : List Cell → List Text
later [] = []
later (cell ∷ cells) = cond (is_comma cell) (texts_of cells) (later cells)

in_first-later : (c : ℕ) (texts : List Text) → drop 1 (in_first c texts) ≡ drop 1 texts
in_first-later c [] = refl
in_first-later c (t ∷ ts) = refl

texts_of-later : (cells : List Cell) → drop 1 (texts_of cells) ≡ later cells
unfolding later
texts_of-later [] = refl
texts_of-later (Byte c ∷ cells) = in_first-later c (texts_of cells) ∙ texts_of-later cells
texts_of-later (Call mode k ∷ cells) = in_first-later 0 (texts_of cells) ∙ texts_of-later cells
texts_of-later (Comma ∷ cells) = refl
texts_of-later (Gap k ∷ cells) = in_first-later 0 (texts_of cells) ∙ texts_of-later cells
texts_of-later (Head k ∷ cells) = in_first-later 0 (texts_of cells) ∙ texts_of-later cells

later-some : (cells : List Cell) → before_comma cells < length cells → later cells ≡ texts_of (drop (suc (before_comma cells)) cells)
unfolding later
later-some [] within = absurd (omega arith)
later-some (cell ∷ cells) within = go (is_comma cell) (later-some cells) within
  where
    go : (b : Bool) → (before_comma cells < length cells → later cells ≡ texts_of (drop (suc (before_comma cells)) cells)) → cond b 0 (suc (before_comma cells)) < suc (length cells) → cond b (texts_of cells) (later cells) ≡ texts_of (drop (cond b 0 (suc (before_comma cells))) cells)
    go true rest h = refl
    go false rest h = rest (omega arith)

later-none : (cells : List Cell) → length cells ≤ before_comma cells → later cells ≡ []
unfolding later
later-none [] within = refl
later-none (cell ∷ cells) within = go (is_comma cell) (later-none cells) within
  where
    go : (b : Bool) → (length cells ≤ before_comma cells → later cells ≡ []) → suc (length cells) ≤ cond b 0 (suc (before_comma cells)) → cond b (texts_of cells) (later cells) ≡ []
    go true rest h = absurd (omega arith)
    go false rest h = rest (omega arith)

-- ---- arguments taken one after the other

pub texts_from-some : (neutral : List Cell) (from end : ℕ) → from ≤ end → texts_from neutral from end ≡ texts_of (slice_range neutral from end)
texts_from-some neutral from end le = let yes : nat_le from end ≡ true = grind arith in rw yes refl

texts_from-none : (neutral : List Cell) (from end : ℕ) → end < from → texts_from neutral from end ≡ []
texts_from-none neutral from end lt = let no : nat_le from end ≡ false = grind arith in rw no refl

-- the cells of an argument, and the arguments after it
module _ (w : Contents) (a : Arguments) (are : AreArguments w a) (le : a.from ≤ a.end) where
  fits : a.from + before_comma (slice_range w.neutral a.from a.end) ≤ a.end
  fits = let within = are.within in omega (arith, before_comma-within (slice_range w.neutral a.from a.end), length-between w.neutral a.from a.end are.within)

  pub taken-text : part_text w.neutral a.from (a.from + before_comma (slice_range w.neutral a.from a.end)) ≡ argument (texts w a) 0
  taken-text =
      sym (ap (λ t. argument t 0) (texts_from-some w.neutral a.from a.end le)
      ∙ texts_of-first (slice_range w.neutral a.from a.end)
      ∙ ap text_of_cells (take-range w.neutral a.from (before_comma (slice_range w.neutral a.from a.end)) a.end fits))

  pub taken-rest : texts_from w.neutral (a.from + before_comma (slice_range w.neutral a.from a.end) + 1) a.end ≡ drop 1 (texts w a)
  taken-rest =
      let f = fits in
      let here = slice_range w.neutral a.from a.end in
      let long = length-between w.neutral a.from a.end are.within in
      sym (ap (drop 1) (texts_from-some w.neutral a.from a.end le) ∙ texts_of-later here
      ∙ ⊎_elim
      (λ more.
      let e : a.from + suc (before_comma here) ≡ a.from + before_comma here + 1 = omega arith in
      later-some here more
      ∙ ap texts_of (drop-range w.neutral a.from (suc (before_comma here)) a.end (omega arith))
      ∙ ap (λ k. texts_of (slice_range w.neutral k a.end)) e
      ∙ sym (texts_from-some w.neutral (a.from + before_comma here + 1) a.end (omega arith)))
      (λ last. later-none here last ∙ sym (texts_from-none w.neutral (a.from + before_comma here + 1) a.end (omega arith)))
      (cases_lt (before_comma here) (length here)))

-- no comma mark stands before the first
before_comma-none : (cells : List Cell) → All (λ cell. is_comma cell ≡ false) (take (before_comma cells) cells)
before_comma-none [] = λ k d within. absurd (omega arith)
before_comma-none (cell ∷ cells) = go (is_comma cell) refl (before_comma-none cells)
  where
    go : (b : Bool) → is_comma cell ≡ b → All (λ cell. is_comma cell ≡ false) (take (before_comma cells) cells) → All (λ cell. is_comma cell ≡ false) (take (cond b 0 (suc (before_comma cells))) (cell ∷ cells))
    go true e rest = λ k d within. absurd (omega arith)
    go false e rest = All-cons (λ cell. is_comma cell ≡ false) cell (take (before_comma cells) cells) e rest

-- a cell of neutral that is no mark is a character
byte-no_mark : (cell : Cell) → IsStringCell cell → is_call cell ≡ false → is_comma cell ≡ false → IsByte cell
byte-no_mark (Byte c) s call comma = tt
byte-no_mark (Call mode k) s call comma = absurd cc
byte-no_mark Comma s call comma = absurd cc
byte-no_mark (Gap k) s call comma = s
byte-no_mark (Head k) s call comma = s

string-range : (w : Contents) → IsSound w → (a b : ℕ) → All IsStringCell (slice_range w.neutral a b)
string-range w sound a b = All-take IsStringCell (b - a) (drop a w.neutral) (All-drop IsStringCell a w.neutral sound.neutral)

no_call-range : (cells : List Cell) (from n end : ℕ) → from + n ≤ end → NoCall (slice_range cells from end) → NoCall (slice_range cells from (from + n))
no_call-range cells from n end within h = subst NoCall (take-range cells from n end within) (All-take (λ cell. is_call cell ≡ false) n (slice_range cells from end) h)

no_call-later : (cells : List Cell) (from n end : ℕ) → from + n ≤ end → NoCall (slice_range cells from end) → NoCall (slice_range cells (from + n) end)
no_call-later cells from n end within h = subst NoCall (drop-range cells from n end within) (All-drop (λ cell. is_call cell ≡ false) n (slice_range cells from end) h)

pub taken-part : (w : Contents) (a : Arguments) → AreArguments w a → a.from ≤ a.end → IsTextPart w.neutral a.from (a.from + before_comma (slice_range w.neutral a.from a.end))
taken-part w a are le =
    let here = slice_range w.neutral a.from a.end in
    let n = before_comma here in
    let f : a.from + n ≤ a.end = fits w a are le in
    let inside = are.within in
    let part = slice_range w.neutral a.from (a.from + n) in
    let strings : All IsStringCell part = string-range w are.sound a.from (a.from + n) in
    let calls : NoCall part = no_call-range w.neutral a.from n a.end f are.no_call in
    let commas : All (λ cell. is_comma cell ≡ false) part = subst (λ (l : List Cell). All (λ cell. is_comma cell ≡ false) l) (take-range w.neutral a.from n a.end f) (before_comma-none here) in
    record {
      order = omega arith;
      within = omega arith;
      bytes = λ k d within. byte-no_mark (get_or part k d) (strings k d within) (calls k d within) (commas k d within);
    }

pub taken-left : (w : Contents) (a b : Arguments) → AreArguments w a → a.from ≤ a.end → b.from ≡ a.from + before_comma (slice_range w.neutral a.from a.end) + 1 → b.end ≡ a.end → AreArguments w b
taken-left w a b are le from_is end_is =
    let here = slice_range w.neutral a.from a.end in
    let n = before_comma here in
    let inside = are.within in
    let f : a.from + n ≤ a.end = fits w a are le in
    record {
      sound = are.sound;
      order = omega arith;
      within = omega arith;
      no_call = rw (from_is, end_is)
          (⊎_elim
          (λ more.
          let e : a.from + (n + 1) ≡ a.from + n + 1 = omega arith in
          subst (λ k. NoCall (slice_range w.neutral k a.end)) e (no_call-later w.neutral a.from (n + 1) a.end (omega arith) are.no_call))
          (λ last. let none : a.end - (a.from + n + 1) ≡ 0 = omega arith in rw none (λ k d within. absurd (omega arith)))
          (cases_lt (a.from + n) a.end));
    }

-- where no comma mark stands, all is before the first
before_comma-all : (cells : List Cell) → NoComma cells → before_comma cells ≡ length cells
before_comma-all [] h = refl
before_comma-all (cell ∷ cells) h = rw (h 0 (Byte 0) (omega arith), before_comma-all cells (λ k d within. h (suc k) d (omega arith))) refl

-- the last argument, which begins where no comma mark follows, goes up to the end
pub last-long : (w : Contents) (a : Arguments) → AreArguments w a → a.from ≤ a.end → (place : ℕ) → place ≤ a.from → NoComma (drop place w.neutral) → a.end ≡ a.from + before_comma (slice_range w.neutral a.from a.end)
last-long w a are le place late none =
    let No : Cell → Type 0 = λ cell. is_comma cell ≡ false in
    let n = a.from - place in
    let here : place + n ≡ a.from = omega (arith, late) in
    let behind = subst (λ k. NoComma (drop k w.neutral)) here (subst NoComma (drop-drop n place w.neutral) (All-drop No n (drop place w.neutral) none)) in
    let long = length-between w.neutral a.from a.end are.within in
    let whole = before_comma-all (slice_range w.neutral a.from a.end) (All-take No (a.end - a.from) (drop a.from w.neutral) behind) in
    omega arith

-- a part of no cells is a null text
pub null-part : (w : Contents) (end : ℕ) → end ≤ length w.neutral → IsTextPart w.neutral end end
null-part w end within =
    let none : end - end ≡ 0 = omega arith in
    record { order = omega arith; within = within; bytes = rw none (λ k d within. absurd (omega arith)) }

pub argument-later : (texts rest : List Text) → rest ≡ drop 1 texts → (k : ℕ) → argument rest k ≡ argument texts (k + 1)
argument-later texts rest e k = let swap : 1 + k ≡ k + 1 = omega arith in ap (λ l. argument l k) e ∙ get_or-drop 1 texts k [] ∙ ap (argument texts) swap

pub none-left : (w : Contents) (a : Arguments) → a.end < a.from → texts w a ≡ []
none-left w a past = texts_from-none w.neutral a.from a.end past

-- a part of neutral is no longer than a block
pub within-room : (w : Contents) (a b : ℕ) (cells : List Cell) → IsSound w → IsTextPart w.neutral a b → map seen cells ≡ slice_range w.neutral a b → length cells ≤ 16777216
within-room w a b cells sound part e =
    let long = length-seen cells (slice_range w.neutral a b) e in
    let fits = sound.fits in
    let bounded = sound.bounded in
    let within = part.within in
    omega (arith, long, length-between w.neutral a b part.within)

pub next-fits : (w : Contents) (a : Arguments) (n : ℕ) → AreArguments w a → a.from ≤ a.end → n ≡ before_comma (slice_range w.neutral a.from a.end) → a.from + n ≤ a.end
next-fits w a n are le e = rw e (fits w a are le)

-- a part has as many characters as cells
pub part-long : (neutral : List Cell) (a b : ℕ) → IsTextPart neutral a b → length (part_text neutral a b) ≡ b - a
part-long neutral a b part = length-map (slice_range neutral a b) character_of ∙ length-between neutral a b part.within

-- ---- the first argument, as its cells are read

module _ (w : Contents) (a : Arguments) (le : a.from ≤ a.end) (read : List Cell) (e : map seen read ≡ slice_range w.neutral a.from a.end) where
  pub first-read : text_of_cells (take (before_comma read) read) ≡ argument (texts w a) 0
  first-read =
      let n = before_comma read in
      sym (ap (λ t. argument t 0) (texts_from-some w.neutral a.from a.end le)
      ∙ texts_of-first (slice_range w.neutral a.from a.end)
      ∙ ap (λ l. text_of_cells (take (before_comma l) l)) (sym e)
      ∙ ap (λ n. text_of_cells (take n (map seen read))) (sym (found-comma read (map seen read) n refl refl))
      ∙ ap text_of_cells (take-map seen n read)
      ∙ text_of_cells-seen (take n read))

  -- the place behind it and its comma mark
  pub behind-first : (n : ℕ) → before_comma read ≡ n → a.from + (n + 1) ≡ a.from + before_comma (slice_range w.neutral a.from a.end) + 1
  behind-first n long = omega (arith, found-comma read _ n e (sym long))
