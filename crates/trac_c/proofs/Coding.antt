-- The codes of a neutral string, cell by cell.
use Rattle.trac_c.proofs.Imports.{◌≡◌, ℕ, ◌+◌, List, [], ◌∷◌, ◌++◌, length, sum_by, refl, sym, ap, ◌∙◌, arith, append_assoc, append-nil, length-append, Text, OpenCall, arguments, call_cells, Byte, Neutral, no_neutral, with_character, with_comma, with_cell, with_cells, neutral_of, mark_code, with_commas, calls_codes, codes_of_neutral, comma_code, cell_code, is_open_after, has_call, drop, take, get_or, ◌<◌, ◌≤◌, ◌-◌, min, ⊎_elim, length-drop, length-take-le, take_more, laid, laid_from}
use Rattle.std.specs.Prelude.{true}
use Rattle.std.proofs.lemmas.Bool.{cases_lt}
use Rattle.trac_functions.proofs.FlatLemmas.{neutral_of-push, with_cells-append}
use Rattle.std.proofs.lemmas.List.{drop-append-le, take-append-drop, take-take, take_all}
use Rattle.trac_c.proofs.Buffers.{laid-next, laid-over}
use Rattle.std.proofs.lemmas.List.Sums.{sum_by-cons}
use Rattle.trac_space.specs.declared.cell.Cell.{Cell}
use Rattle.trac_space.specs.declared.cell.Cell.TheVariants.{Call, Comma, Gap, Head}

with_commas-append : (texts : List Text) (text : Text) → with_commas (texts ++ text ∷ []) ≡ with_commas texts ++ (text ++ 258 ∷ [])
with_commas-append [] text = refl
with_commas-append (t ∷ texts) text =
    ap (λ l. t ++ 258 ∷ l) (with_commas-append texts text)
    ∙ sym (append_assoc t (258 ∷ with_commas texts) (text ++ 258 ∷ []))

codes-character : (calls : List OpenCall) (c : ℕ) (n : Neutral) → n.calls ≡ calls → codes_of_neutral (with_character calls c n) ≡ calls_codes calls n.base ++ c ∷ []
codes-character [] c n e = ap (λ calls. calls_codes calls (n.base ++ c ∷ [])) e
codes-character (call ∷ outer) c n e =
    sym (append_assoc (calls_codes outer n.base ++ mark_code call.mode ∷ with_commas call.earlier) call.last (c ∷ []))

codes-comma : (calls : List OpenCall) (n : Neutral) → n.calls ≡ calls → codes_of_neutral (with_comma calls n) ≡ calls_codes calls n.base ++ comma_code (has_call calls) ∷ []
codes-comma [] n e = ap (λ calls. calls_codes calls (n.base ++ 44 ∷ [])) e
codes-comma (call ∷ outer) n e =
    rw (append-nil (calls_codes outer n.base ++ mark_code call.mode ∷ with_commas (arguments call)), with_commas-append call.earlier call.last, append_assoc) (sym (rw append_assoc refl))

-- a cell more is a code more
pub codes-cell : (n : Neutral) (cell : Cell) → codes_of_neutral (with_cell n cell) ≡ codes_of_neutral n ++ cell_code (has_call n.calls) cell ∷ []
codes-cell n (Byte c) = codes-character n.calls c n refl
codes-cell n (Call mode k) = append-nil (codes_of_neutral n ++ mark_code mode ∷ [])
codes-cell n Comma = codes-comma n.calls n refl
codes-cell n (Gap k) = codes-character n.calls 0 n refl
codes-cell n (Head k) = codes-character n.calls 0 n refl

call-character : (calls : List OpenCall) (c : ℕ) (n : Neutral) → n.calls ≡ calls → has_call (with_character calls c n).calls ≡ has_call calls
call-character [] c n e = ap has_call e
call-character (call ∷ outer) c n e = refl

call-comma : (calls : List OpenCall) (n : Neutral) → n.calls ≡ calls → has_call (with_comma calls n).calls ≡ has_call calls
call-comma [] n e = ap has_call e
call-comma (call ∷ outer) n e = refl

pub call-cell : (n : Neutral) (cell : Cell) → has_call (with_cell n cell).calls ≡ is_open_after cell (has_call n.calls)
call-cell n (Byte c) = call-character n.calls c n refl
call-cell n (Call mode k) = refl
call-cell n Comma = call-comma n.calls n refl
call-cell n (Gap k) = call-character n.calls 0 n refl
call-cell n (Head k) = call-character n.calls 0 n refl

codes-length : (n : Neutral) (cells : List Cell) → length (codes_of_neutral (with_cells n cells)) ≡ length (codes_of_neutral n) + length cells
codes-length n [] = omega arith
codes-length n (cell ∷ cells) =
    let one = ap (λ l. length l) (codes-cell n cell) ∙ length-append (codes_of_neutral n) (cell_code (has_call n.calls) cell ∷ []) in
    omega (arith, one, codes-length (with_cell n cell) cells)

-- a neutral string has as many codes as cells
pub codes-count : (cells : List Cell) → length (codes_of_neutral (neutral_of cells)) ≡ length cells
codes-count cells = codes-length no_neutral cells ∙ omega arith

commas-length : (texts : List Text) → length (with_commas texts) ≡ sum_by (λ (text : Text). length text + 1) texts
commas-length [] = refl
commas-length (text ∷ texts) =
    length-append text (258 ∷ with_commas texts) ∙ sym (sum_by-cons (λ (text : Text). length text + 1) text texts ∙ omega (arith, commas-length texts))

calls-length : (calls : List OpenCall) (base : List ℕ) → length (calls_codes calls base) ≡ length base + sum_by call_cells calls
calls-length [] base = omega arith
calls-length (call ∷ outer) base =
    let opened = mark_code call.mode ∷ with_commas call.earlier in
    let first = length-append (calls_codes outer base) opened in
    let own = length-append (calls_codes outer base ++ opened) call.last in
    omega (arith, calls-length outer base, commas-length call.earlier, sum_by-cons call_cells call outer, first, own)

-- as many as the neutral string takes cells
pub codes-size : (n : Neutral) → length (codes_of_neutral n) ≡ length n.base + sum_by call_cells n.calls
codes-size n = calls-length n.calls n.base

-- a neutral string has as many codes as it has cells
pub neutral-length : (cells : List Cell) (n : Neutral) → neutral_of cells ≡ n → length cells ≡ length (codes_of_neutral n)
neutral-length cells n e = sym (codes-count cells) ∙ ap (λ n. length (codes_of_neutral n)) e

-- a call that is open stays open behind more cells
call-stays : (cells : List Cell) (n : Neutral) → has_call n.calls ≡ true → has_call (with_cells n cells).calls ≡ true
call-stays [] n e = e
call-stays (cell ∷ cells) n e =
    call-stays cells (with_cell n cell) (call-cell n cell ∙ ap (is_open_after cell) e ∙ open-after cell)
  where
    open-after : (cell : Cell) → is_open_after cell true ≡ true
    open-after (Byte c) = refl
    open-after (Call mode k) = refl
    open-after Comma = refl
    open-after (Gap k) = refl
    open-after (Head k) = refl

module _ (cells : List Cell) (i : ℕ) (within : i < length cells) where
  abbrev cell : Cell
  cell = get_or cells i (Byte 0)

  abbrev before : Neutral
  before = neutral_of (take i cells)

  pub next-neutral : neutral_of (take (i + 1) cells) ≡ with_cell before cell
  next-neutral = ap neutral_of (take_more cells i (Byte 0) within) ∙ neutral_of-push (take i cells) cell

  pub next-call : has_call (neutral_of (take (i + 1) cells)).calls ≡ is_open_after cell (has_call before.calls)
  next-call = ap (λ (n : Neutral). has_call n.calls) next-neutral ∙ call-cell before cell

  pub next-codes : codes_of_neutral (neutral_of (take (i + 1) cells)) ≡ codes_of_neutral before ++ cell_code (has_call before.calls) cell ∷ []
  next-codes = ap codes_of_neutral next-neutral ∙ codes-cell before cell

-- the first cells and the others
parted : (cells : List Cell) (k : ℕ) → neutral_of cells ≡ with_cells (neutral_of (take k cells)) (drop k cells)
parted cells k = ap neutral_of (sym (take-append-drop k cells)) ∙ with_cells-append no_neutral (take k cells) (drop k cells)

-- a call that is open somewhere is open from there on
pub call-before : (cells : List Cell) (i place : ℕ) → i ≤ place → place ≤ length cells → has_call (neutral_of (take i cells)).calls ≡ true → has_call (neutral_of (take place cells)).calls ≡ true
call-before cells i place le within e =
    let front : take i (take place cells) ≡ take i cells = take-take i place cells le in
    ap (λ (n : Neutral). has_call n.calls) (parted (take place cells) i)
    ∙ call-stays (drop i (take place cells)) (neutral_of (take i (take place cells))) (ap (λ cells. has_call (neutral_of cells).calls) front ∙ e)

codes-more : (n : Neutral) (cells : List Cell) → (more : List ℕ) × (codes_of_neutral (with_cells n cells) ≡ codes_of_neutral n ++ more)
codes-more n [] = ([], sym (append-nil (codes_of_neutral n)))
codes-more n (cell ∷ cells) =
    let rest = codes-more (with_cell n cell) cells in
    let code = cell_code (has_call n.calls) cell in
    (code ∷ rest.0, rest.1 ∙ ap (λ l. l ++ rest.0) (codes-cell n cell) ∙ append_assoc (codes_of_neutral n) (code ∷ []) rest.0)

-- the codes from a place on: those of the first cells are enough for a buffer that they fill
pub codes-enough : (cells : List Cell) (from k : ℕ) (room : List ℕ) → from ≤ k → k ≤ length cells → length room ≤ k - from → laid (drop from (codes_of_neutral (neutral_of (take k cells)))) room ≡ laid (drop from (codes_of_neutral (neutral_of cells))) room
codes-enough cells from k room le within full =
    let front = codes_of_neutral (neutral_of (take k cells)) in
    let more = codes-more (neutral_of (take k cells)) (drop k cells) in
    let all : codes_of_neutral (neutral_of cells) ≡ front ++ more.0 = ap codes_of_neutral (parted cells k) ∙ more.1 in
    let count : length front ≡ k = codes-count (take k cells) ∙ length-take-le k cells within in
    let parts : drop from (front ++ more.0) ≡ drop from front ++ more.0 = drop-append-le from front more.0 (omega (arith, count)) in
    sym (ap (λ l. laid (drop from l) room) all ∙ ap (λ l. laid l room) parts ∙ laid-over (drop from front) more.0 room (omega (arith, count, length-drop from front)))

-- the codes up to a place are enough for a buffer where that is full, or where they are all
pub codes-end : (cells : List Cell) (from i : ℕ) (room : List ℕ) → from + i ≤ length cells → min (length cells - from) (length room) ≤ i → laid (drop from (codes_of_neutral (neutral_of (take (from + i) cells)))) room ≡ laid (drop from (codes_of_neutral (neutral_of cells))) room
codes-end cells from i room within least = ⊎_elim full all (cases_lt i (length room))
  where
    full : i < length room → laid (drop from (codes_of_neutral (neutral_of (take (from + i) cells)))) room ≡ laid (drop from (codes_of_neutral (neutral_of cells))) room
    full less = ap (λ cells. laid (drop from (codes_of_neutral (neutral_of cells))) room) (take_all (from + i) cells (omega (arith, least, less)))

    all : length room ≤ i → laid (drop from (codes_of_neutral (neutral_of (take (from + i) cells)))) room ≡ laid (drop from (codes_of_neutral (neutral_of cells))) room
    all few = codes-enough cells from (from + i) room (omega arith) within (omega (arith, few))

-- one code more is put, of those from place `from` on
pub codes-laid : (cells : List Cell) (from i : ℕ) (room r₁ r₂ : List ℕ) → from + i < length cells → r₁ ≡ laid (drop from (codes_of_neutral (neutral_of (take (from + i) cells)))) room → r₂ ≡ laid_from i (cell_code (has_call (neutral_of (take (from + i) cells)).calls) (get_or cells (from + i) (Byte 0)) ∷ []) r₁ → r₂ ≡ laid (drop from (codes_of_neutral (neutral_of (take (from + (i + 1)) cells)))) room
codes-laid cells from i room r₁ r₂ within first then =
    let k = from + i in
    let codes = codes_of_neutral (neutral_of (take k cells)) in
    let code = cell_code (has_call (neutral_of (take k cells)).calls) (get_or cells k (Byte 0)) in
    let count : length codes ≡ k = codes-count (take k cells) ∙ length-take-le k cells (omega arith) in
    let parts : drop from (codes ++ code ∷ []) ≡ drop from codes ++ code ∷ [] = drop-append-le from codes (code ∷ []) (omega (arith, count)) in
    let place : from + (i + 1) ≡ k + 1 = omega arith in
    laid-next i (drop from codes) (code ∷ []) room r₁ r₂ (omega (arith, count, length-drop from codes)) first then
    ∙ ap (λ l. laid l room) (sym (ap (λ k. drop from (codes_of_neutral (neutral_of (take k cells)))) place ∙ ap (drop from) (next-codes cells k within) ∙ parts))
