-- The open calls of a neutral string, by the places of their marks.
use Rattle.trac_core.proofs.Imports.{true, false, ◌∷◌, ◌≢◌, ⊎_elim, MatchOption, Neutral, OpenCall, with_cell, cases_Bool, cases_lt, eq-eqb, ne_eqb, get_or, take_more, sum_by-cons, seen, slice_get, unwrap_or, unwrap_or-slice_get, mode_of, Active, ◌≡◌, ℕ, zero, suc, ◌+◌, ◌-◌, ◌<◌, ◌≤◌, List, [], Option, Some, None, length, take, sum_by, refl, sym, ap, ◌∙◌, arith, length-take-le, take-take, Cell, Byte, is_call, NoCall, IsLastCall, neutral_of, mode_at}
use Rattle.trac_language.specs.State.{call_cells}
use Rattle.trac_functions.proofs.FlatLemmas.{neutral_of-innermost, neutral_of-push, grown-mode, calls-none, size-used}
use Rattle.std.proofs.lemmas.List.{get_or-take}
use Rattle.trac_space.specs.Cells.{IsCallAt}
use Rattle.std.specs.Option.{option_map}
use Rattle.std.proofs.lemmas.List.{take_all}
use Rattle.trac_functions.specs.Flat.{with_character, with_comma}
use Rattle.trac_space.specs.declared.cell.Cell.TheVariants.{Call, Comma, Gap, Head}
use Rattle.trac_core.specs.OpenCalls.{call_places, cells_before, mark_of, next_after, places_within}
use Rattle.trac_core.specs.declared.machine.open_calls.CallMark.{CallMark}

-- each cell of a neutral string counts once
cells-neutral : (cells : List Cell) → length (neutral_of cells).base + sum_by call_cells (neutral_of cells).calls ≡ length cells
cells-neutral cells =
    let all = size-used 0 (record { forms = []; neutral = cells; active = []; room = 0 }) in
    omega arith

-- those before a place
cells-before : (cells : List Cell) (place : ℕ) → place ≤ length cells → length (neutral_of (take place cells)).base + sum_by call_cells (neutral_of (take place cells)).calls ≡ place
cells-before cells place within = cells-neutral (take place cells) ∙ length-take-le place cells within

-- the mark of the call with this number around one, the call itself being 0, whose mark stands at a place
abbrev pub mark_from : ℕ → List Cell → ℕ → Option CallMark
mark_from zero cells place = Some (record { mode = mode_at cells place; place = place })
mark_from (suc number) cells place = mark_of number (neutral_of (take place cells))

-- the calls are counted from the innermost one
pub mark-last : (number : ℕ) (cells : List Cell) (place : ℕ) → IsLastCall cells place → mark_of number (neutral_of cells) ≡ mark_from number cells place
mark-last zero cells place last =
    rw (neutral_of-innermost cells place last, cells-before cells place (omega (arith, last.mark.0)), grown-mode) refl
mark-last (suc number) cells place last = rw (neutral_of-innermost cells place last) refl

pub mark-none : (number : ℕ) (cells : List Cell) → NoCall cells → mark_of number (neutral_of cells) ≡ None
mark-none number cells none = rw (calls-none cells none) refl

-- from one call to the one around it
pub mark-around : (number : ℕ) (cells : List Cell) (place around : ℕ) → place ≤ length cells → IsLastCall (take place cells) around → mark_from (suc number) cells place ≡ mark_from number cells around
mark-around number cells place around within last =
    mark-last number (take place cells) around last ∙ same number
  where
    below : around < place
    below = omega (arith, last.mark.0, length-take-le place cells within)

    same : (number : ℕ) → mark_from number (take place cells) around ≡ mark_from number cells around
    same zero = ap (λ cell. Some (record { mode = mode_of cell; place = around })) (get_or-take place cells around (Byte 0) below)
    same (suc number) = ap (λ cells. mark_of number (neutral_of cells)) (take-take around place cells (omega (arith, below)))

-- a mark among the first cells
pub call-in_front : (cells : List Cell) (bound place : ℕ) → bound ≤ length cells → IsCallAt (take bound cells) place → (place < bound) × IsCallAt cells place
call-in_front cells bound place within mark =
    let below : place < bound = omega (arith, mark.0, length-take-le bound cells within) in
    (below, (omega arith, ap is_call (sym (get_or-take bound cells place (Byte 0) below)) ∙ mark.1))

-- behind the last cell no call has its mark
pub mode-none : (cells : List Cell) (place : ℕ) → slice_get cells place ≡ None → Active ≡ mode_at cells place
mode-none cells place none =
    ap mode_of (ap (λ cell. unwrap_or cell (Byte 0)) (sym none) ∙ unwrap_or-slice_get cells place (Byte 0))

-- the call that is wanted, from one call and from the one around it
pub mark-further : (number inner : ℕ) (cells : List Cell) (place around : ℕ) → inner < number → place < length cells → IsLastCall (take place cells) around → mark_of number (neutral_of cells) ≡ mark_from (number - inner) cells place → IsCallAt cells around × (mark_of number (neutral_of cells) ≡ mark_from (number - (inner + 1)) cells around)
mark-further number inner cells place around more within last is =
    let e : number - inner ≡ suc (number - (inner + 1)) = omega (arith, more) in
    let front = call-in_front cells place around (omega (arith, within)) last.mark in
    (front.1, is ∙ ap (λ n. mark_from n cells place) e ∙ mark-around (number - (inner + 1)) cells place around (omega (arith, within)) last)

-- it is none where no call is open around the one that was reached
pub mark-outside : (number inner : ℕ) (cells : List Cell) (place : ℕ) → inner < number → NoCall (take place cells) → mark_of number (neutral_of cells) ≡ mark_from (number - inner) cells place → mark_of number (neutral_of cells) ≡ None
mark-outside number inner cells place more none is =
    let e : number - inner ≡ suc (number - (inner + 1)) = omega (arith, more) in
    is ∙ ap (λ n. mark_from n cells place) e ∙ mark-none (number - (inner + 1)) (take place cells) none

-- ---- the places of the marks

places-character : (calls : List OpenCall) (c : ℕ) (n : Neutral) → n.calls ≡ calls → call_places (with_character calls c n) ≡ call_places n
places-character [] c n e = rw e refl
places-character (call ∷ outer) c n e = rw e refl

places-comma : (calls : List OpenCall) (n : Neutral) → n.calls ≡ calls → call_places (with_comma calls n) ≡ call_places n
places-comma [] n e = rw e refl
places-comma (call ∷ outer) n e = rw e refl

-- a mark more is a place more, and another cell none
places-mark : (n : Neutral) (cell : Cell) → is_call cell ≡ true → call_places (with_cell n cell) ≡ cells_before (length n.base) n.calls ∷ call_places n
places-mark n (Byte c) e = absurd cc
places-mark n (Call mode k) e = refl
places-mark n Comma e = absurd cc
places-mark n (Gap k) e = absurd cc
places-mark n (Head k) e = absurd cc

places-other : (n : Neutral) (cell : Cell) → is_call cell ≡ false → call_places (with_cell n cell) ≡ call_places n
places-other n (Byte c) e = places-character n.calls c n refl
places-other n (Call mode k) e = absurd cc
places-other n Comma e = places-comma n.calls n refl
places-other n (Gap k) e = places-character n.calls 0 n refl
places-other n (Head k) e = places-character n.calls 0 n refl

-- a place past them all has none after it
after-past : (base : ℕ) (calls : List OpenCall) (place : ℕ) → base + sum_by call_cells calls ≤ place → next_after (Some place) (places_within base calls) ≡ None
after-past base [] place past = refl
after-past base (call ∷ outer) place past =
    let more = sum_by-cons call_cells call outer in
    rw (ne_eqb place (cells_before base outer) (λ e. omega (arith, e, more, past))) (after-past base outer place (omega (arith, more, past)))

-- each place is among the cells
place-within : (base : ℕ) (calls : List OpenCall) (k place : ℕ) → slice_get (places_within base calls) k ≡ Some place → place < base + sum_by call_cells calls
place-within base [] k place e = absurd cc
place-within base (call ∷ outer) zero place e =
    let is : place ≡ cells_before base outer = cc in
    omega (arith, is, sum_by-cons call_cells call outer)
place-within base (call ∷ outer) (suc k) place e = omega (arith, place-within base outer k place e, sum_by-cons call_cells call outer)

-- behind the place with a number comes the one with the next number
after-numbered : (base : ℕ) (calls : List OpenCall) (k place : ℕ) → slice_get (places_within base calls) k ≡ Some place → next_after (Some place) (places_within base calls) ≡ slice_get (places_within base calls) (suc k)
after-numbered base [] k place e = absurd cc
after-numbered base (call ∷ outer) zero place e =
    let is : place ≡ cells_before base outer = cc in
    rw (eq-eqb place (cells_before base outer) is) refl
after-numbered base (call ∷ outer) (suc k) place e =
    rw (ne_eqb place (cells_before base outer) (λ is. omega (arith, is, place-within base outer k place e))) (after-numbered base outer k place e)

pub after-place : (n : Neutral) (k place : ℕ) → slice_get (call_places n) k ≡ Some place → next_after (Some place) (call_places n) ≡ slice_get (call_places n) (k + 1)
after-place n k place e = after-numbered (length n.base) n.calls k place e ∙ ap (slice_get (call_places n)) (omega arith)

-- no more calls are open than there are cells
places-few : (base : ℕ) (calls : List OpenCall) → length (places_within base calls) ≤ base + sum_by call_cells calls
places-few base [] = omega arith
places-few base (call ∷ outer) = omega (arith, places-few base outer, sum_by-cons call_cells call outer)

pub marks-few : (n : Neutral) → length (call_places n) ≤ length n.base + sum_by call_cells n.calls
marks-few n = places-few (length n.base) n.calls

-- the first of the places is that of the last mark
pub first-place : (cells : List Cell) (r : Option ℕ) → MatchOption r (NoCall cells) (λ place. IsLastCall cells place) → r ≡ slice_get (call_places (neutral_of cells)) 0
first-place cells None none = rw (calls-none cells none) refl
first-place cells (Some place) last =
    rw (neutral_of-innermost cells place last, cells-before cells place (omega (arith, last.mark.0))) refl

module _ (cells : List Cell) where
  -- the places of the marks among the first cells
  abbrev among : ℕ → List ℕ
  among i = call_places (neutral_of (take i cells))

  module _ (i : ℕ) (within : i < length cells) where
    abbrev cell : Cell
    cell = get_or cells i (Byte 0)

    next-neutral : neutral_of (take (i + 1) cells) ≡ with_cell (neutral_of (take i cells)) cell
    next-neutral = ap neutral_of (take_more cells i (Byte 0) within) ∙ neutral_of-push (take i cells) cell

    among-mark : is_call cell ≡ true → among (i + 1) ≡ i ∷ among i
    among-mark e =
        ap call_places next-neutral ∙ places-mark (neutral_of (take i cells)) cell e
        ∙ ap (λ k. k ∷ among i) (cells-before cells i (omega arith))

    among-other : is_call cell ≡ false → among (i + 1) ≡ among i
    among-other e = ap call_places next-neutral ∙ places-other (neutral_of (take i cells)) cell e

    -- a cell at another place changes nothing of what comes after a place
    passed-over : (place : ℕ) (answer : Option ℕ) → place ≢ i → next_after (Some place) (among i) ≡ answer → next_after (Some place) (among (i + 1)) ≡ answer
    passed-over place answer other is = ⊎_elim mark none (cases_Bool (is_call cell))
      where
        mark : is_call cell ≡ true → next_after (Some place) (among (i + 1)) ≡ answer
        mark e = ap (next_after (Some place)) (among-mark e) ∙ rw (ne_eqb place i other) is

        none : is_call cell ≡ false → next_after (Some place) (among (i + 1)) ≡ answer
        none e = ap (next_after (Some place)) (among-other e) ∙ is

  module _ (place : ℕ) where
    further : (more : ℕ) (answer : Option ℕ) → place + 1 + more ≤ length cells → next_after (Some place) (among (place + 1)) ≡ answer → next_after (Some place) (among (place + 1 + more)) ≡ answer
    further zero answer within is = ap (λ i. next_after (Some place) (among i)) (omega arith) ∙ is
    further (suc more) answer within is =
        let next : place + 1 + suc more ≡ place + 1 + more + 1 = omega arith in
        ap (λ i. next_after (Some place) (among i)) next
        ∙ passed-over (place + 1 + more) (omega (arith, within)) place answer (λ e. omega (arith, e)) (further more answer (omega (arith, within)) is)

    -- what comes after a place is found by the cells up to it
    up_to : (answer : Option ℕ) → place < length cells → next_after (Some place) (among (place + 1)) ≡ answer → next_after (Some place) (call_places (neutral_of cells)) ≡ answer
    up_to answer within is =
        let all : place + 1 + (length cells - (place + 1)) ≡ length cells = omega (arith, within) in
        sym (ap (λ i. next_after (Some place) (among i)) all ∙ ap (λ cells. next_after (Some place) (call_places (neutral_of cells))) (take_all (length cells) cells (omega arith)))
        ∙ further (length cells - (place + 1)) answer (omega (arith, within)) is

    -- after the place of a mark comes that of the last mark before it
    pub around-mark : IsCallAt cells place → next_after (Some place) (call_places (neutral_of cells)) ≡ slice_get (among place) 0
    around-mark mark =
        up_to (slice_get (among place) 0) mark.0 (ap (next_after (Some place)) (among-mark place mark.0 mark.1) ∙ rw (eq-eqb place place refl) refl)

    -- after a place without a mark comes none
    pub around-other : is_call (get_or cells place (Byte 0)) ≡ false → next_after (Some place) (call_places (neutral_of cells)) ≡ None
    around-other e = ⊎_elim within past (cases_lt place (length cells))
      where
        within : place < length cells → next_after (Some place) (call_places (neutral_of cells)) ≡ None
        within inside =
            up_to None inside (ap (next_after (Some place)) (among-other place inside e) ∙ after-past _ _ place (omega (arith, cells-before cells place (omega (arith, inside)))))

        past : length cells ≤ place → next_after (Some place) (call_places (neutral_of cells)) ≡ None
        past outside = after-past _ _ place (omega (arith, cells-neutral cells, outside))

-- the cell at a place, as it is read
pub read-cell : (cells : List Cell) (place : ℕ) (read : Option Cell) → option_map seen read ≡ slice_get cells place → is_call (unwrap_or read (Byte 0)) ≡ is_call (get_or cells place (Byte 0))
read-cell cells place read is =
    same read ∙ ap (λ cell. is_call (unwrap_or cell (Byte 0))) is ∙ ap is_call (unwrap_or-slice_get cells place (Byte 0))
  where
    of-seen : (cell : Cell) → is_call cell ≡ is_call (seen cell)
    of-seen (Byte c) = refl
    of-seen _ = refl

    same : (read : Option Cell) → is_call (unwrap_or read (Byte 0)) ≡ is_call (unwrap_or (option_map seen read) (Byte 0))
    same None = refl
    same (Some cell) = of-seen cell

-- a mark stands at no place past the cells
pub call-within : (cells : List Cell) (place : ℕ) → is_call (get_or cells place (Byte 0)) ≡ true → place < length cells
call-within [] place e = absurd cc
call-within (cell ∷ cells) zero e = omega arith
call-within (cell ∷ cells) (suc place) e = omega (arith, call-within cells place e)
