-- How a walk over a body makes gaps of a text.
use Rattle.trac_store.proofs.Imports.{◌≡◌, ℕ, zero, suc, ◌+◌, ◌-◌, ◌<◌, ◌≤◌, ◌&&◌, Bool, true, false, List, [], ◌∷◌, ◌++◌, length, take, drop, map, slice_range, set, refl, sym, ap, ◌∙◌, arith, rules, places, same_lists, append_assoc, append-nil, drop-drop, drop_all, take_all, take_at, take-take, take_more_set, and-false, false≢true}
use Rattle.trac_store.proofs.Imports.{Cell, Byte, Gap, seen, character_of, is_byte, begins_cells, text_cells_at, segment_cells, character-seen, NonePasses}
use Rattle.trac_store.proofs.FlatLemmas.{drop-part}

is_byte-seen : (b : ℕ) (cell : Cell) → is_byte b (seen cell) ≡ is_byte b cell
is_byte-seen b (Byte c) = refl
is_byte-seen b cell = refl

pub bytes-seen : (cells : List Cell) → map character_of (map seen cells) ≡ map character_of cells
bytes-seen [] = refl
bytes-seen (cell ∷ cells) = let e = character-seen cell in let f = bytes-seen cells in rw (e, f)

pub begins-map_seen : (text : List ℕ) (cells : List Cell) → begins_cells text (map seen cells) ≡ begins_cells text cells
begins-map_seen [] cells = refl
begins-map_seen (b ∷ text) [] = refl
begins-map_seen (b ∷ text) (cell ∷ cells) = let e = is_byte-seen b cell in let f = begins-map_seen text cells in rw (e, f)

-- cells that begin with a text are as many
pub begins-length : (text : List ℕ) (cells : List Cell) → begins_cells text cells ≡ true → length text ≤ length cells
begins-length [] cells h = omega arith
begins-length (b ∷ text) [] h = absurd (false≢true h)
begins-length (b ∷ text) (cell ∷ cells) h = go (begins-length text cells) (is_byte b cell) h
  where
    go : (begins_cells text cells ≡ true → length text ≤ length cells) → (same : Bool) → same && begins_cells text cells ≡ true → suc (length text) ≤ suc (length cells)
    go rest true p = omega (arith, rest p)
    go rest false p = absurd (false≢true p)

-- fewer cells don't begin with it
pub begins-few : (text : List ℕ) (cells : List Cell) → length cells < length text → begins_cells text cells ≡ false
begins-few [] cells h = absurd (omega arith)
begins-few (b ∷ text) [] h = refl
begins-few (b ∷ text) (cell ∷ cells) h = let e = begins-few text cells (omega arith) in rw (e, and-false)

segment-skip : (text : List ℕ) (k n : ℕ) (cells : List Cell) → segment_cells text k n cells ≡ segment_cells text k 0 (drop n cells)
segment-skip text k zero cells = refl
segment-skip text k (suc n) [] = refl
segment-skip text k (suc n) (cell ∷ cells) = segment-skip text k n cells

-- an occurrence becomes a gap
pub segment-found : (text : List ℕ) (k : ℕ) (cells : List Cell) → 0 < length text → begins_cells text cells ≡ true → segment_cells text k 0 cells ≡ Gap k ∷ segment_cells text k 0 (drop (length text) cells)
segment-found [] k cells some h = absurd (omega arith)
segment-found (b ∷ text) k [] some h = absurd (false≢true h)
segment-found (b ∷ text) k (cell ∷ cells) some h =
    let e : suc (length text) - 1 ≡ length text = omega arith in
    rw h (ap (λ n. Gap k ∷ segment_cells (b ∷ text) k n cells) e ∙ ap (λ cs. Gap k ∷ cs) (segment-skip (b ∷ text) k (length text) cells))

-- any other cell stays
pub segment-other : (text : List ℕ) (k : ℕ) (cell : Cell) (cells : List Cell) → begins_cells text (cell ∷ cells) ≡ false → segment_cells text k 0 (cell ∷ cells) ≡ cell ∷ segment_cells text k 0 cells
segment-other text k cell cells h = rw h

-- cells stay up to the first occurrence
pub segment-first : (text : List ℕ) (k : ℕ) (cells : List Cell) (n : ℕ) → NonePasses (text_cells_at text cells) 0 n → segment_cells text k 0 cells ≡ take n cells ++ segment_cells text k 0 (drop n cells)
segment-first text k cells zero none = refl
segment-first text k [] (suc n) none = refl
segment-first text k (cell ∷ cells) (suc n) none =
    segment-other text k cell cells (none 0 (omega arith) (omega arith))
    ∙ ap (λ l. cell ∷ l) (segment-first text k cells n (λ i above below. none (suc i) (omega arith) (omega (arith, below))))

-- all cells stay where the text stands nowhere
pub segment-none : (text : List ℕ) (k : ℕ) (cells : List Cell) → NonePasses (text_cells_at text cells) 0 (length cells) → segment_cells text k 0 cells ≡ cells
segment-none text k cells none =
    segment-first text k cells (length cells) none
    ∙ ap (λ l. take (length cells) cells ++ segment_cells text k 0 l) (drop_all (length cells) cells (omega arith))
    ∙ append-nil (take (length cells) cells)
    ∙ take_all (length cells) cells (omega arith)

-- cells that are read move to where others were
module _ (was now moved : List Cell) (read write place : ℕ) (order : write ≤ read) (up : read ≤ place) (within : place ≤ length was) (len : length now ≡ length was) (rest : drop read now ≡ drop read was) (is : moved ≡ take write now ++ slice_range now read place ++ drop (write + (place - read)) now) where
  read-kept : slice_range now read place ≡ slice_range was read place
  read-kept = ap (take (place - read)) rest

  pub moved-len : length moved ≡ length was
  moved-len = rw is (search (rules, places)) ∙ len

  pub moved-front : take (write + (place - read)) moved ≡ take write now ++ slice_range was read place
  moved-front =
      let front = take write now ++ slice_range now read place in
      let size : length front ≡ write + (place - read) = search (rules, places) in
      ap (take (write + (place - read))) is ∙ take_at front (drop (write + (place - read)) now) (write + (place - read)) size ∙ ap (λ l. take write now ++ l) read-kept

  pub moved-rest : (m : ℕ) → write + (place - read) ≤ m → read ≤ m → drop m moved ≡ drop m was
  moved-rest m above behind =
      let same : drop m moved ≡ drop m now = rw is (same_lists _ _ (search (rules, places)) (λ k d less. grind (arith, places))) in
      let e : read + (m - read) ≡ m = omega (arith, behind) in
      same ∙ ap (λ i. drop i now) (sym e) ∙ sym (drop-drop (m - read) read now) ∙ ap (drop (m - read)) rest ∙ drop-drop (m - read) read was ∙ ap (λ i. drop i was) e

  module _ (text : List ℕ) (k to : ℕ) (all : List Cell) (end : to ≤ length was) (written : take write now ++ segment_cells text k 0 (slice_range was read to) ≡ all) where
    -- up to an occurrence, which becomes a gap
    pub written-gap : 0 < length text → place + length text ≤ to → NonePasses (text_cells_at text (slice_range was read to)) 0 (place - read) → text_cells_at text (slice_range was read to) (place - read) ≡ true → take (write + (place - read) + 1) (set moved (write + (place - read)) (Gap k)) ++ segment_cells text k 0 (slice_range was (place + length text) to) ≡ all
    written-gap some short none found =
        let n = place - read in
        let cells = slice_range was read to in
        let e : read + n ≡ place = omega (arith, up) in
        let here : drop n cells ≡ slice_range was place to = drop-part was read n to (omega (arith, e, short)) ∙ ap (λ i. slice_range was i to) e in
        let front : take n cells ≡ slice_range was read place = take-take n (to - read) (drop read was) (omega (arith, short)) in
        let split = segment-first text k cells n none ∙ ap (λ l. l ++ segment_cells text k 0 (drop n cells)) front ∙ ap (λ l. slice_range was read place ++ l) (segment-found text k (drop n cells) some found ∙ ap (λ l. Gap k ∷ segment_cells text k 0 (drop (length text) l)) here ∙ ap (λ l. Gap k ∷ segment_cells text k 0 l) (drop-part was place (length text) to short)) in
        let put = take_more_set moved (write + n) (Gap k) (omega (arith, moved-len, order, up, within, some, short, end)) in
        let rest_is = segment_cells text k 0 (slice_range was (place + length text) to) in
        ap (λ l. l ++ rest_is) put
        ∙ append_assoc (take (write + n) moved) (Gap k ∷ []) rest_is
        ∙ ap (λ l. l ++ (Gap k ∷ rest_is)) moved-front
        ∙ append_assoc (take write now) (slice_range was read place) (Gap k ∷ rest_is)
        ∙ ap (λ l. take write now ++ l) (sym split)
        ∙ written

    -- up to the end, behind the last one
    pub written-end : place ≡ to → NonePasses (text_cells_at text (slice_range was read to)) 0 (length (slice_range was read to)) → take (write + (place - read)) moved ≡ all
    written-end last none =
        moved-front ∙ ap (λ i. take write now ++ slice_range was read i) last ∙ ap (λ l. take write now ++ l) (sym (segment-none text k (slice_range was read to) none)) ∙ written
