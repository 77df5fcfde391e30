-- The memory that cells stand for, cell by cell.
use Rattle.trac_functions.proofs.Imports.{◌≡◌, ℕ, suc, ◌+◌, ◌<◌, false, IsTrue, List, [], ◌∷◌, ◌++◌, length, take, drop, sum_by, refl, sym, ap, ◌∙◌, arith, append_assoc, append-nil, length-append, get_or, take-append-drop, drop_more, length-map, sum_by-append, sum_by-cons, Mode, Text, Form, OpenCall}
use Rattle.trac_functions.proofs.Imports.{arguments, call_cells, size, add, begin_call, Cell, Byte, Call, Comma, Gap, Head, is_call, NoCall, IsLastCall, flat_text, text_of_cells, character_of, Contents, used, Neutral, no_neutral, with_character, with_comma, with_cell, with_cells, neutral_of}
use Rattle.trac_functions.proofs.Imports.{memory_with, memory_of, in_first, with_first, texts_of, mode_of, mode_at, arguments_at}

pub with_cells-append : (n : Neutral) (xs ys : List Cell) → with_cells n (xs ++ ys) ≡ with_cells (with_cells n xs) ys
with_cells-append n [] ys = refl
with_cells-append n (x ∷ xs) ys = with_cells-append (with_cell n x) xs ys

-- the neutral string of cells with one more cell at the end
pub neutral_of-push : (cells : List Cell) (cell : Cell) → neutral_of (cells ++ cell ∷ []) ≡ with_cell (neutral_of cells) cell
neutral_of-push cells cell = with_cells-append no_neutral cells (cell ∷ [])

-- ---- each cell counts once

-- the cells of a neutral string
abbrev pub neutral_cells : Neutral → ℕ
neutral_cells n = length n.base + sum_by call_cells n.calls

call_cells-last : (call : OpenCall) (c : ℕ) → call_cells (record call { last = call.last ++ c ∷ [] }) ≡ suc (call_cells call)
call_cells-last call c = rw (length-append call.last (c ∷ [])) (omega arith)

call_cells-comma : (call : OpenCall) → call_cells (record call { earlier = arguments call; last = [] }) ≡ suc (call_cells call)
call_cells-comma call =
    let weight = λ (text : Text). length text + 1 in
    rw (sum_by-append weight call.earlier (call.last ∷ []), sum_by-cons weight call.last []) (omega arith)

with_character-cells : (calls : List OpenCall) (c : ℕ) (n : Neutral) → n.calls ≡ calls → neutral_cells (with_character calls c n) ≡ suc (neutral_cells n)
with_character-cells [] c n e = rw (length-append n.base (c ∷ [])) (omega arith)
with_character-cells (call ∷ outer) c n e =
    rw (e, sum_by-cons call_cells (record call { last = call.last ++ c ∷ [] }) outer, sum_by-cons call_cells call outer, call_cells-last call c) (omega arith)

with_comma-cells : (calls : List OpenCall) (n : Neutral) → n.calls ≡ calls → neutral_cells (with_comma calls n) ≡ suc (neutral_cells n)
with_comma-cells [] n e = rw (length-append n.base (44 ∷ [])) (omega arith)
with_comma-cells (call ∷ outer) n e =
    rw (e, sum_by-cons call_cells (record call { earlier = arguments call; last = [] }) outer, sum_by-cons call_cells call outer, call_cells-comma call) (omega arith)

with_cell-cells : (n : Neutral) (cell : Cell) → neutral_cells (with_cell n cell) ≡ suc (neutral_cells n)
with_cell-cells n (Byte c) = with_character-cells n.calls c n refl
with_cell-cells n (Call mode k) = rw (sum_by-cons call_cells (record { mode = mode; earlier = []; last = [] }) n.calls) (omega arith)
with_cell-cells n Comma = with_comma-cells n.calls n refl
with_cell-cells n (Gap k) = with_character-cells n.calls 0 n refl
with_cell-cells n (Head k) = with_character-cells n.calls 0 n refl

with_cells-cells : (n : Neutral) (cells : List Cell) → neutral_cells (with_cells n cells) ≡ neutral_cells n + length cells
with_cells-cells n [] = omega arith
with_cells-cells n (cell ∷ cells) = let one = with_cell-cells n cell in let rest = with_cells-cells (with_cell n cell) cells in omega arith

-- the size of a memory is the cells that are used
pub size-used : (meta : ℕ) (w : Contents) → size (memory_of meta w) ≡ used w
size-used meta w =
    let all = with_cells-cells no_neutral w.neutral in
    let text : length (text_of_cells w.active) ≡ length w.active = length-map w.active character_of in
    omega arith

-- ---- texts

-- a text at the end of a neutral string is the text added
pub with_cells-text : (text : Text) (n : Neutral) (active : Text) (forms : List Form) (meta : ℕ) → memory_with (with_cells n (flat_text text)) active forms meta ≡ add text (memory_with n active forms meta)
with_cells-text text n active forms meta = go text n.base n.calls
  where
    go : (text base : Text) (calls : List OpenCall) → memory_with (with_cells (record { base = base; calls = calls }) (flat_text text)) active forms meta ≡ add text (memory_with (record { base = base; calls = calls }) active forms meta)
    go [] base [] = ap (λ b. memory_with (record { base = b; calls = [] }) active forms meta) (sym (append-nil base))
    go [] base (call ∷ outer) = ap (λ t. memory_with (record { base = base; calls = record call { last = t } ∷ outer }) active forms meta) (sym (append-nil call.last))
    go (c ∷ text) base [] = go text (base ++ c ∷ []) [] ∙ ap (λ b. memory_with (record { base = b; calls = [] }) active forms meta) (append_assoc base (c ∷ []) text)
    go (c ∷ text) base (call ∷ outer) = go text base (record call { last = call.last ++ c ∷ [] } ∷ outer) ∙ ap (λ t. memory_with (record { base = base; calls = record call { last = t } ∷ outer }) active forms meta) (append_assoc call.last (c ∷ []) text)

pub text_of-flat : (text : Text) → text_of_cells (flat_text text) ≡ text
text_of-flat [] = refl
text_of-flat (c ∷ text) = ap (λ t. c ∷ t) (text_of-flat text)

-- ---- the innermost call

-- an open call with one more cell
abbrev pub with_one : OpenCall → Cell → OpenCall
with_one call (Byte c) = record call { last = call.last ++ c ∷ [] }
with_one call (Call mode k) = call
with_one call Comma = record call { earlier = arguments call; last = [] }
with_one call (Gap k) = record call { last = call.last ++ 0 ∷ [] }
with_one call (Head k) = record call { last = call.last ++ 0 ∷ [] }

-- an open call with these cells after it
abbrev pub grown : OpenCall → List Cell → OpenCall
grown call [] = call
grown call (cell ∷ cells) = grown (with_one call cell) cells

pub no_call-head : (cell : Cell) (cells : List Cell) → NoCall (cell ∷ cells) → is_call cell ≡ false
no_call-head cell cells h = h 0 (Byte 0) (omega arith)

pub no_call-tail : (cell : Cell) (cells : List Cell) → NoCall (cell ∷ cells) → NoCall cells
no_call-tail cell cells h = λ k d within. h (suc k) d (omega arith)

with_cell-one : (base : Text) (call : OpenCall) (outer : List OpenCall) (cell : Cell) → is_call cell ≡ false → with_cell (record { base = base; calls = call ∷ outer }) cell ≡ record { base = base; calls = with_one call cell ∷ outer }
with_cell-one base call outer (Call mode k) h = absurd cc
with_cell-one base call outer _ h = refl

pub with_cells-grown : (base : Text) (call : OpenCall) (outer : List OpenCall) (cells : List Cell) → NoCall cells → with_cells (record { base = base; calls = call ∷ outer }) cells ≡ record { base = base; calls = grown call cells ∷ outer }
with_cells-grown base call outer [] h = refl
with_cells-grown base call outer (cell ∷ cells) h =
    ap (λ (n : Neutral). with_cells n cells) (with_cell-one base call outer cell (no_call-head cell cells h))
    ∙ with_cells-grown base (with_one call cell) outer cells (no_call-tail cell cells h)

with_cell-call : (n : Neutral) (cell : Cell) → IsTrue (is_call cell) → with_cell n cell ≡ record n { calls = begin_call (mode_of cell) n.calls }
with_cell-call n (Call mode k) h = refl
with_cell-call n _ h = absurd cc

-- a call that was just opened
abbrev pub opened : Mode → OpenCall
opened mode = record { mode = mode; earlier = []; last = [] }

-- the innermost call
abbrev pub call_at : List Cell → ℕ → OpenCall
call_at neutral place = grown (opened (mode_at neutral place)) (drop (place + 1) neutral)

-- a neutral string is what stands before its last mark, and the call of that mark
pub neutral_of-innermost : (cells : List Cell) (place : ℕ) → IsLastCall cells place → neutral_of cells ≡ record (neutral_of (take place cells)) { calls = call_at cells place ∷ (neutral_of (take place cells)).calls }
neutral_of-innermost cells place last =
    let before = neutral_of (take place cells) in
    let mark = get_or cells place (Byte 0) in
    let rest = drop (place + 1) cells in
    let split : cells ≡ take place cells ++ mark ∷ rest = sym (take-append-drop place cells) ∙ ap (λ t. take place cells ++ t) (drop_more cells place (Byte 0) last.mark.0) in
    ap neutral_of split
    ∙ with_cells-append no_neutral (take place cells) (mark ∷ rest)
    ∙ ap (λ (n : Neutral). with_cells n rest) (with_cell-call before mark last.mark.1)
    ∙ with_cells-grown before.base (opened (mode_of mark)) before.calls rest last.after

pub grown-mode : (call : OpenCall) (cells : List Cell) → (grown call cells).mode ≡ call.mode
grown-mode call [] = refl
grown-mode call (cell ∷ cells) = grown-mode (with_one call cell) cells ∙ one call cell
  where
    one : (call : OpenCall) (cell : Cell) → (with_one call cell).mode ≡ call.mode
    one call (Byte c) = refl
    one call _ = refl

-- texts whose first goes on the last of a call
abbrev joined : List Text → Text → List Text → List Text
joined earlier last [] = earlier ++ last ∷ []
joined earlier last (text ∷ texts) = earlier ++ ((last ++ text) ∷ texts)

joined-first : (earlier : List Text) (last : Text) (c : ℕ) (texts : List Text) → joined earlier (last ++ c ∷ []) texts ≡ joined earlier last (in_first c texts)
joined-first earlier last c [] = refl
joined-first earlier last c (text ∷ texts) = ap (λ t. earlier ++ (t ∷ texts)) (append_assoc last (c ∷ []) text)

-- texts_of gives at least one text
in_first-some : (c : ℕ) (texts : List Text) → 0 < length (in_first c texts)
in_first-some c [] = omega arith
in_first-some c (text ∷ texts) = omega arith

with_first-some : (cell : Cell) (texts : List Text) → 0 < length (with_first cell texts)
with_first-some (Byte c) texts = in_first-some c texts
with_first-some (Call mode k) texts = in_first-some 0 texts
with_first-some Comma texts = omega arith
with_first-some (Gap k) texts = in_first-some 0 texts
with_first-some (Head k) texts = in_first-some 0 texts

pub texts_of-some : (cells : List Cell) → 0 < length (texts_of cells)
texts_of-some [] = omega arith
texts_of-some (cell ∷ cells) = with_first-some cell (texts_of cells)

joined-comma : (earlier : List Text) (last : Text) (texts : List Text) → 0 < length texts → joined (earlier ++ last ∷ []) [] texts ≡ joined earlier last ([] ∷ texts)
joined-comma earlier last [] some = absurd (omega arith)
joined-comma earlier last (text ∷ texts) some = append_assoc earlier (last ∷ []) (text ∷ texts) ∙ ap (λ l. earlier ++ (l ∷ text ∷ texts)) (sym (append-nil last))

arguments-grown : (call : OpenCall) (cells : List Cell) → NoCall cells → arguments (grown call cells) ≡ joined call.earlier call.last (texts_of cells)
arguments-grown call [] h = ap (λ l. call.earlier ++ (l ∷ [])) (sym (append-nil call.last))
arguments-grown call (cell ∷ cells) h =
    arguments-grown (with_one call cell) cells (no_call-tail cell cells h) ∙ one call cell (no_call-head cell cells h)
  where
    one : (call : OpenCall) (cell : Cell) → is_call cell ≡ false → joined (with_one call cell).earlier (with_one call cell).last (texts_of cells) ≡ joined call.earlier call.last (with_first cell (texts_of cells))
    one call (Byte c) h = joined-first call.earlier call.last c (texts_of cells)
    one call (Call mode k) h = absurd cc
    one call Comma h = joined-comma call.earlier call.last (texts_of cells) (texts_of-some cells)
    one call (Gap k) h = joined-first call.earlier call.last 0 (texts_of cells)
    one call (Head k) h = joined-first call.earlier call.last 0 (texts_of cells)

joined-none : (texts : List Text) → 0 < length texts → joined [] [] texts ≡ texts
joined-none [] some = absurd (omega arith)
joined-none (text ∷ texts) some = refl

-- the arguments of the innermost call are the texts between the comma marks after its mark
pub arguments-call_at : (neutral : List Cell) (place : ℕ) → IsLastCall neutral place → arguments (call_at neutral place) ≡ arguments_at neutral place
arguments-call_at neutral place last =
    arguments-grown (opened (mode_at neutral place)) (drop (place + 1) neutral) last.after
    ∙ joined-none (texts_of (drop (place + 1) neutral)) (texts_of-some (drop (place + 1) neutral))

-- with no call mark among the cells no call is opened
pub calls-none : (cells : List Cell) → NoCall cells → (neutral_of cells).calls ≡ []
calls-none cells h = go no_neutral cells refl h
  where
    one : (n : Neutral) (cell : Cell) → n.calls ≡ [] → is_call cell ≡ false → (with_cell n cell).calls ≡ []
    one n (Byte c) e h = rw e refl
    one n (Call mode k) e h = absurd cc
    one n Comma e h = rw e refl
    one n (Gap k) e h = rw e refl
    one n (Head k) e h = rw e refl

    go : (n : Neutral) (cells : List Cell) → n.calls ≡ [] → NoCall cells → (with_cells n cells).calls ≡ []
    go n [] e h = e
    go n (cell ∷ cells) e h = go (with_cell n cell) cells (one n cell e (no_call-head cell cells h)) (no_call-tail cell cells h)
