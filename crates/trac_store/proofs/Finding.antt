-- What stands where a form begins, in a slice of the whole store.
use Rattle.trac_store.proofs.Imports.{◌≡◌, ℕ, ◌+◌, ◌-◌, ◌<◌, ◌≤◌, List, [], ◌∷◌, length, get_or-between, take, drop, map, All, get_or, slice_range, Some, sym, ap, ◌∙◌, subst, arith, take-map, drop-map, length-map, get_or-map, length-between}
use Rattle.trac_store.proofs.Imports.{All-map, Cell, Byte, Head, seen, flat_text, text_of_cells, character_of, false, false≢true, ◌≢◌, IsByte, flat_forms, form_at, forms_in, start_of, head_number, Bool, Decides, Text, begins, places}
use Rattle.trac_store.proofs.FlatLemmas.{Byte-character_of, character_of-Byte}
use Rattle.trac_store.proofs.Gaps.{bytes-seen}
use Rattle.trac_store.proofs.HeadCells.{heads-shown}
use Rattle.trac_store.proofs.Places.{stands}

-- a cell that is seen as a byte is one
pub byte-seen : (cell : Cell) → IsByte (seen cell) → IsByte cell
byte-seen (Byte b) h = tt
byte-seen cell h = h

pub part-seen : (cells : List Cell) (a b : ℕ) → map seen (slice_range cells a b) ≡ slice_range (map seen cells) a b
part-seen cells a b = sym (take-map seen (b - a) (drop a cells)) ∙ ap (take (b - a)) (sym (drop-map seen a cells))

-- the cells where form k begins
pub record Begins (cells : List Cell) (k at : ℕ) : Type 0 where
  pub name_len : get_or cells at (Byte 0) ≡ Head (length (form_at (forms_in (map seen cells)) k).name)
  pub body_len : get_or cells (at + 1) (Byte 0) ≡ Head (length (form_at (forms_in (map seen cells)) k).body)
  pub end : at + (3 + length (form_at (forms_in (map seen cells)) k).name + length (form_at (forms_in (map seen cells)) k).body) ≤ length cells
  pub next : start_of (forms_in (map seen cells)) (k + 1) ≡ at + (3 + length (form_at (forms_in (map seen cells)) k).name + length (form_at (forms_in (map seen cells)) k).body)
  pub name_part : map seen (slice_range cells (at + 3) (at + 3 + length (form_at (forms_in (map seen cells)) k).name)) ≡ flat_text (form_at (forms_in (map seen cells)) k).name

pub begins_at : (cells : List Cell) (k at : ℕ) → flat_forms (forms_in (map seen cells)) ≡ map seen cells → k < length (forms_in (map seen cells)) → at ≡ start_of (forms_in (map seen cells)) k → Begins cells k at
begins_at cells k at whole within begins =
    let store = map seen cells in
    let forms = forms_in store in
    let form = form_at forms k in
    let f = stands forms store k at whole within begins in
    let three = heads-shown (slice_range cells at (at + 3)) (length form.name ∷ length form.body ∷ form.pointer ∷ []) (part-seen cells at (at + 3) ∙ f.heads) in
    let read = λ (i : ℕ) (less : i < 3). sym (get_or-between cells at (at + 3) i (Byte 0) (omega (arith, less))) ∙ ap (λ l. get_or l i (Byte 0)) three in
    let here : at ≡ at + 0 = omega arith in
    let long : length store ≡ length cells = length-map cells seen in
    record {
      name_len = ap (λ i. get_or cells i (Byte 0)) here ∙ read 0 (omega arith);
      body_len = read 1 (omega arith);
      end = omega (arith, f.end);
      next = f.next;
      name_part = part-seen cells (at + 3) (at + 3 + length form.name) ∙ f.name_part;
    }

-- a text's cells are bytes
pub bytes-flat : (text : List ℕ) → All IsByte (flat_text text)
bytes-flat text = All-map IsByte Byte text (λ k d l. tt)

pub number_is : (cell : Cell) (n : ℕ) → cell ≡ Head n → head_number (Some cell) ≡ n
number_is cell n e = ap (λ (c : Cell). head_number (Some c)) e

-- the last cell of a part
pub part-length : (cells : List Cell) (from n : ℕ) → from + n ≤ length cells → length (map seen (slice_range cells from (from + n))) ≡ n
part-length cells from n within =
    omega (arith, length-map (slice_range cells from (from + n)) seen, length-between cells from (from + n) within)

pub part-last : (cells : List Cell) (from n : ℕ) → 0 < n → from + n ≤ length cells → get_or (map seen (slice_range cells from (from + n))) (n - 1) (Byte 0) ≡ seen (get_or cells (from + n - 1) (Byte 0))
part-last cells from n some within =
    let long = length-between cells from (from + n) within in
    get_or-map seen (slice_range cells from (from + n)) (n - 1) (Byte 0) (Byte 0) (omega arith) ∙ ap seen (grind (arith, places))

-- cells that are seen as bytes are bytes, and are seen as their text
pub bytes-of-seen : (cells : List Cell) → All IsByte (map seen cells) → All IsByte cells
bytes-of-seen cells h = λ k d within.
    byte-seen (get_or cells k d) (subst IsByte (get_or-map seen cells k d d within) (h k d (omega (arith, length-map cells seen))))

seen-text : (cells : List Cell) → All IsByte (map seen cells) → flat_text (text_of_cells cells) ≡ map seen cells
seen-text cells h = ap flat_text (sym (bytes-seen cells)) ∙ Byte-character_of (map seen cells) h

-- a test whether their texts are the same tells whether cells are seen as the same
pub seen-decides : (cells text : List Cell) (same : Bool) → All IsByte (map seen cells) → All IsByte (map seen text) → Decides same (text_of_cells cells ≡ text_of_cells text) → Decides same (map seen cells ≡ map seen text)
seen-decides cells text same bytes text_bytes decides = (
  λ t. sym (seen-text cells bytes) ∙ ap flat_text (decides.0 t) ∙ seen-text text text_bytes,
  λ e. decides.1 (sym (bytes-seen cells) ∙ ap text_of_cells e ∙ bytes-seen text),
)

-- the character at a place of a text, read from its cell
pub character-read : (cells : List Cell) (i : ℕ) → i < length cells → get_or (text_of_cells cells) i 0 ≡ character_of (get_or cells i (Byte 0))
character-read cells i within = get_or-map character_of cells i (Byte 0) 0 within

-- texts that differ at a place are not the same
pub characters-differ : (a b : List Cell) (i : ℕ) → i < length a → i < length b → character_of (get_or a i (Byte 0)) ≢ character_of (get_or b i (Byte 0)) → Decides false (text_of_cells a ≡ text_of_cells b)
characters-differ a b i in_a in_b differs = (
  λ t. absurd (false≢true t),
  λ same. absurd (differs (sym (character-read a i in_a) ∙ ap (λ t. get_or t i 0) same ∙ character-read b i in_b)),
)

-- cells that are seen as those of a text
module _ (cells : List Cell) (text : Text) (shown : map seen cells ≡ flat_text text) where
  pub shown-bytes : All IsByte cells
  shown-bytes = bytes-of-seen cells (subst (All IsByte) (sym shown) (bytes-flat text))

  pub shown-text : text_of_cells cells ≡ text
  shown-text = sym (bytes-seen cells) ∙ ap text_of_cells shown ∙ character_of-Byte text

  pub shown-length : length cells ≡ length text
  shown-length = sym (length-map cells seen) ∙ ap length shown ∙ length-map text Byte

  -- whether the text is that of a name
  pub shown-decides : (name : List Cell) (same : Bool) → Decides same (text_of_cells cells ≡ text_of_cells name) → Decides same (text ≡ text_of_cells (map seen name))
  shown-decides name same is = (λ t. sym shown-text ∙ is.0 t ∙ sym (bytes-seen name), λ e. is.1 (shown-text ∙ e ∙ bytes-seen name))

  -- it is not if the lengths differ
  pub shown-differs : (name : List Cell) → length cells ≢ length name → text ≢ text_of_cells (map seen name)
  shown-differs name differs e = differs (shown-length ∙ ap length e ∙ length-map (map seen name) character_of ∙ length-map name seen)
