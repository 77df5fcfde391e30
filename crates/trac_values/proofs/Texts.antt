-- The texts of cells, character by character.
use Rattle.trac_values.proofs.Imports.{◌≡◌, ℕ, ◌+◌, ◌-◌, ◌<◌, ◌≤◌, List, length, take, replicate, get_or, Bool, true, sym, ap, ◌∙◌, arith, length-map, length-replicate, get_or-append_right, get_or-map, take_more_same, Text, Cell, character_of, text_of_cells, EachIs, padded_text}

pub length-text : (cells : List Cell) → length (text_of_cells cells) ≡ length cells
length-text cells = length-map cells character_of

-- the character at a place
pub read : (cells : List Cell) (i c : ℕ) → i < length cells → c ≡ character_of (get_or cells i (Cell.Byte 0)) → get_or (text_of_cells cells) i 0 ≡ c
read cells i c lt is = get_or-map character_of cells i (Cell.Byte 0) 0 lt ∙ sym is

module _ (a b : List Cell) (i : ℕ) where
  -- the first characters of two texts are the same, and one more is
  pub same_more : i < length a → length a ≡ length b → take i (text_of_cells a) ≡ take i (text_of_cells b) → get_or (text_of_cells a) i 0 ≡ get_or (text_of_cells b) i 0 → take (i + 1) (text_of_cells a) ≡ take (i + 1) (text_of_cells b)
  same_more lt long so_far here =
      take_more_same (text_of_cells a) (text_of_cells b) i 0 (omega (arith, length-text)) (omega (arith, length-text)) so_far here

-- a character that was read is that of the text, at any default
pub read_at : (cells : List Cell) (i c d : ℕ) → i < length cells → c ≡ character_of (get_or cells i (Cell.Byte 0)) → c ≡ get_or (text_of_cells cells) i d
read_at cells i c d lt is = is ∙ sym (get_or-map character_of cells i (Cell.Byte 0) d lt)

-- a character that was read passes a test that each character of the text passes
pub read_passes : (p : ℕ → Bool) (cells : List Cell) (i c : ℕ) → EachIs p (text_of_cells cells) → i < length cells → c ≡ character_of (get_or cells i (Cell.Byte 0)) → p c ≡ true
read_passes p cells i c each lt is =
    ap p (read_at cells i c 0 lt is) ∙ each i (omega (arith, length-text))

-- a place in a text that is filled up at the left
pub padded_within : (long place d : ℕ) (t : Text) → length t ≤ long → long ≤ place + length t → get_or (padded_text long t) place d ≡ get_or t (place + length t - long) d
padded_within long place d t le h =
    let e : place - (long - length t) ≡ place + length t - long = omega arith in
    get_or-append_right (replicate (long - length t) 48) t (long - length t) place d (length-replicate {A = ℕ} (long - length t) 48) (omega arith)
    ∙ ap (λ i. get_or t i d) e
