-- Parts of cells that grow at their end, and the bit strings of these parts.
use Rattle.trac_functions.proofs.Imports.{◌≡◌, ℕ, ◌+◌, List, [], ◌∷◌, ◌++◌, length, take, drop, sym, ap, subst, ◌∙◌, Some, append_assoc, slice_range, slice_get, map_more}
use Rattle.trac_functions.proofs.Imports.{slice_get_within, get_or_from_slice_get, Text, is_octal, octal_digits, octal_prefix, Cell, text_of_cells, flat_text, IsOctal, back_is, back_passes, IsTextPart, part_text}
use Rattle.trac_functions.proofs.CellRanges.{drop-range}
use Rattle.trac_functions.proofs.Fronts.{octal_prefix-front, inside}

-- the octal digits of a part, which begin after its prefix
module _ (xs : List Cell) (i j n : ℕ) (part : IsTextPart xs i j) (read : Text) (same : read ≡ part_text xs i j) (is : n ≡ length (octal_prefix read)) where
  back : drop n (slice_range xs i j) ≡ slice_range xs (i + n) j
  back = drop-range xs i n j (inside xs i j n part octal_prefix octal_prefix-front read same is)

  long : n ≡ length (octal_prefix (part_text xs i j))
  long = is ∙ ap (λ t. length (octal_prefix t)) same

  pub digits_of_part : text_of_cells (slice_range xs (i + n) j) ≡ octal_digits (part_text xs i j)
  digits_of_part = ap text_of_cells (sym back) ∙ back_is is_octal (slice_range xs i j) n long

  pub part_is_octal : IsOctal (slice_range xs (i + n) j)
  part_is_octal = subst IsOctal back (back_passes is_octal (slice_range xs i j) n long)

-- one more character of a text stands behind the cells `old`
pub flat_more : (old now next : List Cell) (text : Text) (k c : ℕ) → now ≡ old ++ flat_text (take k text) → slice_get text k ≡ Some c → next ≡ now ++ Cell.Byte c ∷ [] → next ≡ old ++ flat_text (take (k + 1) text)
flat_more old now next text k c so_far here more =
    let lt = slice_get_within text k c here in
    let read = get_or_from_slice_get text k c 0 here in
    more
    ∙ ap (λ cells. cells ++ Cell.Byte c ∷ []) so_far
    ∙ append_assoc old (flat_text (take k text)) (Cell.Byte c ∷ [])
    ∙ ap (λ cells. old ++ cells) (ap (λ c. flat_text (take k text) ++ Cell.Byte c ∷ []) (sym read) ∙ sym (map_more Cell.Byte text k 0 lt))
