-- Characters of cells that are written over bytes by blocks of eight.
use Rattle.trac_devices.proofs.Imports.{◌≡◌, ◌≤◌, ◌+◌, ◌-◌, ◌++◌, ◌∙◌, ℕ, List, length, take, drop, sym, ap, ap₂, arith, rules, places, slice_range, take_all, take-add, take-put_mid, put_mid, length-between, text_of_cells-append, Text, Cell, text_of_cells, AreWritten}

-- eight bytes in the place of eight leave as many
block_long : (bytes made : Text) (i n : ℕ) → length bytes ≡ n → i + 8 ≤ n → length made ≡ 8 → length (put_mid i (i + 8 - i) bytes made) ≡ n
block_long bytes made i n long within eight = search (rules, places)

-- behind the characters so far, eight more are written
pub block_written : (text : List Cell) (bytes made : Text) (i next : ℕ) → next ≡ i + 8 → next ≤ length text → AreWritten i text bytes
    → AreWritten 8 (slice_range text i (i + 8)) made → AreWritten next text (put_mid i (i + 8 - i) bytes made)
block_written text bytes made i next is within before block =
    let cells = slice_range text i (i + 8) in
    let eight : i + 8 - i ≡ 8 = omega arith in
    let inside : i + 8 ≤ length text = rw (← is) within in
    let cells_long : length cells ≡ 8 = length-between text i (i + 8) inside ∙ eight in
    let made_long : length made ≡ 8 = block.long ∙ cells_long in
    let whole : made ≡ text_of_cells cells =
    sym (take_all 8 made (omega (arith, made_long))) ∙ block.written ∙ ap text_of_cells (take_all 8 cells (omega (arith, cells_long))) in
    let joined : take i text ++ cells ≡ take next text =
    ap (λ n. take i text ++ take n (drop i text)) eight ∙ sym (take-add i 8 text) ∙ ap (λ n. take n text) (sym is) in
    record {
      written =
          take-put_mid i (i + 8 - i) bytes made next (omega (arith, is, made_long)) (omega (arith, before.long, inside))
          ∙ ap₂ (λ (xs ys : Text). xs ++ ys) before.written whole
          ∙ sym (text_of_cells-append (take i text) cells)
          ∙ ap text_of_cells joined;
      long = block_long bytes made i (length text) before.long inside made_long;
    }
