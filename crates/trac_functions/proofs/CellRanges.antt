-- Parts of cells that other cells follow, and the front and the back of a part.
use Rattle.trac_functions.proofs.Imports.{◌≡◌, ℕ, ◌+◌, ◌-◌, ◌≤◌, List, ◌++◌, length, take, drop, slice_range, sym, ap, ◌∙◌, arith, length-drop, drop-append-le, take-append-le, drop-take, drop-drop, take-take, Cell}

-- a part stays when cells are put after it
pub part-append : (xs ys : List Cell) (i j : ℕ) → i ≤ j → j ≤ length xs → slice_range (xs ++ ys) i j ≡ slice_range xs i j
part-append xs ys i j order within =
    let long = length-drop i xs in
    ap (take (j - i)) (drop-append-le i xs ys (omega arith)) ∙ take-append-le (j - i) (drop i xs) ys (omega arith)

-- a part without its first cells
pub drop-range : (cells : List Cell) (from n end : ℕ) → from + n ≤ end → drop n (slice_range cells from end) ≡ slice_range cells (from + n) end
drop-range cells from n end within =
    let e : end - from ≡ n + (end - (from + n)) = omega arith in
    ap (λ k. drop n (take k (drop from cells))) e
    ∙ drop-take n (end - (from + n)) (drop from cells)
    ∙ ap (take (end - (from + n))) (drop-drop n from cells)

-- the first cells of a part
pub take-range : (cells : List Cell) (from n end : ℕ) → from + n ≤ end → take n (slice_range cells from end) ≡ slice_range cells from (from + n)
take-range cells from n end within =
    let e : end - from ≡ n + (end - (from + n)) = omega arith in
    let k : from + n - from ≡ n = omega arith in
    ap (λ k. take n (take k (drop from cells))) e ∙ take-take n (n + (end - (from + n))) (drop from cells) (omega arith) ∙ ap (λ k. take k (drop from cells)) (sym k)
