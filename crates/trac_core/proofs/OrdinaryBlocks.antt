-- Runs of characters without a rule of their own, in blocks.
use Rattle.trac_core.proofs.Imports.{◌≡◌, ℕ, ◌+◌, ◌≤◌, ◌<◌, length, get_or, take_more, All-push, Byte, Bool, true, false, List, [], ◌∷◌, take, drop, All, refl, sym, subst, arith, sum_by, ◌==◌, if◌then◌else◌, take-add, All-append, All-cons, sum_by-cons, Cell, text_of_cells, character_of, is_special, kind_of, kind_in, IsOrdinary, nat_tests}
use Rattle.trac_core.proofs.Scanning.{take-text, drop-text, read-text}

pub kind-small : (c : ℕ) → kind_of c ≤ 2
kind-small c = grind (arith, nat_tests)

pub kind-none : (c : ℕ) → kind_of c ≡ 0 → IsOrdinary c
kind-none c = go (c == 44) (is_special c)
  where
    go : (b d : Bool) → ◌≡◌ {A = ℕ} (if b then 1 else (if d then 2 else 0)) 0 → d ≡ false
    go true d e = absurd cc
    go false true e = absurd cc
    go false false e = refl

-- one more character of a kind
pub one-more : (P : ℕ → Type 0) (cells : List Cell) (i c : ℕ) → i < length cells → c ≡ character_of (get_or cells i (Byte 0)) → P c → All P (take i (text_of_cells cells)) → All P (take (i + 1) (text_of_cells cells))
one-more P cells i c within c_is is first =
    let text = text_of_cells cells in
    let here = read-text cells i c within c_is in
    subst (All P) (sym (take_more text i 0 here.0)) (All-push P (take i text) (get_or text i 0) first (subst P here.1 is))

-- where the kinds come to nothing each character is ordinary
ordinary-block : (cells : List Cell) → sum_by kind_in cells ≡ 0 → All IsOrdinary (text_of_cells cells)
ordinary-block [] none = λ k d within. absurd (omega arith)
ordinary-block (cell ∷ cells) none =
    let parts = sum_by-cons kind_in cell cells in
    All-cons IsOrdinary (character_of cell) (text_of_cells cells) (kind-none (character_of cell) (omega (arith, none, parts))) (ordinary-block cells (omega (arith, none, parts)))

-- ordinary characters from the first on, and more behind them
ordinary-more : (cells : List Cell) (i n : ℕ) → All IsOrdinary (take i (text_of_cells cells)) → All IsOrdinary (take n (text_of_cells (drop i cells))) → All IsOrdinary (take (i + n) (text_of_cells cells))
ordinary-more cells i n first more =
    let text = text_of_cells cells in
    subst (All IsOrdinary) (sym (take-add i n text))
    (All-append IsOrdinary (take i text) (take n (drop i text)) first (subst (λ t. All IsOrdinary (take n t)) (drop-text i cells) more))

pub ordinary-eight : (cells : List Cell) (i kinds : ℕ) → kinds ≡ sum_by kind_in (take 8 (drop i cells)) → kinds ≤ 0 → All IsOrdinary (take i (text_of_cells cells)) → All IsOrdinary (take (i + 8) (text_of_cells cells))
ordinary-eight cells i kinds is none first =
    ordinary-more cells i 8 first (subst (All IsOrdinary) (take-text 8 (drop i cells)) (ordinary-block (take 8 (drop i cells)) (omega (arith, is, none))))

pub ordinary-sixteen : (cells : List Cell) (i first second : ℕ) → first ≡ sum_by kind_in (take 8 (drop i cells)) → second ≡ sum_by kind_in (take 8 (drop (i + 8) cells)) → first + second ≤ 0 → All IsOrdinary (take i (text_of_cells cells)) → All IsOrdinary (take (i + 16) (text_of_cells cells))
ordinary-sixteen cells i first second first_is second_is none ordinary =
    let both : i + 8 + 8 ≡ i + 16 = omega arith in
    rw both at (ordinary-eight cells (i + 8) second second_is (omega (arith, none)) (ordinary-eight cells i first first_is (omega (arith, none)) ordinary))
