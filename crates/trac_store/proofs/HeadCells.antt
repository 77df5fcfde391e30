-- Head cells, as a slice of the store holds them.
use Rattle.trac_store.proofs.Imports.{◌≡◌, ℕ, ◌+◌, ◌<◌, ◌≤◌, List, [], ◌∷◌, length, map, get_or, slice_range, slice_get, Option, Some, refl, sym, ap, ◌∙◌, arith, length-map, get_or-map, length-between, get_or-between, option_map, slice_get-map, slice_get-get_or, Cell, Byte, Call}
use Rattle.trac_store.proofs.Imports.{Head, seen, head_number, head_at}

-- a cell that is a number
pub is_head : (cell : Cell) (n : ℕ) → cell ≡ Head n → cell ≡ Head (head_number (Some cell))
is_head cell n e = e ∙ sym (ap (λ (c : Cell). Head (head_number (Some c))) e)

pub number-seen : (cell : Cell) → head_number (Some (seen cell)) ≡ head_number (Some cell)
number-seen (Byte b) = refl
number-seen cell = refl

-- the number in a cell of the slice is that in the store
pub number-at : (cells store : List Cell) (i : ℕ) → map seen cells ≡ store → i < length cells → head_number (Some (get_or cells i (Byte 0))) ≡ head_at store i
number-at cells store i e within =
    sym (number-seen (get_or cells i (Byte 0)))
    ∙ sym (ap head_number (slice_get-map seen cells i ∙ ap (option_map seen) (slice_get-get_or cells i (Byte 0) within)))
    ∙ ap (λ s. head_at s i) e

-- a cell that is seen as a head is one
pub seen-head : (cell : Cell) (n : ℕ) → seen cell ≡ Head n → cell ≡ Head n
seen-head (Call mode k) n e = absurd cc
seen-head cell n e = e

-- cells that are seen as heads are these
pub heads-shown : (cells : List Cell) (numbers : List ℕ) → map seen cells ≡ map Head numbers → cells ≡ map Head numbers
heads-shown [] [] shown = refl
heads-shown [] (n ∷ numbers) shown = absurd cc
heads-shown (cell ∷ cells) [] shown = absurd cc
heads-shown (cell ∷ cells) (n ∷ numbers) shown =
    let first : seen cell ≡ Head n = cc in
    let rest : map seen cells ≡ map Head numbers = cc in
    ap (λ (c : Cell). c ∷ cells) (seen-head cell n first) ∙ ap (λ l. Head n ∷ l) (heads-shown cells numbers rest)

-- a slice shows the cells of a list from `at` up to `end`
module _ (list cells : List Cell) (at end : ℕ) (within : end ≤ length list) (shown : map seen cells ≡ slice_range list at end) where
  -- what is read of a cell of the slice is what is read of it in the list, where the number of a call mark counts for nothing
  pub read-in-part : (read : Option Cell → ℕ) → ((cell : Cell) → read (Some (seen cell)) ≡ read (Some cell)) → (i : ℕ) → at + i < end → read (Some (get_or cells i (Byte 0))) ≡ read (slice_get list (at + i))
  read-in-part read same i inside =
      let some : i < length cells = omega (arith, inside, length-map cells seen, ap length shown, length-between list at end within) in
      sym (same (get_or cells i (Byte 0)))
      ∙ ap (λ (cell : Cell). read (Some cell)) (sym (get_or-map seen cells i (Byte 0) (Byte 0) some) ∙ ap (λ cs. get_or cs i (Byte 0)) shown ∙ get_or-between list at end i (Byte 0) inside)
      ∙ ap read (sym (slice_get-get_or list (at + i) (Byte 0) (omega (arith, inside, within))))

  pub number-in-part : (i : ℕ) → at + i < end → head_number (Some (get_or cells i (Byte 0))) ≡ head_at list (at + i)
  number-in-part = read-in-part head_number number-seen
