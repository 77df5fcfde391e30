-- Numbers over cells, laid one after the other, and taken off again.
use Rattle.trac_space.proofs.Imports.{seen, [], ◌∷◌, refl, ◌≡◌, ℕ, ◌+◌, ◌<◌, List, ◌++◌, length, take, drop, map, get_or, set, ap, ◌∙◌, arith, length-append, length-map, length-take-le, length-drop, get_or_default, Cell, Byte}
use Rattle.std.proofs.lemmas.List.Edits.{map_over_more}
use Rattle.trac_space.specs.Tags.{untagged, HaveTags}
use Rattle.std.proofs.lemmas.List.Edits.{split_between}
use Rattle.trac_space.proofs.Imports.{sym, slice_range, ◌-◌, ◌≤◌, rules, places, same_lists, append_assoc, map-append, take-map, drop-map}

-- the number is lifted off one cell more
pub cleared-more : (was now : List Cell) (k : ℕ) (cell : Cell) → k < length was → now ≡ map untagged (take k was) ++ drop k was → cell ≡ untagged (get_or now k (Byte 0)) → set now k cell ≡ map untagged (take (k + 1) was) ++ drop (k + 1) was
cleared-more was now k cell within is same =
    let x = get_or now k (Byte 0) in
    let size : length now ≡ length was = omega (arith, ap length is, length-append (map untagged (take k was)) (drop k was), length-map (take k was) untagged, length-take-le k was (omega (arith, within)), length-drop k was, within) in
    let inside : k < length now = omega (arith, size, within) in
    ap (set now k) same ∙ map_over_more untagged was now k x within is (get_or_default now k (Byte 0) x inside)

untagged-seen : (cell : Cell) → seen (untagged cell) ≡ untagged (seen cell)
untagged-seen (Byte b) = refl
untagged-seen cell = refl

-- the cells under numbers, as contracts see them
pub seen-untagged : (cells : List Cell) → map seen (map untagged cells) ≡ map untagged (map seen cells)
seen-untagged [] = refl
seen-untagged (cell ∷ cells) = rw (untagged-seen cell, seen-untagged cells) refl

-- numbers that lie over cells in the middle
module _ (was new : List Cell) (a b : ℕ) (order : a ≤ b) (within : b ≤ length was) (long : length new ≡ b - a) where
  pub in-middle : slice_range (take a was ++ new ++ drop b was) a b ≡ new
  in-middle = same_lists _ _ (search (rules, places)) (λ k d less. grind (arith, places))

  pub numbers-middle : map untagged new ≡ slice_range was a b → HaveTags was (take a was ++ new ++ drop b was) a b
  numbers-middle is =
      let now = take a was ++ new ++ drop b was in
      let front : take a now ≡ take a was = same_lists _ _ (search (rules, places)) (λ k d less. grind (arith, places)) in
      let rest : drop b now ≡ drop b was = same_lists _ _ (search (rules, places)) (λ k d less. grind (arith, places)) in
      rw (front, in-middle, is, rest) (append_assoc (take a was) (slice_range was a b) (drop b was) ∙ sym (split_between was a b order))

-- numbers that lie over cells also lie over the cells as contracts see them
pub numbers-seen : (was now : List Cell) (a b : ℕ) → HaveTags was now a b → HaveTags (map seen was) (map seen now) a b
numbers-seen was now a b numbers =
    sym (simp (map-append, take-map, drop-map, seen-untagged) refl) ∙ ap (map seen) numbers
