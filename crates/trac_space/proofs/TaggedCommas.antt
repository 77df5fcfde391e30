-- Where comma marks stand, laid over the first of the cells.
use Rattle.trac_space.proofs.Imports.{◌≡◌, ℕ, ◌+◌, ◌-◌, ◌<◌, ◌≤◌, true, false, cond, All, List, [], ◌∷◌, ◌++◌, length, drop, map, get_or, set, refl, sym, ap, ◌∙◌, arith, subst, ⊎_elim, IsTrue}
use Rattle.trac_space.proofs.Imports.{append_assoc, drop-drop, drop-set-lt, drop-map, drop_more, get_or-drop, get_or-append_seam, get_or_append_left, get_or-set_same, get_or-set_other, get_or_default, length-append, length-map, All-head, All-tail, All-get_or, cases_eq, Cell, Byte, Call, Comma, Gap, Head, is_comma, NoComma, HaveCommas, parts_at}
use Rattle.std.proofs.Math.Seq.{map-set_same}
use Rattle.trac_space.specs.Tags.{takes_tag, untagged, tag_of, has_tag}

abbrev pub Takes : Cell → Type 0
Takes cell = IsTrue (takes_tag cell)

takes-untagged : (cell : Cell) → Takes cell → untagged cell ≡ cell
takes-untagged (Byte b) takes = refl
takes-untagged Comma takes = refl
takes-untagged (Call mode k) takes = cc
takes-untagged (Gap k) takes = cc
takes-untagged (Head k) takes = cc

pub takes-all : (cells : List Cell) → All Takes cells → map untagged cells ≡ cells
takes-all [] takes = refl
takes-all (cell ∷ cells) takes = rw (takes-untagged cell (All-head Takes cell cells takes), takes-all cells (All-tail Takes cell cells takes)) refl

-- the places of the comma marks among the cells up to `at` are laid over the first `count` cells
pub record TaggedSoFar (was now : List Cell) (at count : ℕ) : Type 0 where
  pub few : count ≤ at
  pub within : at ≤ length was
  pub untagged_is : map untagged now ≡ was
  pub behind : drop count now ≡ drop count was
  pub from : ℕ
  pub done : List (ℕ × ℕ)
  pub split : parts_at 0 0 was ≡ done ++ parts_at from at (drop at was)
  pub size : length done ≡ count
  pub tagged : (k : ℕ) → k < count → has_tag (get_or now k Comma) ≡ true
  pub ends : (k : ℕ) → k < count → tag_of (get_or now k Comma) ≡ (get_or done k (0, 0)).1

pub tagged-none : (was : List Cell) → All Takes was → TaggedSoFar was was 0 0
tagged-none was takes = record {
  few = omega arith;
  within = omega arith;
  untagged_is = takes-all was takes;
  behind = refl;
  from = 0;
  done = [];
  split = refl;
  size = refl;
  tagged = λ k less. absurd (omega (arith, less));
  ends = λ k less. absurd (omega (arith, less));
}

kept-at : (was now : List Cell) (count k : ℕ) (d : Cell) → drop count now ≡ drop count was → count ≤ k → get_or now k d ≡ get_or was k d
kept-at was now count k d same above =
    let e : count + (k - count) ≡ k = omega (arith, above) in
    ap (λ i. get_or now i d) (sym e) ∙ sym (get_or-drop count now (k - count) d) ∙ ap (λ l. get_or l (k - count) d) same ∙ get_or-drop count was (k - count) d ∙ ap (λ i. get_or was i d) e

module _ (was now : List Cell) (at count : ℕ) (h : TaggedSoFar was now at count) (less : at < length was) where
  pub tagged-long : length now ≡ length was
  tagged-long = sym (length-map now untagged) ∙ ap length h.untagged_is

  pub here : (d : Cell) → get_or now at d ≡ get_or was at d
  here d = kept-at was now count at d h.behind h.few

  pub first-free : (d : Cell) → get_or now count d ≡ get_or was count d
  first-free d = kept-at was now count count d h.behind (omega arith)

  pub first-takes : All Takes was → Takes (get_or now count (Byte 0))
  first-takes takes = subst Takes (sym (first-free (Byte 0))) (All-get_or Takes was count (Byte 0) (omega (arith, h.few, less)) takes)

  next-cell : drop at was ≡ get_or was at Comma ∷ drop (at + 1) was
  next-cell = drop_more was at Comma less

  here-is : get_or was at Comma ≡ get_or now at (Byte 0)
  here-is = sym (here Comma) ∙ get_or_default now at Comma (Byte 0) (omega (arith, less, tagged-long))

  -- no comma mark stands there
  pub tagged-other : is_comma (get_or now at (Byte 0)) ≡ false → TaggedSoFar was now (at + 1) count
  tagged-other other =
      let is = ap is_comma here-is ∙ other in
      record {
        few = omega (arith, h.few);
        within = omega (arith, less);
        untagged_is = h.untagged_is;
        behind = h.behind;
        from = h.from;
        done = h.done;
        split = h.split ∙ ap (λ l. h.done ++ l) (ap (parts_at h.from at) next-cell ∙ ap (λ b. cond b ((h.from, at) ∷ parts_at (at + 1) (at + 1) (drop (at + 1) was)) (parts_at h.from (at + 1) (drop (at + 1) was))) is);
        size = h.size;
        tagged = h.tagged;
        ends = h.ends;
      }

  -- the next cell is a comma mark, and its place is laid
  pub tagged-comma : (cell : Cell) → is_comma (get_or now at (Byte 0)) ≡ true → untagged cell ≡ untagged (get_or now count (Byte 0)) → tag_of cell ≡ at → has_tag cell ≡ true → TaggedSoFar was (set now count cell) (at + 1) (count + 1)
  tagged-comma cell comma untagged_is over_is numbered =
      let is = ap is_comma here-is ∙ comma in
      let rest = parts_at (at + 1) (at + 1) (drop (at + 1) was) in
      let inside : count < length now = omega (arith, h.few, less, tagged-long) in
      record {
        few = omega (arith, h.few);
        within = omega (arith, less);
        untagged_is = map-set_same untagged now count cell (Byte 0) untagged_is ∙ h.untagged_is;
        behind = drop-set-lt (count + 1) now count cell (omega arith) ∙ sym (drop-drop 1 count now) ∙ ap (drop 1) h.behind ∙ drop-drop 1 count was;
        from = at + 1;
        done = h.done ++ (h.from, at) ∷ [];
        split = h.split ∙ ap (λ l. h.done ++ l) (ap (parts_at h.from at) next-cell ∙ ap (λ b. cond b ((h.from, at) ∷ rest) (parts_at h.from (at + 1) (drop (at + 1) was))) is) ∙ sym (append_assoc h.done ((h.from, at) ∷ []) rest);
        size = omega (arith, length-append h.done ((h.from, at) ∷ []), h.size);
        tagged = λ k below.
            ⊎_elim
            (λ last. ap (λ i. has_tag (get_or (set now count cell) i Comma)) last ∙ ap has_tag (get_or-set_same now count cell Comma inside) ∙ numbered)
            (λ other. ap has_tag (get_or-set_other now count k cell Comma other) ∙ h.tagged k (omega (arith, below, other)))
            (cases_eq k count);
        ends = λ k below.
            ⊎_elim
            (λ last.
            let e : k ≡ length h.done = omega (arith, last, h.size) in
            ap (λ i. tag_of (get_or (set now count cell) i Comma)) last ∙ ap tag_of (get_or-set_same now count cell Comma inside) ∙ over_is ∙ sym (ap (λ i. (get_or (h.done ++ (h.from, at) ∷ []) i (0, 0)).1) e ∙ ap (λ (p : ℕ × ℕ). p.1) (get_or-append_seam h.done (h.from, at) [] (0, 0))))
            (λ other.
            let before : k < count = omega (arith, below, other) in
            ap tag_of (get_or-set_other now count k cell Comma other) ∙ h.ends k before ∙ ap (λ (p : ℕ × ℕ). p.1) (sym (get_or_append_left h.done ((h.from, at) ∷ []) (0, 0) k (omega (arith, before, h.size)))))
            (cases_eq k count);
      }

-- cells without comma marks are one part
parts-no_comma : (from at : ℕ) (cells : List Cell) → NoComma cells → parts_at from at cells ≡ (from, at + length cells) ∷ []
parts-no_comma from at [] none = ap (λ n. (from, n) ∷ []) (omega arith)
parts-no_comma from at (cell ∷ cells) none =
    ap (λ b. cond b ((from, at) ∷ parts_at (at + 1) (at + 1) cells) (parts_at from (at + 1) cells)) (All-head (λ cell. is_comma cell ≡ false) cell cells none)
    ∙ parts-no_comma from (at + 1) cells (All-tail (λ cell. is_comma cell ≡ false) cell cells none)
    ∙ ap (λ n. (from, n) ∷ []) (omega arith)

-- all are, since none follows
pub tagged-commas : (was now : List Cell) (at count : ℕ) → TaggedSoFar was now at count → NoComma (drop at was) → All Takes was → HaveCommas now count
tagged-commas was now at count h none takes =
    let long : length now ≡ length was = sym (length-map now untagged) ∙ ap length h.untagged_is in
    let end = at + length (drop at was) in
    let parts : parts_at 0 0 (map untagged now) ≡ h.done ++ (h.from, end) ∷ [] = ap (parts_at 0 0) h.untagged_is ∙ h.split ∙ ap (λ l. h.done ++ l) (parts-no_comma h.from at (drop at was) none) in
    record {
      within = omega (arith, h.few, h.within, long);
      others = ap (map untagged) h.behind ∙ sym (drop-map untagged count was) ∙ ap (drop count) (takes-all was takes) ∙ sym h.behind;
      all = ap length parts ∙ length-append h.done ((h.from, end) ∷ []) ∙ omega (arith, h.size);
      tagged = h.tagged;
      ends = λ k less. h.ends k less ∙ ap (λ (p : ℕ × ℕ). p.1) (sym (get_or_append_left h.done ((h.from, end) ∷ []) (0, 0) k (omega (arith, less, h.size))) ∙ ap (λ l. get_or l k (0, 0)) (sym parts));
    }
