-- The place from which no comma mark stands, where cells come, go and change.
use Rattle.std.proofs.Math.ListN.{get_or-map as get_or-map-same}
use Rattle.std.proofs.lemmas.List.{get_or_past}
use Rattle.trac_space.proofs.Imports.{◌≡◌, ℕ, zero, suc, ◌+◌, ◌-◌, ◌<◌, ◌≤◌, false, All, List, [], ◌∷◌, ◌++◌, length, take, drop, map, get_or, set, slice_range, refl, sym, ap, ◌∙◌, arith, ⊎_elim, cases_lt, cases_eq, length-drop, length-take, get_or_default, get_or-take, get_or-drop}
use Rattle.trac_space.proofs.Imports.{get_or-append_right, get_or_append_left, get_or-set_same, get_or-set_other, Cell, Byte, Call, Comma, Gap, Head, seen, bytes, is_comma, NoComma, IsByte}
use Rattle.trac_space.specs.Tags.{untagged, holds_comma, HaveTags, NoCommaFrom}
use Rattle.trac_space.proofs.Calls.{map-cleared}

pub no_comma-past : (cells : List Cell) (p : ℕ) → length cells ≤ p → NoCommaFrom p cells
no_comma-past cells p short k above = ap holds_comma (get_or_past cells k (Byte 0) (omega (arith, short, above)))

module _ (cells : List Cell) (p : ℕ) (none : NoCommaFrom p cells) where
  -- the first m cells
  pub no_comma-front : (m q : ℕ) → (q < m → p ≤ q) → NoCommaFrom q (take m cells)
  no_comma-front m q order k above =
      ⊎_elim
      (λ below. ap holds_comma (get_or-take m cells k (Byte 0) below) ∙ none k (omega (arith, order (omega (arith, above, below)), above)))
      (λ past. no_comma-past (take m cells) m (omega (arith, length-take m cells)) k past)
      (cases_lt k m)

  -- more cells, none of which is a comma mark
  pub no_comma-append : (more : List Cell) → NoCommaFrom 0 more → NoCommaFrom p (cells ++ more)
  no_comma-append more rest k above =
      ⊎_elim
      (λ left. ap holds_comma (get_or_append_left cells more (Byte 0) k left) ∙ none k above)
      (λ right. ap holds_comma (get_or-append_right cells more (length cells) k (Byte 0) refl right) ∙ rest (k - length cells) (omega arith))
      (cases_lt k (length cells))

  -- a cell is written that is no comma mark
  pub no_comma-set : (i : ℕ) (cell : Cell) → i < length cells → holds_comma cell ≡ false → NoCommaFrom p (set cells i cell)
  no_comma-set i cell within other k above =
      ⊎_elim
      (λ here. ap (λ j. holds_comma (get_or (set cells i cell) j (Byte 0))) here ∙ ap holds_comma (get_or-set_same cells i cell (Byte 0) within) ∙ other)
      (λ apart. ap holds_comma (get_or-set_other cells i k cell (Byte 0) apart) ∙ none k above)
      (cases_eq k i)

  -- a cell is written before the place
  pub no_comma-set_before : (i q : ℕ) (cell : Cell) → p ≤ q → i < q → NoCommaFrom q (set cells i cell)
  no_comma-set_before i q cell order before k above =
      ap holds_comma (get_or-set_other cells i k cell (Byte 0) (λ here. absurd (omega (arith, here, above, before)))) ∙ none k (omega (arith, order, above))

  -- cells are other ones, with tags or without
  pub no_comma-untagged : (now : List Cell) → map untagged now ≡ map untagged cells → NoCommaFrom p now
  no_comma-untagged now same k above =
      ap is_comma (sym (get_or-map-same untagged now k (Byte 0)) ∙ ap (λ l. get_or l k (Byte 0)) same ∙ get_or-map-same untagged cells k (Byte 0)) ∙ none k above

-- behind some cells stand others
pub no_comma-last : (cells more : List Cell) (p q : ℕ) → length cells + q ≤ p → NoCommaFrom q more → NoCommaFrom p (cells ++ more)
no_comma-last cells more p q order rest k above =
    ap holds_comma (get_or-append_right cells more (length cells) k (Byte 0) refl (omega (arith, order, above))) ∙ rest (k - length cells) (omega (arith, order, above))

untagged-twice : (cell : Cell) → untagged (untagged cell) ≡ untagged cell
untagged-twice (Byte b) = refl
untagged-twice cell = refl

-- tags are taken off cells in the middle, or put on them
pub untagged-cleared : (cells : List Cell) (a b : ℕ) → a ≤ b → map untagged (take a cells ++ map untagged (slice_range cells a b) ++ drop b cells) ≡ map untagged cells
untagged-cleared cells a b order = map-cleared untagged untagged-twice cells a b order

pub untagged-tagged : (was now : List Cell) (a b : ℕ) → a ≤ b → HaveTags was now a b → map untagged now ≡ map untagged was
untagged-tagged was now a b order tags = sym (ap (map untagged) (sym tags) ∙ untagged-cleared now a b order)

-- cells as contracts see them
pub holds_comma-seen : (cell : Cell) → holds_comma (seen cell) ≡ holds_comma cell
holds_comma-seen (Byte b) = refl
holds_comma-seen cell = refl

comma-untagged : (cell : Cell) → holds_comma cell ≡ false → is_comma cell ≡ false
comma-untagged Comma none = none
comma-untagged (Byte b) none = refl
comma-untagged (Call mode k) none = refl
comma-untagged (Gap k) none = refl
comma-untagged (Head k) none = refl

pub no_comma-seen : (cells : List Cell) (p : ℕ) → NoCommaFrom p cells → NoComma (drop p (map seen cells))
no_comma-seen cells p none k d short =
    ap is_comma (get_or_default (drop p (map seen cells)) k d (Byte 0) short ∙ get_or-drop p (map seen cells) k (Byte 0) ∙ get_or-map-same seen cells (p + k) (Byte 0))
    ∙ comma-untagged (seen (get_or cells (p + k) (Byte 0))) (holds_comma-seen (get_or cells (p + k) (Byte 0)) ∙ none (p + k) (omega arith))

-- the last cells of a part
pub no_comma-part : (cells : List Cell) (p first end n : ℕ) → (first + n < end → p ≤ first + n) → NoCommaFrom p cells → NoComma (drop n (slice_range cells first end))
no_comma-part cells p first end n order none k d short =
    let part = slice_range cells first end in
    let long = length-drop n part in
    let few = length-take (end - first) (drop first cells) in
    let within : n + k < end - first = omega (arith, short, long, few) in
    ap is_comma (get_or_default (drop n part) k d (Byte 0) short ∙ get_or-drop n part k (Byte 0) ∙ get_or-take (end - first) (drop first cells) (n + k) (Byte 0) within ∙ get_or-drop first cells (n + k) (Byte 0))
    ∙ comma-untagged (get_or cells (first + (n + k)) (Byte 0)) (none (first + (n + k)) (omega (arith, order (omega (arith, within)))))

-- a cell that is no comma mark
pub no_comma-one : (cell : Cell) → holds_comma cell ≡ false → NoCommaFrom 0 (cell ∷ [])
no_comma-one cell other zero above = other
no_comma-one cell other (suc k) above = refl

-- characters
pub no_comma-bytes : (text : List ℕ) → NoCommaFrom 0 (bytes text)
no_comma-bytes text k above = ap holds_comma (get_or-map-same Byte text k 0)

byte-no_comma : (cell : Cell) → IsByte cell → holds_comma cell ≡ false
byte-no_comma (Byte b) byte = refl
byte-no_comma (Call mode k) byte = absurd byte
byte-no_comma Comma byte = absurd byte
byte-no_comma (Gap k) byte = absurd byte
byte-no_comma (Head k) byte = absurd byte

pub no_comma-characters : (cells : List Cell) → All IsByte cells → NoCommaFrom 0 cells
no_comma-characters cells characters k above =
    ⊎_elim
    (λ inside. byte-no_comma (get_or cells k (Byte 0)) (characters k (Byte 0) inside))
    (λ past. no_comma-past cells k past k (omega arith))
    (cases_lt k (length cells))
