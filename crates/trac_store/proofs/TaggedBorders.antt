-- Borders that are laid over a text, one after the other.
use Rattle.trac_store.proofs.Imports.{◌≡◌, ℕ, ◌+◌, ◌-◌, ◌<◌, ◌≤◌, List, [], ◌∷◌, length, take, drop, map, slice_range, get_or, set, refl, sym, ap, subst, ◌∙◌, arith, rules, reads, places, same_lists, ⊎_elim, All, All-head, All-tail, All-get_or, append_assoc, drop-drop, drop-set-lt, take-set-le, length-set, length-map}
use Rattle.trac_store.proofs.Imports.{get_or-set_same, get_or-set_other, get_or-map, get_or-drop, get_or-between, length-between, split_between, cases_eq, Cell, Byte, Call, Comma, Gap, Head, seen, Lists, character_of, IsByte, untagged, tag_of, byte_at, IsLongestBorder, IsNextBorder, tagged_text, HaveBorders, AreTagged, IsTextPart, part_text}
use Rattle.std.proofs.Math.ListN.{get_or-map as get_or-map-same}
use Rattle.std.proofs.Math.Seq.{map-set_same}
use Rattle.std.proofs.lemmas.Simd.{map-map}
use Rattle.trac_store.proofs.TextBorders.{longest-more}

-- the borders of the first `count` beginnings are laid, and the cells behind them are as they were
pub record BordersTagged (was now : List Cell) (count border : ℕ) : Type 0 where
  pub untagged_is : map untagged now ≡ map untagged was
  pub behind : drop count now ≡ drop count was
  pub some : 0 < count
  pub within : count ≤ length now
  pub borders : HaveBorders now count
  pub longest : IsLongestBorder (tagged_text now) count border

drop-more : (was now : List Cell) (count : ℕ) → drop count now ≡ drop count was → drop (count + 1) now ≡ drop (count + 1) was
drop-more was now count same = sym (drop-drop 1 count now) ∙ ap (drop 1) same ∙ drop-drop 1 count was

pub tagged-text-set : (cells : List Cell) (k : ℕ) (cell : Cell) → untagged cell ≡ untagged (get_or cells k (Byte 0)) → tagged_text (set cells k cell) ≡ tagged_text cells
tagged-text-set cells k cell same =
    map-set_same (λ c. character_of (untagged c)) cells k cell (Byte 0) (ap character_of same)

-- one border more
module _ (was now : List Cell) (count border : ℕ) (h : BordersTagged was now count border) (less : count < length now) where
  pub tagged-next : (next : ℕ) (cell : Cell) → untagged cell ≡ untagged (get_or now count (Byte 0)) → tag_of cell ≡ next → get_or now count (Byte 0) ≡ Byte (byte_at (tagged_text now) count) → IsNextBorder (tagged_text now) border (get_or now count (Byte 0)) next → BordersTagged was (set now count cell) (count + 1) next
  tagged-next next cell same over_is byte is =
      let text : tagged_text (set now count cell) ≡ tagged_text now = tagged-text-set now count cell same in
      let long : IsLongestBorder (tagged_text now) (count + 1) next = longest-more (tagged_text now) count border next (get_or now count (Byte 0)) byte h.longest is in
      record {
        untagged_is = map-set_same untagged now count cell (Byte 0) same ∙ h.untagged_is;
        behind = drop-set-lt (count + 1) now count cell (omega arith) ∙ drop-more was now count h.behind;
        some = omega arith;
        within = omega (arith, less, length-set now count cell);
        borders = λ n some within.
            ⊎_elim
            (λ last.
            let e : n - 1 ≡ count = omega (arith, last) in
            let read : tag_of (get_or (set now count cell) (n - 1) (Byte 0)) ≡ next = ap (λ k. tag_of (get_or (set now count cell) k (Byte 0))) e ∙ ap tag_of (get_or-set_same now count cell (Byte 0) less) ∙ over_is in
            subst (λ b. IsLongestBorder (tagged_text (set now count cell)) n b) (sym read) (subst (λ t. IsLongestBorder t n next) (sym text) (subst (λ m. IsLongestBorder (tagged_text now) m next) (sym last) long)))
            (λ other.
            let e : get_or (set now count cell) (n - 1) (Byte 0) ≡ get_or now (n - 1) (Byte 0) = get_or-set_other now count (n - 1) cell (Byte 0) (λ at. other (omega (arith, at, some))) in
            subst (λ c. IsLongestBorder (tagged_text (set now count cell)) n (tag_of c)) (sym e) (subst (λ t. IsLongestBorder t n (tag_of (get_or now (n - 1) (Byte 0)))) (sym text) (h.borders n some (omega (arith, within, other)))))
            (cases_eq n (count + 1));
        longest = subst (λ t. IsLongestBorder t (count + 1) next) (sym text) long;
      }

pub cell-kept : (was now : List Cell) (count : ℕ) → drop count now ≡ drop count was → get_or now count (Byte 0) ≡ get_or was count (Byte 0)
cell-kept was now count same =
    let e : count + 0 ≡ count = omega arith in
    let read : (cells : List Cell) → get_or (drop count cells) 0 (Byte 0) ≡ get_or cells count (Byte 0) = λ cells. get_or-drop count cells 0 (Byte 0) ∙ ap (λ k. get_or cells k (Byte 0)) e in
    sym (read now) ∙ ap (λ cells. get_or cells 0 (Byte 0)) same ∙ read was

is-character : (cell : Cell) → IsByte cell → cell ≡ Byte (character_of cell)
is-character (Byte b) is = refl
is-character cell is = absurd is

character-in : (text : List Cell) (k : ℕ) → k < length text → All IsByte text → get_or text k (Byte 0) ≡ Byte (byte_at (map character_of text) k)
character-in text k within bytes =
    is-character (get_or text k (Byte 0)) (All-get_or IsByte text k (Byte 0) within bytes) ∙ ap (λ b. Byte b) (sym (get_or-map character_of text k (Byte 0) 0 within))

-- a cell that isn't reached yet is that of the text under the numbers
pub byte-untagged : (was now : List Cell) (count : ℕ) → drop count now ≡ drop count was → count < length was → count < length now → All IsByte was → get_or now count (Byte 0) ≡ Byte (byte_at (tagged_text now) count)
byte-untagged was now count same within inside bytes =
    let is = cell-kept was now count same ∙ character-in was count within bytes in
    let read : byte_at (tagged_text now) count ≡ character_of (untagged (get_or now count (Byte 0))) = get_or-map (λ c. character_of (untagged c)) now count (Byte 0) 0 inside in
    is ∙ ap (λ b. Byte b) (sym (read ∙ ap (λ c. character_of (untagged c)) is))

untagged-byte : (cell : Cell) → IsByte cell → untagged cell ≡ cell
untagged-byte (Byte b) is = refl
untagged-byte cell is = absurd is

-- under characters over which nothing lies are they themselves
pub untagged-bytes : (cells : List Cell) → All IsByte cells → map untagged cells ≡ cells
untagged-bytes [] bytes = refl
untagged-bytes (cell ∷ cells) bytes =
    ap (λ c. c ∷ map untagged cells) (untagged-byte cell (All-head IsByte cell cells bytes)) ∙ ap (λ l. cell ∷ l) (untagged-bytes cells (All-tail IsByte cell cells bytes))

text-untagged : (was now : List Cell) → map untagged now ≡ map untagged was → All IsByte was → tagged_text now ≡ map character_of was
text-untagged was now same bytes =
    sym (map-map character_of untagged now) ∙ ap (map character_of) (same ∙ untagged-bytes was bytes)

-- the text and the numbers are seen as they are
seen-character : (cell : Cell) → character_of (untagged (seen cell)) ≡ character_of (untagged cell)
seen-character (Byte b) = refl
seen-character cell = refl

seen-tag_of : (cell : Cell) → tag_of (seen cell) ≡ tag_of cell
seen-tag_of (Byte b) = refl
seen-tag_of cell = refl

pub tagged-seen : (cells : List Cell) → tagged_text (map seen cells) ≡ tagged_text cells
tagged-seen [] = refl
tagged-seen (cell ∷ cells) = rw (seen-character cell, tagged-seen cells) refl

tag_of-seen : (cells : List Cell) (k : ℕ) → tag_of (get_or (map seen cells) k (Byte 0)) ≡ tag_of (get_or cells k (Byte 0))
tag_of-seen cells k = ap tag_of (get_or-map-same seen cells k (Byte 0)) ∙ seen-tag_of (get_or cells k (Byte 0))

-- the slice of a list with borders has them
pub borders-seen : (cells part : List Cell) (count : ℕ) → map seen cells ≡ part → HaveBorders part count → HaveBorders cells count
borders-seen cells part count shown borders n some within =
    let text = ap tagged_text (sym shown) ∙ tagged-seen cells in
    let number = ap (λ l. tag_of (get_or l (n - 1) (Byte 0))) (sym shown) ∙ tag_of-seen cells (n - 1) in
    subst (λ t. IsLongestBorder t n (tag_of (get_or cells (n - 1) (Byte 0)))) text (subst (IsLongestBorder (tagged_text part) n) number (borders n some within))

byte-seen : (cell : Cell) (b : ℕ) → seen cell ≡ Byte b → cell ≡ Byte b
byte-seen (Byte c) b is = is
byte-seen (Call mode k) b is = cc
byte-seen Comma b is = cc
byte-seen (Gap k) b is = cc
byte-seen (Head n) b is = cc

-- the borders of the first `count` beginnings of the text from a up to b are laid
pub record BordersUpTo (old now : Lists) (a b count border : ℕ) : Type 0 where
  pub same : now ≡ record old { neutral = now.neutral }
  pub front : take a now.neutral ≡ take a old.neutral
  pub behind : drop b now.neutral ≡ drop b old.neutral
  pub long : length now.neutral ≡ length old.neutral
  pub tagged : BordersTagged (slice_range old.neutral a b) (slice_range now.neutral a b) count border

-- the cell to which a further one comes
module _ (old now : Lists) (a b count border : ℕ) (part : IsTextPart old.neutral a b) (h : BordersUpTo old now a b count border) (less : count < b - a) (text : List Cell) (shown : map seen text ≡ slice_range now.neutral a b) where
  was_len : length (slice_range old.neutral a b) ≡ b - a
  was_len = length-between old.neutral a b part.within

  now_len : length (slice_range now.neutral a b) ≡ b - a
  now_len = length-between now.neutral a b (omega (arith, part.within, h.long))

  abbrev here : Cell
  here = get_or (slice_range now.neutral a b) count (Byte 0)

  pub here-is : here ≡ Byte (byte_at (tagged_text (slice_range now.neutral a b)) count)
  here-is = byte-untagged (slice_range old.neutral a b) (slice_range now.neutral a b) count h.tagged.behind (omega (arith, less, was_len)) (omega (arith, less, now_len)) part.bytes

  pub cell-is : get_or text count (Byte 0) ≡ here
  cell-is =
      let seen_is : seen (get_or text count (Byte 0)) ≡ here = sym (get_or-map-same seen text count (Byte 0)) ∙ ap (λ l. get_or l count (Byte 0)) shown in
      byte-seen _ _ (seen_is ∙ here-is) ∙ sym here-is

  pub in-neutral : get_or now.neutral (a + count) (Byte 0) ≡ here
  in-neutral = sym (get_or-between now.neutral a b count (Byte 0) (omega (arith, less)))

  pub text-borders : HaveBorders text border
  text-borders n some within = borders-seen text (slice_range now.neutral a b) count shown h.tagged.borders n some (omega (arith, within, h.tagged.longest.shorter))

  pub up-to-next : (new : Lists) (next : ℕ) (cell : Cell) → IsNextBorder (tagged_text text) border (get_or text count (Byte 0)) next → untagged cell ≡ untagged (get_or text count (Byte 0)) → tag_of cell ≡ next → new ≡ record now { neutral = set now.neutral (a + count) cell } → BordersUpTo old new a b (count + 1) next
  up-to-next new next cell is untagged_is over_is written =
      let neutral : new.neutral ≡ set now.neutral (a + count) cell = ap (λ (s : Lists). s.neutral) written in
      let order = part.order in
      let inside = part.within in
      let slice : slice_range new.neutral a b ≡ set (slice_range now.neutral a b) count cell = ap (λ l. slice_range l a b) neutral ∙ same_lists _ _ (search (rules, places)) (λ k d below. grind (arith, reads)) in
      let words : tagged_text text ≡ tagged_text (slice_range now.neutral a b) = sym (tagged-seen text) ∙ ap tagged_text shown in
      let is_here : IsNextBorder (tagged_text (slice_range now.neutral a b)) border here next = subst (λ c. IsNextBorder (tagged_text (slice_range now.neutral a b)) border c next) cell-is (subst (λ t. IsNextBorder t border (get_or text count (Byte 0)) next) words is) in
      record {
        same = written ∙ ap (λ (s : Lists). record s { neutral = set now.neutral (a + count) cell }) h.same ∙ ap (λ l. record old { neutral = l }) (sym neutral);
        front = ap (take a) neutral ∙ take-set-le a now.neutral (a + count) cell (omega arith) ∙ h.front;
        behind = ap (drop b) neutral ∙ drop-set-lt b now.neutral (a + count) cell (omega (arith, less)) ∙ h.behind;
        long = ap length neutral ∙ length-set now.neutral (a + count) cell ∙ h.long;
        tagged = subst (λ l. BordersTagged (slice_range old.neutral a b) l (count + 1) next) (sym slice) (tagged-next (slice_range old.neutral a b) (slice_range now.neutral a b) count border h.tagged (omega (arith, less, now_len)) next cell (untagged_is ∙ ap untagged cell-is) over_is here-is is_here);
      }

-- the borders of all beginnings are laid
pub tagged-all : (old now : Lists) (a b count border : ℕ) → IsTextPart old.neutral a b → BordersUpTo old now a b count border → b - a ≤ count → AreTagged old.neutral now.neutral a b
tagged-all old now a b count border part h all =
    let was = slice_range old.neutral a b in
    let cells = slice_range now.neutral a b in
    let untagged_is : map untagged cells ≡ was = h.tagged.untagged_is ∙ untagged-bytes was part.bytes in
    record {
      numbers = rw (h.front, untagged_is, h.behind) (append_assoc (take a old.neutral) was (drop b old.neutral) ∙ sym (split_between old.neutral a b part.order));
      text = text-untagged was cells h.tagged.untagged_is part.bytes;
      borders = λ n some within. h.tagged.borders n some (omega (arith, within, all));
      long = h.long;
    }

-- the text as a slice shows it
module _ (was now text : List Cell) (a b : ℕ) (within : b ≤ length was) (tagged : AreTagged was now a b) (shown : map seen text ≡ slice_range now a b) where
  pub shown-long : length text ≡ b - a
  shown-long = sym (length-map text seen) ∙ ap length shown ∙ length-between now a b (omega (arith, within, tagged.long))

  pub shown-borders : HaveBorders text (length text)
  shown-borders = subst (HaveBorders text) (sym shown-long) (borders-seen text (slice_range now a b) (b - a) shown tagged.borders)

  pub shown-text : tagged_text text ≡ part_text was a b
  shown-text = sym (tagged-seen text) ∙ ap tagged_text shown ∙ tagged.text
