-- Characters that are moved to a place before, one after the other, and become what a table says.
use Rattle.trac_space.proofs.Imports.{◌≡◌, ℕ, ◌+◌, ◌<◌, ◌≤◌, Bool, true, false, All, List, [], ◌∷◌, length, take, drop, map, get_or, refl, sym, ap, ◌∙◌, arith, subst, ◌==◌, if◌then◌else◌, places, length-drop, length-map, get_or-drop, get_or-take, get_or-map, take_more, take-take}
use Rattle.trac_space.proofs.Imports.{take-map, All-push, All-map, elements, Cell, Byte, Comma, seen, IsNoCall, NoCall, IsByte, character_of, number_in, IsInRun, turned_by, turned, paste}
use Rattle.trac_space.specs.Tags.{holds_comma, NoCommaFrom}
use Rattle.trac_space.proofs.Characters.{tested-seen}
use Rattle.trac_space.proofs.CommaPlaces.{no_comma-append, no_comma-one}

-- a cell of a part that is all characters is one
pub byte-at : (was : List Cell) (start k most : ℕ) (d : Cell) → k < most → start + most ≤ length was → All IsByte (take most (drop start was)) → IsByte (get_or was (start + k) d)
byte-at was start k most d less within bytes = grind (arith, elements, bytes k d)

module _ (table : List ℕ) (was : List Cell) (start k : ℕ) (d : Cell) (within : start + k < length was) where
  part_long : k < length (drop start was)
  part_long = omega (arith, length-drop start was)

  turned_long : k < length (turned table (drop start was))
  turned_long = omega (arith, part_long, length-map (drop start was) (turned_by table))

  -- the next cell is as it was, where the first k were put from place `to` on
  pub run-cell : (now : List Cell) (to : ℕ) → to ≤ start → now ≡ paste was to (turned table (drop start was)) k → get_or now (start + k) d ≡ get_or was (start + k) d
  run-cell now to before is = same _ turned_long is
    where
      same : (source : List Cell) → k < length source → now ≡ paste was to source k → get_or now (start + k) d ≡ get_or was (start + k) d
      same source long is = grind (arith, places)

  -- one character more of the run
  pub run-more : All (IsInRun table) (take k (drop start was)) → IsInRun table (get_or was (start + k) d) → All (IsInRun table) (take (k + 1) (drop start was))
  run-more run next =
      rw (take_more (drop start was) k d part_long) (All-push (IsInRun table) _ _ run (rw get_or-drop next))

  -- what becomes of the next cell of the run
  pub turned-at : get_or (turned table (drop start was)) k (turned_by table d) ≡ turned_by table (get_or was (start + k) d)
  turned-at = get_or-map (turned_by table) (drop start was) k d (turned_by table d) part_long ∙ ap (turned_by table) (get_or-drop start was k d)

  -- a cell more that is no comma mark
  pub no_comma-more : (last : ℕ) → holds_comma (turned_by table (get_or was (start + k) d)) ≡ false → NoCommaFrom last (take k (turned table (drop start was))) → NoCommaFrom last (take (k + 1) (turned table (drop start was)))
  no_comma-more last other none =
      let cells = turned table (drop start was) in
      rw (take_more cells k (turned_by table d) turned_long) (no_comma-append (take k cells) last none _ (no_comma-one _ (ap holds_comma turned-at ∙ other)))

-- a character stays, or becomes a comma mark
pub turned-byte : (table : List ℕ) (cell : Cell) → number_in table cell ≡ 0 → turned_by table cell ≡ Byte (character_of cell)
turned-byte table cell none = rw none refl

pub turned-one : (table : List ℕ) (cell : Cell) → number_in table cell ≡ 1 → turned_by table cell ≡ Comma
turned-one table cell one = rw one refl

-- what becomes of a cell in a run is seen as it is, and is no call mark
turned-plain : (table : List ℕ) (cell : Cell) → (seen (turned_by table cell) ≡ turned_by table cell) × IsNoCall (turned_by table cell)
turned-plain table cell = go (number_in table cell == 0) (character_of cell)
  where
    go : (stays : Bool) (c : ℕ) → (seen (if stays then Byte c else Comma) ≡ (if stays then Byte c else Comma)) × IsNoCall (if stays then Byte c else Comma)
    go true c = (refl, refl)
    go false c = (refl, refl)

pub turned-calls : (table : List ℕ) (cells : List Cell) → NoCall (turned table cells)
turned-calls table cells = All-map IsNoCall (turned_by table) cells (λ k d less. (turned-plain table (get_or cells k d)).1)

-- a cell has the character that it is seen with
pub character-seen : (cell : Cell) → character_of (seen cell) ≡ character_of cell
character-seen (Byte b) = refl
character-seen cell = refl

turned-seen : (table : List ℕ) (cells : List Cell) → turned table (map seen cells) ≡ turned table cells
turned-seen table [] = refl
turned-seen table (cell ∷ cells) = rw (character-seen cell, turned-seen table cells) refl

seen-turned : (table : List ℕ) (cells : List Cell) → map seen (turned table cells) ≡ turned table cells
seen-turned table [] = refl
seen-turned table (cell ∷ cells) = rw ((turned-plain table cell).0, seen-turned table cells) refl

module _ (right : List Cell) (a n : ℕ) (within : n ≤ a) where
  -- the first cells of active, as they stand in the block
  pub front-seen : take n (take a (map seen right)) ≡ map seen (take n right)
  front-seen = take-take n a (map seen right) within ∙ take-map seen n right

  -- the first cells of active are characters if they are seen as characters
  pub front-bytes : All IsByte (take n (take a (map seen right))) → All IsByte (take n right)
  front-bytes h = λ k d less.
      let one = (rw front-seen at h) k (seen d) (omega (arith, less, length-map (take n right) seen)) in
      rw (get_or-map seen (take n right) k d (seen d) less, tested-seen) at one

  -- the first cells of active are seen in a run if they stand in one in the block
  pub front-run : (table : List ℕ) → All (IsInRun table) (take n right) → All (IsInRun table) (take n (take a (map seen right)))
  front-run table h =
      rw front-seen (All-map (IsInRun table) seen (take n right) (λ k d less.
      subst (λ c. get_or table c 0 ≤ 1) (sym (character-seen (get_or (take n right) k d))) (h k d less)))

  -- what becomes of the first cells of active, as it is seen
  front-turns : (table : List ℕ) → take n (turned table right) ≡ turned table (take n (take a (map seen right)))
  front-turns table = take-map (turned_by table) n right ∙ sym (turned-seen table (take n right)) ∙ ap (turned table) (sym front-seen)

  pub front-turned : (table : List ℕ) → map seen (take n (turned table right)) ≡ turned table (take n (take a (map seen right)))
  front-turned table = ap (map seen) (front-turns table) ∙ seen-turned table (take n (take a (map seen right)))

-- the table has one number for the character behind a run, as it stands in the block and as it is seen
pub front-next : (right : List Cell) (a n : ℕ) → n < a → a ≤ length right → (table : List ℕ) → number_in table (get_or right n (Byte 0)) ≡ number_in table (get_or (take a (map seen right)) n (Byte 0))
front-next right a n inside within table =
    let at : get_or (take a (map seen right)) n (Byte 0) ≡ seen (get_or right n (Byte 0)) = get_or-take a (map seen right) n (Byte 0) inside ∙ get_or-map seen right n (Byte 0) (Byte 0) (omega (arith, inside, within)) in
    rw (at, character-seen (get_or right n (Byte 0))) refl
