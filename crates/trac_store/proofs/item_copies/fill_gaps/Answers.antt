use Rattle.trac_store.proofs.Imports.{◌≡◌, ℕ, ◌+◌, ◌≤◌, ◌<◌, ◌++◌, List, length, map, take, drop, slice_range, Option, Some, None, MatchOption, sym, ap, ◌∙◌, arith, length-map, Cell, Byte, Text, Lists, used, HaveTags, filled, flat_text, filled_cells, untagged}
use Rattle.trac_store.proofs.FilledParts.{IsBegin, given-takes, filled-flat, numbers-long, numbers-fewer, untagged-numbers}
use Rattle.trac_store.specs.Arguments.{LoadsText}
use Rattle.trac_store.proofs.item_copies.fill_gaps.Goals as goal
use Rattle.trac_store.proofs.item_copies.fill_gaps.Goals.{After-min-first, After-tag_commas-commas}

begin : (c : After-min-first) → IsBegin c.args.texts.from c.args.texts.to c.min-first.result
begin c = record { some = λ le. omega (arith, c.min-first.ensures, le); none = λ lt. omega (arith, c.min-first.ensures, lt) }

pub tag_commas-commas-requires-clause-takes : goal.tag_commas-commas-requires-clause-takes
tag_commas-commas-requires-clause-takes c =
    let k = (goal.at.tag_commas-commas-requires-clause-takes c).After-min-first in
    given-takes c.args.space.now.neutral c.args.texts.from c.args.texts.to c.min-first.result (begin k) c.requires.arguments.within c.requires.arguments.texts

-- what fills the items, as they stood before
same : (c : After-tag_commas-commas) → IsBegin c.args.texts.from c.args.texts.to c.min-first.result → (let mid = c.tag_commas-commas.new.self in filled (map untagged (slice_range mid.neutral c.min-first.result c.args.texts.to)) (slice_range mid.store c.args.items.from c.args.items.to) ≡ flat_text (filled_cells c.args.space.now c.args.items.from c.args.items.to c.args.texts.from c.args.texts.to))
same c begin_is =
    let old = c.args.space.now in
    let mid = c.tag_commas-commas.new.self in
    let tagged = c.tag_commas-commas.ensures in
    let order : c.min-first.result ≤ c.args.texts.to = omega (arith, c.min-first.ensures) in
    ap (λ cells. filled cells (slice_range mid.store c.args.items.from c.args.items.to)) (untagged-numbers old.neutral mid.neutral c.min-first.result c.args.texts.to order c.requires.arguments.within tagged.numbers)
    ∙ ap (λ (l : Lists). filled (slice_range old.neutral c.min-first.result c.args.texts.to) (slice_range l.store c.args.items.from c.args.items.to)) tagged.same
    ∙ filled-flat old.neutral c.args.texts.from c.args.texts.to c.min-first.result begin_is c.requires.arguments.within c.requires.arguments.texts (slice_range old.store c.args.items.from c.args.items.to)

-- the cells over which numbers lie
fewer : (c : After-tag_commas-commas) → HaveTags c.args.space.now.neutral c.tag_commas-commas.new.self.neutral c.min-first.result (c.min-first.result + c.tag_commas-commas.result)
fewer c =
    let tagged = c.tag_commas-commas.ensures in
    numbers-fewer c.args.space.now.neutral c.tag_commas-commas.new.self.neutral c.min-first.result c.args.texts.to (omega (arith, c.min-first.ensures)) c.requires.arguments.within tagged.numbers c.tag_commas-commas.result tagged.commas.within tagged.commas.others

-- the lists once the numbers are taken off again
module _ (old mid put last : Lists) (a b : ℕ) (numbers : HaveTags old.neutral mid.neutral a b) (long : length mid.neutral ≡ length old.neutral) (same : mid ≡ record old { neutral = mid.neutral }) (last_is : last ≡ record put { neutral = take a put.neutral ++ map untagged (slice_range put.neutral a b) ++ drop b put.neutral }) where
  kept_index_area : put.index_area ≡ last.index_area
  kept_index_area = sym (ap (λ (l : Lists). l.index_area) last_is)

  same_used : used mid ≡ used old
  same_used = omega (arith, long, ap (λ (l : Lists). length l.store) same, ap (λ (l : Lists). length l.active) same)

  same_room : mid.room ≡ old.room
  same_room = ap (λ (l : Lists). l.room) same

  cleared : (result : Option ℕ) (more : List Cell) (text : Text) → more ≡ flat_text text
      → MatchOption result
      ((put ≡ record mid { index_area = put.index_area }) × (mid.room < used mid + length more))
      (λ n. (length more ≡ n) × (used mid + n ≤ mid.room) × (put ≡ record mid { active = more ++ mid.active; index_area = put.index_area }))
      → LoadsText old last text result
  cleared None more text is h = (
    last_is
        ∙ ap (λ (l : Lists). record l { neutral = take a l.neutral ++ map untagged (slice_range l.neutral a b) ++ drop b l.neutral }) h.0
        ∙ ap (λ (l : Lists). record l { neutral = take a mid.neutral ++ map untagged (slice_range mid.neutral a b) ++ drop b mid.neutral; index_area = put.index_area }) same
        ∙ ap (λ cells. record old { neutral = cells; index_area = put.index_area }) numbers
        ∙ ap (λ cells. record old { index_area = cells }) kept_index_area,
    omega (arith, h.1, same_used, same_room, ap length is, length-map text Byte),
  )
  cleared (Some n) more text is h = (
    omega (arith, h.0, ap length is, length-map text Byte),
    omega (arith, h.1, same_used, same_room),
    last_is
        ∙ ap (λ (l : Lists). record l { neutral = take a l.neutral ++ map untagged (slice_range l.neutral a b) ++ drop b l.neutral }) h.2
        ∙ ap (λ (l : Lists). record l { neutral = take a mid.neutral ++ map untagged (slice_range mid.neutral a b) ++ drop b mid.neutral; active = more ++ l.active; index_area = put.index_area }) same
        ∙ ap (λ cells. record old { neutral = cells; active = more ++ old.active; index_area = put.index_area }) numbers
        ∙ ap (λ cells. record old { active = cells ++ old.active; index_area = put.index_area }) is
        ∙ ap (λ cells. record old { active = flat_text text ++ old.active; index_area = cells }) kept_index_area,
  )

pub returns-clause-filled : goal.returns-clause-filled
returns-clause-filled c =
    let at = goal.at.returns-clause-filled c in
    let tagged = c.tag_commas-commas.ensures in
    let old = c.args.space.now in
    let mid = c.tag_commas-commas.new.self in
    let is = same at.After-tag_commas-commas (begin at.After-min-first) in
    let long = numbers-long old.neutral mid.neutral c.min-first.result c.args.texts.to (omega (arith, c.min-first.ensures)) c.requires.arguments.within tagged.numbers in
    cleared old mid c.load_filled-loaded.new.space c.clear_neutral_tags.new.self c.min-first.result (c.min-first.result + c.tag_commas-commas.result) (fewer at.After-tag_commas-commas) long tagged.same c.clear_neutral_tags.ensures c.load_filled-loaded.result _ _ is c.load_filled-loaded.ensures.filled
