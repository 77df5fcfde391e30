use Rattle.trac_store.proofs.Imports.{◌≡◌, ℕ, ◌≤◌, ◌++◌, true, false≢true, length, slice_range, Option, Some, None, sym, ap, ◌∙◌, arith, Lists, reserved, flat_text, texts_between, filled_cells}
use Rattle.std.specs.Option.{is_some}
use Rattle.trac_space.specs.declared.part.Part.{Part}
use Rattle.trac_store.specs.Arguments.{LoadsText, LoadsCharacters}
use Rattle.trac_store.proofs.Filling.{characters-flat, characters-length}
use Rattle.trac_store.proofs.item_copies.fill_items.Goals as goal

-- characters are filled by no text
characters : (result : Option ℕ) (old new : Lists) (items texts : Part) → items.to ≤ length old.store → is_some result ≡ true
    → LoadsCharacters old new items.from items.to result
    → LoadsText old new (filled_cells old items.from items.to texts.from texts.to) result
characters None old new items texts within some h = absurd (false≢true some)
characters (Some n) old new items texts within some h =
    let given = texts_between old.neutral texts.from texts.to in
    let text = filled_cells old items.from items.to texts.from texts.to in
    let flat = characters-flat given (slice_range old.store items.from items.to) h.0 in
    let size = characters-length given old.store items.from items.to within h.0 in
    let stands = h.3 in
    let index_area : new.index_area ≡ (reserved n old).index_area = ap (λ (l : Lists). l.index_area) stands in (
      omega (arith, size, h.1),
      h.2,
      stands
          ∙ ap (λ cells. record (reserved n old) { active = cells ++ old.active }) (sym flat)
          ∙ ap (λ cells. record old { active = flat_text text ++ old.active; index_area = cells }) (sym index_area),
    )

pub returns-then-is_some-clause-filled : goal.returns-then-is_some-clause-filled
returns-then-is_some-clause-filled c =
    characters c.load_items-loaded.result c.args.space.now c.load_items-loaded.new.space c.args.items c.args.texts c.requires.within (sym c.is_some.ensures ∙ c.if-is_some.true) c.load_items-loaded.ensures
