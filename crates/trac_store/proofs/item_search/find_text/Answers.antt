use Rattle.trac_store.proofs.Imports.{slice_range, ap, ◌∙◌, Lists}
use Rattle.trac_store.proofs.TaggedBorders.{shown-borders, shown-text}
use Rattle.trac_store.proofs.Searches.{first-seen}
use Rattle.trac_store.proofs.item_search.find_text.Goals as goal

pub first_place-found-requires-clause-borders : goal.first_place-found-requires-clause-borders
first_place-found-requires-clause-borders c =
    shown-borders c.args.space.now.neutral c.tag_borders.new.space.neutral c.neutral_part-text.result.now c.args.part.from c.args.part.to c.requires.text_part.within c.tag_borders.ensures.tagged c.neutral_part-text.ensures

pub returns-clause-found : goal.returns-clause-found
returns-clause-found c =
    let store = c.store_part.ensures ∙ ap (λ (l : Lists). slice_range l.store c.args.body.from c.args.body.to) c.tag_borders.ensures.same in
    let text = shown-text c.args.space.now.neutral c.tag_borders.new.space.neutral c.neutral_part-text.result.now c.args.part.from c.args.part.to c.requires.text_part.within c.tag_borders.ensures.tagged c.neutral_part-text.ensures in
    first-seen c.first_place-found.result c.store_part.result.now _ _ _ c.args.from store text c.first_place-found.ensures
