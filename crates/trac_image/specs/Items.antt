-- The items of a body that stands in an image.
use Rattle.std.specs.Prelude.{List}
use Rattle.trac_language.specs.declared.item.Item.{Item}
use Rattle.trac_image.specs.declared.body.ImageBody.{ImageBody}
use Rattle.trac_image.specs.Reading.{woven}

-- the items that are still to come
abbrev pub items_of : ImageBody → List Item
items_of b = woven b.left b.since b.gaps.now b.characters.now
