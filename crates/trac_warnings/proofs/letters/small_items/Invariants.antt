use Rattle.std.proofs.Common.{◌≡◌, map, take}
use Rattle.trac_warnings.specs.Letters.{small_item}
use Rattle.trac_warnings.proofs.letters.small_items.Given as goal

-- the small letters so far
abbrev pub invariant-loop-item : goal.invariant-loop-item
invariant-loop-item g l = l.small.items ≡ map small_item (take l.item-index l.items)
