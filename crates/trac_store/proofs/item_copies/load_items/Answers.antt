use Rattle.trac_store.proofs.Imports.{◌≡◌, ◌+◌, ◌-◌, [], true, nat_le, length, used, slice_range, refl, arith, All-nil, IsByte}
use Rattle.trac_store.proofs.item_copies.load_items.Goals as goal

pub returns-then-size-eq0 : goal.returns-then-size-eq0
returns-then-size-eq0 c =
    let old = c.args.space.now in
    let zero : c.args.items.to - c.args.items.from ≡ 0 = c.if-size-eq0.true in
    let none : slice_range old.store c.args.items.from c.args.items.to ≡ [] = rw zero refl in
    let stays : nat_le (used old + 0 + length old.index_area) old.room ≡ true = grind (arith, c.free_beside_index.ensures) in
    rw (none, stays) (All-nil IsByte, omega (arith, c.requires.order, zero), omega (arith, c.free_beside_index.ensures), refl)
