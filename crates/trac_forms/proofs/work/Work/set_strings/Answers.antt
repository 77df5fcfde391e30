use Rattle.trac_forms.proofs.Imports.{◌≡◌, [], append-nil, get_or, ◌+◌, ◌≤◌, length, map, arith, refl, sym, subst, length-map, seen, bytes, Byte, IsByte, IsStringCell, IsStored, All-map, reserved-kept}
use Rattle.trac_space.specs.Lists.{Lists, reserved}
use Rattle.trac_forms.proofs.Strings.{used-stored, string_cell-seen, restrung}
use Rattle.trac_forms.proofs.work.Work.set_strings.Goals as goal

pub reserve-requires : goal.reserve-requires
reserve-requires c =
    let used = used-stored c.self.inside.space c.self.invariant.forms.whole in
    let bounded = c.self.invariant.sound.bounded in
    let fits = rw (← c.self.view_is) at c.requires.room in
    rw c.clear_strings.ensures (omega arith)

pub invariant_of-self : goal.invariant_of-self
invariant_of-self c =
    let i = c.self.inside in
    let s = i.space in
    let neutral = c.args.neutral.now in
    let text = c.args.active.now in
    let none : Lists = record s { neutral = []; active = [] } in
    let kept = reserved-kept (length neutral + length text) none in
    let used = used-stored s c.self.invariant.forms.whole in
    let fits = rw (← c.self.view_is) at c.requires.room in
    let room : length s.store + length (map seen neutral) + length (bytes text) ≤ s.room = omega (arith, length-map neutral seen, length-map text Byte) in
    let put : c.put_cells.new.self ≡ record s { neutral = map seen neutral; active = bytes text; index_area = (reserved (length neutral + length text) none).index_area } =
    rw (c.put_cells.ensures, c.load_bytes.ensures, c.reserve.ensures.same, c.clear_strings.ensures, append-nil (bytes text)) refl in
    subst (λ (l : Lists). IsStored l i.count i.last.number i.last.start) (sym put)
    (restrung c.self.invariant (map seen neutral) (bytes text) _ (All-map IsStringCell seen neutral (λ k d less. string_cell-seen (get_or neutral k d) (c.requires.string k d less))) (All-map IsByte Byte text (λ k d less. tt)) room kept)

pub returns-clause-sound : goal.returns-clause-sound
returns-clause-sound c = (invariant_of-self c).sound
