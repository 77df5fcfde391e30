use Rattle.trac_forms.proofs.Imports.{◌≡◌, ◌≤◌, ◌++◌, false≢true, length, arith, map, slice_range, OnTrue, flat_text, item_of, called_part, reserved, reserved-kept, forms_in, shown}
use Rattle.trac_forms.specs.Loading.{next_text}
use Rattle.trac_forms.proofs.NextItems.{has-next, next-less, next-byte, next-fits, next-put}
use Rattle.trac_forms.proofs.Strings.{used-stored, text-appended, shown-appended}
use Rattle.trac_forms.proofs.work.Work.put_next.Goals as goal
use Rattle.trac_forms.proofs.work.Work.put_next.Goals.{After-called_place-items, After-put_character}

within : (c : After-called_place-items) → c.called_place-items.result.to ≤ length c.self.inside.space.store
within c = rw c.self.invariant.forms.whole at (rw (← c.self.view_is) at c.called_place-items.ensures.within)

are : (c : After-called_place-items) → map item_of (slice_range c.self.inside.space.store c.called_place-items.result.from c.called_place-items.result.to) ≡ called_part (forms_in c.self.inside.space.store) c.args.form.number
are c = rw c.self.invariant.forms.whole at (rw (← c.self.view_is) at c.called_place-items.ensures.items)

pub put_character-requires : goal.put_character-requires
put_character-requires c =
    let inside = within (goal.at.put_character-requires c).After-called_place-items in
    omega (arith, c.called_place-items.ensures.order, c.if-items.false, inside)

pub returns-then-items-clause-put : goal.returns-then-items-clause-put
returns-then-items-clause-put c =
    let k = (goal.at.returns-then-items-clause-put c).After-called_place-items in
    rw (← c.self.view_is) (λ e. absurd (false≢true e), λ has. absurd (omega (arith, next-less c.self.inside.space c.args.form.number _ _ c.self.invariant.forms.whole c.called_place-items.ensures.order (within k) (are k) has, c.if-items.true)))

pub returns-clause-put : goal.returns-clause-put
returns-clause-put c =
    let k = (goal.at.returns-clause-put c).After-called_place-items in
    let s = c.self.inside.space in
    let whole = c.self.invariant.forms.whole in
    let order = c.called_place-items.ensures.order in
    let put = c.put_character.ensures.put in
    rw (← c.self.view_is) (
      λ e. has-next s c.args.form.number _ _ whole order (within k) (are k) (omega (arith, order, c.if-items.false)) (put.0 e).0 (put.0 e).1,
      λ has. put.1 (next-byte s c.args.form.number _ _ whole order (within k) (are k) has, next-fits s c.args.form.number _ _ whole order (within k) (are k) has),
    )

-- the text of that item is put at the end
puts : (c : After-put_character) → c.called_place-items.result.to ≤ length c.self.inside.space.store → map item_of (slice_range c.self.inside.space.store c.called_place-items.result.from c.called_place-items.result.to) ≡ called_part (forms_in c.self.inside.space.store) c.args.form.number → OnTrue c.put_character.result (c.put_character.new.space ≡ record c.self.inside.space { neutral = c.self.inside.space.neutral ++ flat_text (next_text (shown c.self.inside.space) c.args.form.number); index_area = (reserved 1 c.self.inside.space).index_area })
puts c inside items =
    let order = c.called_place-items.ensures.order in
    next-put c.self.inside.space c.args.form.number _ _ c.self.invariant.forms.whole order inside items _ c.put_character.result c.put_character.new.space (λ e. (c.put_character.ensures.put.0 e).0) (omega (arith, order, c.if-items.false)) c.put_character.ensures.last

pub invariant_of-self : goal.invariant_of-self
invariant_of-self c =
    let at = goal.at.invariant_of-self c in
    let k = at.After-called_place-items in
    let s = c.self.inside.space in
    let whole = c.self.invariant.forms.whole in
    let order = c.called_place-items.ensures.order in
    text-appended c.self.invariant _ c.put_character.new.space (next_text (shown s) c.args.form.number) c.put_character.result (reserved-kept _ s) (λ e. omega (arith, (has-next s c.args.form.number _ _ whole order (within k) (are k) (omega (arith, order, c.if-items.false)) (c.put_character.ensures.put.0 e).0 (c.put_character.ensures.put.0 e).1).fits, used-stored s whole)) (puts at.After-put_character (within k) (are k)) c.put_character.ensures.left

pub returns-clause-last : goal.returns-clause-last
returns-clause-last c =
    let at = goal.at.returns-clause-last c in
    let k = at.After-called_place-items in
    rw (← c.self.view_is) (shown-appended _ c.put_character.result c.self.inside.space c.put_character.new.space _ (puts at.After-put_character (within k) (are k)))

pub returns-clause-sound : goal.returns-clause-sound
returns-clause-sound c = (invariant_of-self c).sound
