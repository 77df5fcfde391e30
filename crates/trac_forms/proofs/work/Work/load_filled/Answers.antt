use Rattle.trac_forms.proofs.Imports.{◌≡◌, ℕ, ◌+◌, ◌<◌, ◌≤◌, length, Option, Some, None, MatchOption, refl, sym, ap, subst, arith, length-map, map, slice_range, Byte, Text, Lists, filled_body, flat_text, form_place, called_part, item_of, IsLoaded, forms_in, shown, used, IsStored, IsKept, bytes-flat}
use Rattle.trac_space.specs.Lists as lists
use Rattle.trac_store.specs.Arguments.{LoadsText}
use Rattle.trac_forms.proofs.Strings.{used-stored, before-active, restrung}
use Rattle.trac_forms.proofs.work.Work.load_filled.Goals as goal
use Rattle.trac_forms.proofs.work.Work.load_filled.Goals.{After-called_place-items, After-fill_items}

module _ {s : Lists} {count last start : ℕ} (h : IsStored s count last start) (text : Text) (t : Lists) where
  stored : (result : Option ℕ) → IsKept s.index_area t.index_area → LoadsText s t text result → IsStored t count last start
  stored None kept is =
      subst (λ (l : Lists). IsStored l count last start) (sym is.0) (restrung h s.neutral s.active t.index_area h.sound.neutral h.sound.active (omega (arith, used-stored s h.forms.whole, h.sound.fits)) kept)
  stored (Some n) kept is =
      let size = length-map text Byte in
      let fits : lists.used s + length (flat_text text) ≤ s.room = omega (arith, size, is.0, is.1) in
      before-active h t.index_area (record s { index_area = t.index_area }) t (flat_text text) kept (bytes-flat text) fits refl is.2

  seen : (result : Option ℕ) → LoadsText s t text result → MatchOption result ((shown t ≡ shown s) × ((shown s).room < used (shown s) + length text)) (λ n. IsLoaded (shown s) (shown t) text n)
  seen None is = (ap shown is.0, omega (arith, is.1, used-stored s h.forms.whole))
  seen (Some n) is =
      let used = used-stored s h.forms.whole in
      record { size = is.0; fits = omega (arith, is.1, used); stands = ap shown is.2 }

-- the items that are called, as they stand in the store
called : (c : After-called_place-items) → map item_of (slice_range c.self.inside.space.store c.called_place-items.result.from c.called_place-items.result.to) ≡ called_part (forms_in c.self.inside.space.store) c.locate-at.result.number
called c = rw c.self.invariant.forms.whole at (rw (← c.self.view_is) at c.called_place-items.ensures.items)

pub fill_items-requires-clause-within : goal.fill_items-requires-clause-within
fill_items-requires-clause-within c = rw c.self.invariant.forms.whole at (rw (← c.self.view_is) at c.called_place-items.ensures.within)

pub fill_items-requires-clause-arguments : goal.fill_items-requires-clause-arguments
fill_items-requires-clause-arguments c = rw (← c.self.view_is) at c.requires.arguments

-- they are put before active, or nothing is
fills : (c : After-fill_items) → map item_of (slice_range c.self.inside.space.store c.called_place-items.result.from c.called_place-items.result.to) ≡ called_part (forms_in c.self.inside.space.store) c.locate-at.result.number → LoadsText c.self.inside.space c.fill_items.new.space (filled_body (shown c.self.inside.space) (form_place c.args.form) c.args.first c.args.end) c.fill_items.result
fills c are = rw c.locate-at.ensures.number at (rw are at c.fill_items.ensures.filled)

pub invariant_of-self : goal.invariant_of-self
invariant_of-self c =
    let at = goal.at.invariant_of-self c in
    stored c.self.invariant _ c.fill_items.new.space c.fill_items.result c.fill_items.ensures.kept (fills at.After-fill_items (called at.After-called_place-items))

pub returns-clause-sound : goal.returns-clause-sound
returns-clause-sound c = (invariant_of-self c).sound

pub returns-clause-loaded : goal.returns-clause-loaded
returns-clause-loaded c =
    let at = goal.at.returns-clause-loaded c in
    rw (← c.self.view_is) (seen c.self.invariant _ c.fill_items.new.space c.fill_items.result (fills at.After-fill_items (called at.After-called_place-items)))
