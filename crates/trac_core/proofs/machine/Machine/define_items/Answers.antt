use Rattle.trac_core.proofs.Imports.{◌≡◌, ℕ, ◌<◌, ◌≤◌, true, false, arith, ap, refl, Result, Ok, Err}
use Rattle.std.specs.Prelude.{IsErr, IsOk, ◌⊎◌}
use Rattle.std.proofs.Common.{inl, inr}
use Rattle.std.proofs.lemmas.Bool.{cases_lt, false≢true}
use Rattle.trac_forms.specs.Contents.{Contents}
use Rattle.trac_functions.proofs.FlatLemmas.{size-used}
use Rattle.trac_core.proofs.machine.Machine.define_items.Goals as goal

-- no answer is both
not-both : {A E : Type 0} (r : Result A E) → IsErr r → IsOk r → ⊥
not-both (Ok x) err ok = false≢true err
not-both (Err e) err ok = false≢true ok

-- what isn't refused for want of room fits
not-full : (room need : ℕ) → (room < need → false ≡ true) → need ≤ room
not-full room need full = go (cases_lt room need)
  where
    go : (room < need) ⊎ (need ≤ room) → need ≤ room
    go (inl less) = absurd (false≢true (full less))
    go (inr fits) = fits

pub returns-in_err-put_form-clause-taken : goal.returns-in_err-put_form-clause-taken
returns-in_err-put_form-clause-taken g c =
    let i = c.self.inside in
    let full = c.in_err-put_form.ensures.full.0 refl in
    rw (← c.self.view_is) (λ ok. absurd (not-both c.from_residual.result c.from_residual.ensures.0 ok), λ room. absurd (omega (arith, full, room, size-used i.meta i.work)))

pub returns-in_err-put_form-clause-limits : goal.returns-in_err-put_form-clause-limits
returns-in_err-put_form-clause-limits g c =
    let i = c.self.inside in
    let same = ap (λ (w : Contents). w.room) c.in_err-put_form.ensures.err in
    record { cells = omega (arith, size-used i.meta c.put_form.new.self, c.put_form.ensures.sound.fits); steps = omega arith; peak = omega (arith, same) }

pub returns-clause-taken : goal.returns-clause-taken
returns-clause-taken g c =
    let i = c.self.inside in
    let fits = not-full i.work.room _ c.in_ok-put_form.ensures.full.1 in
    rw (← c.self.view_is) (λ ok. omega (arith, fits, size-used i.meta i.work), λ room. refl)

pub returns-clause-limits : goal.returns-clause-limits
returns-clause-limits g c =
    let i = c.self.inside in
    let same = ap (λ (w : Contents). w.room) c.in_ok-put_form.ensures.ok in
    record { cells = omega (arith, size-used i.meta c.put_form.new.self, c.put_form.ensures.sound.fits); steps = omega arith; peak = omega (arith, same) }
