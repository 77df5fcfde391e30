use Rattle.std.proofs.Common.{[], ap, arith, length, refl, subst, sym, ◌<◌, ◌∙◌, ◌≡◌}
use Rattle.std.proofs.lemmas.Bool.{true≢false}
use Rattle.std.specs.Prelude.{IsOk, OnErr, OnOk, Result, Ok, Err, flat_map}
use Rattle.trac_core.specs.Changing.{with_forms}
use Rattle.trac_core.specs.Machine.{MachineState}
use Rattle.trac_image.specs.Fitting.{AreFit, CanStand}
use Rattle.trac_image.specs.Image.{form_image}
use Rattle.trac_image.specs.Loading.{Loads, with_image}
use Rattle.trac_image.specs.Reading.{forms_in}
use Rattle.trac_image.proofs.Contents.{all-bytes, framed-bytes}
use Rattle.trac_image.proofs.LoadedImages.{image-content, image-loads, room-freed}
use Rattle.trac_image.proofs.loading.load.Goals as goal

module _ {A E : Type 0} where
  on-ok : (r : Result A E) {P : Type 0} → P → OnOk r P
  on-ok (Ok x) p = p
  on-ok (Err e) p = tt

  on-err : (r : Result A E) (P : Type 0) → IsOk r → OnErr r P
  on-err (Ok x) P ok = tt
  on-err (Err e) P ok = absurd (true≢false (sym ok))

pub returns-in_default-clause-taken : goal.returns-in_default-clause-taken
returns-in_default-clause-taken c =
    let m : MachineState = c.args.machine.now in
    let room = c.room_for_forms-room.ensures.room in (
      λ same. absurd (true≢false (sym same)),
      λ loadable. (
          let is = loadable.1.1 in
          let stand = subst (CanStand loadable.0) (sym room) is.stand in
          let few : c.room_for_forms-room.result < 4294967296 = omega (arith, c.room_for_forms-room.ensures.few) in
          absurd (c.in_default.ensures loadable.1.0 (length loadable.0) (flat_map form_image loadable.0) (image-content c.room_for_forms-room.result c.args.image.now loadable.0 loadable.1.0 few is.image stand))
          ),
    )

pub returns-in_default-clause-err : goal.returns-in_default-clause-err
returns-in_default-clause-err c = refl

pub define_forms-requires-clause-none : goal.define_forms-requires-clause-none
define_forms-requires-clause-none c =
    ap (λ (m : MachineState). m.memory.forms) (c.set_meta.ensures.set) ∙ ap (λ (m : MachineState). m.memory.forms) c.delete_all.ensures.gone

pub define_forms-requires-clause-fit : goal.define_forms-requires-clause-fit
define_forms-requires-clause-fit c =
    let m : MachineState = c.args.machine.now in
    let meta = c.in-Some.content.meta in
    let after : MachineState = c.set_meta.new.self in
    let is : after ≡ with_image [] meta m = c.set_meta.ensures.set ∙ ap (λ (n : MachineState). record n { memory = record n.memory { meta = meta } }) c.delete_all.ensures.gone in
    let room = c.room_for_forms-room.ensures.room ∙ sym (room-freed m after meta is) in
    subst (λ room. AreFit c.in-Some.content.count room c.in-Some.content.forms.now) room c.in-Some.ensures.fit

pub define_forms-requires-clause-distinct : goal.define_forms-requires-clause-distinct
define_forms-requires-clause-distinct c = c.in-Some.ensures.distinct

pub returns : goal.returns
returns c =
    let m : MachineState = c.args.machine.now in
    let after : MachineState = c.define_forms.new.machine in
    let meta = c.in-Some.content.meta in
    let count = c.in-Some.content.count in
    let t = c.in-Some.content.forms.now in
    let set : c.set_meta.new.self ≡ with_image [] meta m = c.set_meta.ensures.set ∙ ap (λ (n : MachineState). record n { memory = record n.memory { meta = meta } }) c.delete_all.ensures.gone in
    let is : after ≡ with_image (forms_in count t) meta m = c.define_forms.ensures.defined ∙ ap (with_forms (forms_in count t)) set in
    let image = c.args.image.now in
    let bytes = framed-bytes image meta count t (all-bytes image (λ i. omega (arith, c.type_inv.image i))) c.in-Some.ensures.content.image in
    let loads = image-loads c.room_for_forms-room.result c.args.image.now meta count t c.in-Some.ensures m after c.room_for_forms-room.ensures.room bytes is in
    let found = subst (λ (n : MachineState). Loads m c.args.image.now n) is loads in
    record {
      taken = (λ yes. (forms_in count t, (meta, found.image)), λ loadable. c.define_forms.ensures.ok);
      ok = on-ok c.define_forms.result loads;
      err = on-err c.define_forms.result _ c.define_forms.ensures.ok;
    }
