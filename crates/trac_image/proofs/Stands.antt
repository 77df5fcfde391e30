-- What the forms of an image have to be that a machine can take.
use Rattle.std.proofs.Common.{List, [], ap, append_assoc, arith, length, subst, sym, zero, suc, ℕ, ◌++◌, ◌-◌, ◌<◌, ◌∷◌, ◌≡◌, ◌≤◌}
use Rattle.std.proofs.lemmas.List.Elements.{All-cons, All-head, All-nil, All-tail}
use Rattle.std.proofs.lemmas.List.Sums.{sum_by-cons}
use Rattle.std.specs.Prelude.{flat_map}
use Rattle.trac_language.specs.Text.{Text}
use Rattle.trac_language.specs.Form.{Form}
use Rattle.trac_language.specs.declared.item.Item.{Item}
use Rattle.trac_language.specs.declared.item.Item.TheVariants.{Byte, Gap}
use Rattle.trac_language.specs.Store.{IsStore, form_cells}
use Rattle.trac_image.specs.Fitting.{AreDistinct, AreFit, CanStand}
use Rattle.trac_image.specs.Image.{form_image}
use Rattle.trac_image.specs.Reading.{GapsFit, behind_form, characters_in, form_in, forms_in, gaps_in, heads_in}
use Rattle.trac_image.specs.Laws.{AreCodable, HaveOrdinals}
use Rattle.trac_image.proofs.ReadBack.{HaveParts, form-read, length-woven}

abbrev HasGaps : Form → Type 0
HasGaps form = GapsFit form.body

pub have-parts : (n room : ℕ) (t : Text) → AreFit n room t → HaveParts n t
have-parts zero room t fit = tt
have-parts (suc n) room t fit = (fit.0.parts, have-parts n (room - form_cells (form_in t)) (behind_form t) fit.2)

-- forms that were read can stand in a machine
pub forms-stand : (n room : ℕ) (t : Text) → AreFit n room t → AreDistinct (forms_in n t) → CanStand (forms_in n t) room
forms-stand zero room t fit distinct = record { store = tt; gaps = All-nil HasGaps; fit = omega arith }
forms-stand (suc n) room t fit distinct =
    let f = form_in t in
    let rest = forms_in n (behind_form t) in
    let others = forms-stand n (room - form_cells f) (behind_form t) fit.2 distinct.1 in
    let long = length-woven (heads_in t).body 0 (gaps_in t) (characters_in t) in
    record {
      store = (omega (arith, fit.0.pointer, long), distinct.0, others.store);
      gaps = All-cons HasGaps f rest fit.0.gaps others.gaps;
      fit = omega (arith, sum_by-cons form_cells f rest, fit.1, others.fit);
    }

distinct-store : (forms : List Form) → IsStore forms → AreDistinct forms
distinct-store [] store = tt
distinct-store (form ∷ forms) store = (store.1, distinct-store forms store.2)

ordinals-fit : (items : List Item) → GapsFit items → HaveOrdinals items
ordinals-fit [] fit = tt
ordinals-fit (Byte c ∷ items) fit = ordinals-fit items fit
ordinals-fit (Gap k ∷ items) fit = (omega (arith, fit.1), ordinals-fit items fit.2)

-- each number of forms that can stand in a machine fits into four bytes
pub stand-codable : (forms : List Form) (room : ℕ) → room < 4294967296 → CanStand forms room → AreCodable forms
stand-codable [] room few stand = tt
stand-codable (form ∷ forms) room few stand =
    let fit = sum_by-cons form_cells form forms in
    let others = stand-codable forms room few (record {
      store = stand.store.2;
      gaps = All-tail HasGaps form forms stand.gaps;
      fit = omega (arith, fit, stand.fit);
    }) in (
      record {
        name = omega (arith, fit, stand.fit, few);
        body = omega (arith, fit, stand.fit, few);
        pointer = omega (arith, fit, stand.fit, few, stand.store.0);
        ordinals = ordinals-fit form.body (All-head HasGaps form forms stand.gaps);
      },
      others,
    )

-- the images of such forms can be loaded
pub stand-fit : (forms : List Form) (room : ℕ) (rest : Text) → AreCodable forms → CanStand forms room → AreFit (length forms) room (flat_map form_image forms ++ rest)
stand-fit [] room rest codable stand = tt
stand-fit (form ∷ forms) room rest codable stand =
    let more = flat_map form_image forms ++ rest in
    let t = form_image form ++ more in
    let here = form-read form more codable.0 in
    let fit = sum_by-cons form_cells form forms in
    let few : form_cells form ≤ room = omega (arith, fit, stand.fit) in
    let others = stand-fit forms (room - form_cells form) rest codable.1 (record {
      store = stand.store.2;
      gaps = All-tail HasGaps form forms stand.gaps;
      fit = omega (arith, fit, stand.fit);
    }) in
    let long = length-woven (heads_in t).body 0 (gaps_in t) (characters_in t) in
    let pointer : (heads_in t).pointer ≡ form.pointer = ap (λ (f : Form). f.pointer) here.form in
    let body : length (form_in t).body ≡ length form.body = ap (λ (f : Form). length f.body) here.form in
    let first : AreFit (length (form ∷ forms)) room t = (
      record {
        parts = here.has;
        pointer = omega (arith, long, body, pointer, stand.store.0);
        gaps = subst HasGaps (sym here.form) (All-head HasGaps form forms stand.gaps);
      },
      subst (λ (f : Form). form_cells f ≤ room) (sym here.form) few,
      subst (AreFit (length forms) (room - form_cells (form_in t))) (sym here.behind)
          (subst (λ (f : Form). AreFit (length forms) (room - form_cells f) more) (sym here.form) others),
    ) in
    subst (AreFit (length (form ∷ forms)) room) (sym (append_assoc (form_image form) (flat_map form_image forms) rest)) first

pub stand-distinct : (forms : List Form) (room : ℕ) → CanStand forms room → AreDistinct forms
stand-distinct forms room stand = distinct-store forms stand.store
