-- Forms that are defined one after the other.
use Rattle.std.proofs.Common.{List, [], ap, append_assoc, arith, refl, subst, sym, ◌++◌, ◌+◌, ◌-◌, ◌∙◌, ◌∷◌, ◌≡◌, ◌≢◌, Bool, ⊎_elim}
use Rattle.std.proofs.lemmas.Bool.{cases_Bool}
use Rattle.std.proofs.lemmas.Slice.Eq.{bytes_eq-Decides}
use Rattle.std.specs.Prelude.{if◌then◌else◌}
use Rattle.std.proofs.lemmas.List.Sums.{sum_by-cons}
use Rattle.trac_language.specs.Text.{Text}
use Rattle.trac_language.specs.Form.{Form}
use Rattle.trac_language.specs.Store.{NoneNamed, cells, form_cells, is_named, without}
use Rattle.trac_language.specs.State.{size}
use Rattle.trac_core.specs.Machine.{MachineState}
use Rattle.trac_core.specs.Changing.{with_form, with_forms}
use Rattle.trac_image.specs.Fitting.{AreDistinct}

none-there : (name : Text) (a b : List Form) (f : Form) → NoneNamed name (a ++ f ∷ b) → f.name ≢ name
none-there name [] b f none = none.0
none-there name (x ∷ a) b f none = none-there name a b f none.1

-- no form before another has its name
pub distinct-before : (a b : List Form) (f : Form) → AreDistinct (a ++ f ∷ b) → NoneNamed f.name a
distinct-before [] b f distinct = tt
distinct-before (x ∷ a) b f distinct =
    (λ same. none-there x.name a b f distinct.0 (sym same), distinct-before a b f distinct.1)

-- where no form has a name, none is removed
pub without-none : (name : Text) (forms : List Form) → NoneNamed name forms → without name forms ≡ forms
without-none name [] none = refl
without-none name (form ∷ forms) none =
    ⊎_elim
    (λ is. absurd (none.0 ((bytes_eq-Decides form.name name).0 is)))
    (λ isnt.
    ap (λ (b : Bool). if b then forms else form ∷ without name forms) isnt
    ∙ ap (λ forms. form ∷ forms) (without-none name forms none.1))
    (cases_Bool (is_named name form))

pub cells-push : (forms : List Form) (form : Form) → cells (forms ++ form ∷ []) ≡ cells forms + form_cells form
cells-push [] form = omega (arith, sum_by-cons form_cells form [])
cells-push (x ∷ forms) form =
    omega (arith, cells-push forms form, sum_by-cons form_cells x forms, sum_by-cons form_cells x (forms ++ form ∷ []))

-- one form more is defined
pub record Defined (m old n : MachineState) (f : Form) (b : List Form) : Type 0 where
  pub forms : n.memory.forms ++ b ≡ m.memory.forms ++ f ∷ b
  pub same : n ≡ with_forms n.memory.forms old
  pub room : n.room - size n.memory ≡ m.room - size m.memory - form_cells f

pub defined-next : (m old n : MachineState) (f : Form) (b : List Form) → m ≡ with_forms m.memory.forms old → AreDistinct (m.memory.forms ++ f ∷ b) → n ≡ with_forms (with_form f m.memory.forms) m → Defined m old n f b
defined-next m old n f b same distinct is =
    let had = m.memory.forms in
    let none = distinct-before had b f distinct in
    let last : with_form f had ≡ had ++ f ∷ [] = ap (λ fs. fs ++ f ∷ []) (without-none f.name had none) in
    let pushed : n ≡ with_forms (had ++ f ∷ []) m = is ∙ ap (λ fs. with_forms fs m) last in
    let made : Defined m old (with_forms (had ++ f ∷ []) m) f b = record {
      forms = append_assoc had (f ∷ []) b;
      same = ap (with_forms (had ++ f ∷ [])) same;
      room = omega (arith, cells-push had f);
    } in
    subst (λ n. Defined m old n f b) (sym pushed) made
