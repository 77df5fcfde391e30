use Rattle.trac_c.proofs.Imports.{Bool, List, [], ◌∷◌, ◌≡◌, ◌∙◌, Some, ap, refl, sym, MachineState, Text, if◌then◌else◌}
use Rattle.std.proofs.lemmas.Bool.{false≢true}
use Rattle.std.proofs.Common.{false, true, inr}
use Rattle.std.specs.Prelude.{is_some}
use Rattle.trac_language.specs.Form.{Form}
use Rattle.trac_language.specs.Store.{form_named, is_named, without}
use Rattle.trac_core.specs.Changing.{with_forms}
use Rattle.trac_c.proofs.changing.delete.Goals as goal

-- where no form has the name, the forms without the form of that name are all forms
absent : (name : Text) (forms : List Form) → is_some (form_named name forms) ≡ false → without name forms ≡ forms
absent name [] none = refl
absent name (form ∷ forms) none = go (is_named name form) none (λ later. absent name forms later)
  where
    go : (named : Bool) → is_some (if named then Some form else form_named name forms) ≡ false → (is_some (form_named name forms) ≡ false → without name forms ≡ forms) → (if named then forms else form ∷ without name forms) ≡ form ∷ forms
    go true found rest = absurd (false≢true (sym found))
    go false later rest = ap (λ fs. form ∷ fs) (rest later)

pub returns-else-delete : goal.returns-else-delete
returns-else-delete c =
    let m : MachineState = c.args.machine.now in
    let none : is_some (form_named c.args.name.now m.memory.forms) ≡ false = sym c.delete.ensures.was ∙ c.if-delete.false in
    inr (λ some. false≢true (sym none ∙ some), refl, c.delete.ensures.gone ∙ ap (λ fs. with_forms fs m) (absent c.args.name.now m.memory.forms none))
