-- Forms that are removed by their names.
use Rattle.std.specs.Prelude.{◌≡◌, ℕ, ◌==◌, ◌<◌, Bool, false, List, [], ◌∷◌, map, filter, not}
use Rattle.std.specs.Prelude.{bytes_eq, if◌then◌else◌}
use Rattle.std.specs.List.{list_any}
use Rattle.trac_language.specs.Text.{Text}
use Rattle.trac_language.specs.Form.{Form}
use Rattle.trac_language.specs.Store.{NoneNamed}
use Rattle.trac_space.specs.Lists.{Lists}
use Rattle.trac_store.specs.declared.located.Located.{Located}
use Rattle.trac_store.specs.Forms.{form_at}
use Rattle.trac_store.specs.Stored.{forms_in, IsPlace}
use Rattle.trac_forms.specs.Stored.{HasFormsFrom}

-- whether the form has one of the `names`
abbrev pub is_among : List Text → Form → Bool
is_among names form = list_any (bytes_eq form.name) names

-- the forms but those that have one of the `names`
abbrev pub without_all : List Text → List Form → List Form
without_all names forms = filter (λ form. not (is_among names form)) forms

-- the pointer of a marked form, greater than the length of any body
abbrev pub mark : ℕ
mark = 4294967295

-- whether the form is marked
abbrev pub is_marked : Form → Bool
is_marked form = form.pointer == mark

-- the form with its mark: a pointer that no body has
abbrev pub marked : Form → Form
marked form = record form { pointer = mark }

abbrev pub marked_if : Bool → Form → Form
marked_if listed form = if listed then marked form else form

-- the forms, of which those that have one of the `names` are marked
abbrev pub with_marks : List Text → List Form → List Form
with_marks names forms = map (λ form. marked_if (is_among names form) form) forms

-- the forms that aren't marked
abbrev pub unmarked : List Form → List Form
unmarked forms = filter (λ form. not (is_marked form)) forms

-- no two forms have one name
abbrev pub HaveOwnNames : List Form → Type 0
HaveOwnNames [] = Unit {0}
HaveOwnNames (form ∷ forms) = NoneNamed form.name forms × HaveOwnNames forms

-- a space has `count` forms, marked or not, of which no two have one name; the form at place `last`
-- begins at `start`
pub record IsFormed (s : Lists) (count last start : ℕ) : Type 0 where
  pub kept : HasFormsFrom s count last start
  pub distinct : HaveOwnNames (forms_in s.store)

-- no form before form k is marked, and form k begins at `start`
pub record IsMarkedFrom (forms : List Form) (k start : ℕ) : Type 0 where
  pub place : IsPlace forms k start
  pub none_before : (j : ℕ) → j < k → is_marked (form_at forms j) ≡ false

-- forms are being marked: `last` is the form used last, and no form before `from` is marked
pub record AreMarking (space : Lists) (count : ℕ) (last from : Located) : Type 0 where
  pub formed : IsFormed space count last.number last.start
  pub first : IsMarkedFrom (forms_in space.store) from.number from.start
