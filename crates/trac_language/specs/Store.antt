-- Lists of forms, in the order in which they were defined.
use Rattle.std.specs.Prelude.{◌≢◌, ℕ, ◌+◌, ◌≤◌, Bool, List, [], ◌∷◌, ◌++◌, length, Option}
use Rattle.std.specs.Prelude.{if◌then◌else◌, bytes_eq, find, sum_by}
use Rattle.trac_language.specs.Text.{Text}
use Rattle.trac_language.specs.Form.{Form, items_of}

-- whether the form has this name
abbrev pub is_named : Text → Form → Bool
is_named name form = bytes_eq form.name name

-- the form of this name
abbrev pub form_named : Text → List Form → Option Form
form_named name forms = find (is_named name) forms

-- the forms without the form of this name
abbrev pub without : Text → List Form → List Form
without name [] = []
without name (form ∷ forms) = if is_named name form then forms else form ∷ without name forms

-- the forms, of which the form of this name is changed
abbrev pub changed : Text → (Form → Form) → List Form → List Form
changed name change [] = []
changed name change (form ∷ forms) =
    if is_named name form then change form ∷ forms else form ∷ changed name change forms

-- the forms with a new last one, whose body is the characters of the text; an older one of that name is
-- removed
abbrev pub defined : Text → Text → List Form → List Form
defined name text forms =
    without name forms ++ record { name = name; body = items_of text; pointer = 0 } ∷ []

-- the cells that a form takes: three head cells, its name and its body
abbrev pub form_cells : Form → ℕ
form_cells form = 3 + length form.name + length form.body

-- the cells that all forms take
abbrev pub cells : List Form → ℕ
cells forms = sum_by form_cells forms

-- no form has this name
abbrev pub NoneNamed : Text → List Form → Type 0
NoneNamed name [] = Unit {0}
NoneNamed name (form ∷ forms) = (form.name ≢ name) × NoneNamed name forms

-- no two forms have one name, and each pointer is a place of its body
abbrev pub IsStore : List Form → Type 0
IsStore [] = Unit {0}
IsStore (form ∷ forms) =
    (form.pointer ≤ length form.body) × NoneNamed form.name forms × IsStore forms
