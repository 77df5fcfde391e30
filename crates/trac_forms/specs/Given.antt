-- Forms that are given from outside the block.
use Rattle.std.specs.Prelude.{ℕ, List, [], ◌∷◌, ◌++◌}
use Rattle.trac_language.specs.declared.item.Item.{Item}
use Rattle.trac_language.specs.Text.{Text}
use Rattle.trac_language.specs.Form.{Form}
use Rattle.trac_language.specs.Store.{without}

-- the form of a name, a body and a pointer
abbrev pub given : Text → List Item → ℕ → Form
given name body pointer = record { name = name; body = body; pointer = pointer }

-- the forms with a new last one; an older one of its name is removed
abbrev pub with_form : Form → List Form → List Form
with_form form forms = without form.name forms ++ form ∷ []
