-- What a call of a form goes through.
use Rattle.std.specs.Prelude.{ℕ, List, drop}
use Rattle.trac_language.specs.declared.item.Item.{Item}
use Rattle.trac_language.specs.Form.{Form}
use Rattle.trac_store.specs.Forms.{body_at, pointer_at}

-- what a call of the form at a place goes through: its body from its pointer on
abbrev pub called_part : List Form → ℕ → List Item
called_part forms k = drop (pointer_at forms k) (body_at forms k)
