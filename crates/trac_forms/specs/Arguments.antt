-- A form of a `Work`, filled by the arguments of a call.
use Rattle.std.specs.Prelude.{ℕ, drop}
use Rattle.trac_language.specs.Text.{Text}
use Rattle.trac_language.specs.Form.{fill}
use Rattle.trac_forms.specs.Contents.{Contents, body_at, pointer_at}
-- the arguments that stand between comma marks, as the store's crate defines them
pub use Rattle.trac_store.specs.Arguments.{before_comma, parts_between, texts_between}
pub use Rattle.trac_store.specs.Arguments.{AreParted, IsHeadAt, filled_cells}

-- the text of a form's body from its pointer on, its gaps filled by the texts between comma marks
-- of neutral
abbrev pub filled_body : Contents → ℕ → ℕ → ℕ → Text
filled_body w form from end =
    fill (texts_between w.neutral from end) (drop (pointer_at w.forms form) (body_at w.forms form))
