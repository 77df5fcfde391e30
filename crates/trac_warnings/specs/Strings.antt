-- What stands at the head of the input and of a string.
use Rattle.std.specs.Prelude.{ℕ, suc, ◌==◌, Bool, List, [], ◌∷◌, if◌then◌else◌}
use Rattle.std.specs.List.{starts_with}
use Rattle.trac_language.specs.Text.{Text}
use Rattle.trac_language.specs.Rule.{is_layout}

-- whether bytes begin with a byte order mark in UTF-8
abbrev pub begins_with_mark : List ℕ → Bool
begins_with_mark bytes = starts_with (λ a b. a == b) bytes (239 ∷ 187 ∷ 191 ∷ [])

-- how many characters of layout stand at the head of a text
abbrev pub layout_len : Text → ℕ
layout_len [] = 0
layout_len (c ∷ text) = if is_layout c then suc (layout_len text) else 0
