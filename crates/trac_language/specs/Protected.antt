-- The text that parentheses protect.
use Rattle.std.specs.Prelude.{ℕ, true, false, ◌&&◌, [], ◌∷◌, ◌++◌, Option, Some, None, ◌==◌}
use Rattle.std.specs.Prelude.{count_by}
use Rattle.trac_language.specs.Text.{Text}

-- how many characters c a text has
abbrev pub count : ℕ → Text → ℕ
count c text = count_by (λ x. x == c) text

-- what stands before and after the first right parenthesis
-- that has as many left as right parentheses before it
unfoldable pub split_at_match : Text → Text → Option (Text × Text)
split_at_match before [] = None
split_at_match before (c ∷ text) =
    elim ((c == 41) && (count 40 before == count 41 before)) [
      | true ↦ Some (before, text)
      | false ↦ split_at_match (before ++ c ∷ []) text
    ]

-- the protected text and the rest, of a text whose left parenthesis is left out here
abbrev pub protected : Text → Option (Text × Text)
protected text = split_at_match [] text
