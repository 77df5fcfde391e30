-- The warnings of a whole run.
use Rattle.std.specs.Prelude.{ℕ, ◌&&◌, ◌||◌, Bool, true, false, List, map, Option, None, Some}
use Rattle.std.specs.BTreeSet.{BTreeSet, contains_by, insert_key}
use Rattle.std.specs.Cmp.Lexicographic.{slice_cmp}
use Rattle.std.specs.declared.vec.Vec.{Vec}
use Rattle.std.specs.Ordering.{nat_cmp}
use Rattle.trac_warnings.specs.Origins.{more}
use Rattle.trac_warnings.specs.declared.warning.Suspicion.{Suspicion}
use Rattle.trac_warnings.specs.declared.warning.Suspicion.TheVariants.{NoForm, BlankInName, NotInForm, NoGap}
use Rattle.trac_warnings.specs.declared.warning.Suspicion.TheVariants.{InOtherLetters, FewArguments, Misspelled}
use Rattle.trac_warnings.specs.declared.warning.Suspicion.TheVariants.{FormAsFunction, NoFunction}
use Rattle.trac_warnings.specs.declared.warning.Warning.{Warning}

-- how often a warning was given, once more counted
abbrev pub once_more : Option ℕ → ℕ
once_more None = 1
once_more (Some times) = more times 1

-- whether a suspicion is one of those of which each form gets one warning, since one mistake makes many: that no form
-- has the name, that a text of `ss` isn't in the form, that it has no gap for an argument, or that it got fewer
-- arguments than it has gaps; and that a name is misspelled
abbrev pub is_of_form : Suspicion → Bool
is_of_form NoForm = true
is_of_form BlankInName = true
is_of_form NotInForm = true
is_of_form InOtherLetters = true
is_of_form NoGap = true
is_of_form FewArguments = true
is_of_form Misspelled = true
is_of_form _ = false

-- whether a suspicion is that no function has the name of a call, though a form may have it
abbrev pub is_unknown : Suspicion → Bool
is_unknown NoFunction = true
is_unknown FormAsFunction = true
is_unknown _ = false

-- whether the name of a suspicion is kept, so that no other is told of it
abbrev pub is_noted : Suspicion → Bool
is_noted suspicion = is_of_form suspicion || is_unknown suspicion

-- whether `text` is among the `texts`
abbrev pub is_among : {A : Type 0} → List ℕ → BTreeSet (Vec ℕ A) → Bool
is_among text texts = contains_by (λ other. slice_cmp nat_cmp text other.items) texts

-- whether a warning is one of those of which each form gets one, and its form is among those that got one
abbrev pub is_repeated : {A : Type 0} → Warning A → BTreeSet (Vec ℕ A) → Bool
is_repeated warning reported = is_of_form warning.suspicion && is_among warning.text.items reported

-- the texts of a set, in order
abbrev pub texts_of : {A : Type 0} → BTreeSet (Vec ℕ A) → List (List ℕ)
texts_of texts = map (λ text. text.items) texts.keys

-- the texts in order, with `text` put at its place unless it is there already
abbrev pub with_text : List ℕ → List (List ℕ) → List (List ℕ)
with_text text texts = insert_key (slice_cmp nat_cmp) texts text
