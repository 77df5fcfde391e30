-- Names of calls in a script that are misspelled.
use Rattle.std.specs.Prelude.{ℕ, ◌+◌, ◌==◌, ◌&&◌, ◌||◌, Bool, false, List, [], ◌∷◌, ◌++◌, drop, take}
use Rattle.std.specs.Prelude.{Option, None, Some, is_some, if◌then◌else◌}
use Rattle.std.specs.Char.{is_ascii_alphabetic, is_ascii_lowercase}
use Rattle.std.specs.List.{list_any, prefix_len}
use Rattle.trac_language.specs.Function.{function_named}
use Rattle.trac_language.specs.Text.{Text}
use Rattle.trac_warnings.specs.Performed.{is_no_function}
use Rattle.trac_warnings.specs.Printed.{behind_parenthesis}
use Rattle.trac_warnings.specs.Script.{at_place}
use Rattle.trac_warnings.specs.Suspicions.{suspicion_of_name}
use Rattle.trac_warnings.specs.Watched.{Said}
use Rattle.trac_warnings.specs.declared.warning.Suspicion.{Suspicion}
use Rattle.trac_warnings.specs.declared.warning.Suspicion.TheVariants.{Misspelled}

-- whether a text begins with a character that ends the name of a call: a comma or a right parenthesis
abbrev pub ends_name : Text → Bool
ends_name [] = false
ends_name (c ∷ text) = (c == 44) || (c == 41)

-- whether two characters are the name of a function
abbrev pub is_function : ℕ → ℕ → Bool
is_function a b = is_some (function_named (a ∷ b ∷ []))

-- whether what is suspicious in a name is that no function has it
abbrev pub says_no_function : Option Suspicion → Bool
says_no_function None = false
says_no_function (Some suspicion) = is_no_function suspicion

-- whether two characters, in this order, are the name of no function, and in the other order that of one
abbrev pub is_turned : ℕ → ℕ → Bool
is_turned a b = says_no_function (suspicion_of_name (a ∷ b ∷ [])) && is_function b a

-- whether two of three letters, in their order, are the name of a function
abbrev pub has_one_more : ℕ → ℕ → ℕ → Bool
has_one_more a b c = is_function b c || (is_function a c || is_function a b)

-- whether a small letter is among these
abbrev pub has_small : Text → Bool
has_small letters = list_any is_ascii_lowercase letters

-- whether no function has a name of these letters, and one was probably meant: the two letters of its name are turned
-- round; one letter is added to it; or there are three letters or more, and not all are capitals. One letter, two
-- others or more capitals may well stand for a gap
abbrev pub is_misspelled : Text → Bool
is_misspelled (a ∷ b ∷ []) = is_turned a b
is_misspelled (a ∷ b ∷ c ∷ []) = has_one_more a b c || has_small (a ∷ b ∷ c ∷ [])
is_misspelled (a ∷ b ∷ c ∷ d ∷ letters) = has_small (a ∷ b ∷ c ∷ d ∷ letters)
is_misspelled letters = false

-- how many letters a name has at the head of a text, if it is misspelled and a comma or a right parenthesis ends it; 0,
-- if there is no such name
abbrev pub misspelled_len : Text → ℕ
misspelled_len text =
    let len = prefix_len is_ascii_alphabetic text in
    if ends_name (drop len text) && is_misspelled (take len text) then len else 0

-- what stands behind a number sign and a left parenthesis at the head of a text; null, if they aren't there
abbrev pub behind_call : Text → Text
behind_call [] = []
behind_call (c ∷ text) = if c == 35 then behind_parenthesis text else []

-- the warning of a call at the head of a text at a place, if its name is misspelled
abbrev pub misspelled_at : ℕ → Text → List Said
misspelled_at place text =
    let name = behind_call text in
    if misspelled_len name == 0 then [] else at_place Misspelled place (take (misspelled_len name) name) ∷ []

-- the warnings of the calls in a text at a place of the input whose names are misspelled
abbrev pub misspelled_from : ℕ → Text → List Said
misspelled_from place [] = []
misspelled_from place (c ∷ text) = misspelled_at place (c ∷ text) ++ misspelled_from (place + 1) text

-- the warnings of the calls in a script whose names are misspelled
abbrev pub misspelled_warnings : Text → List Said
misspelled_warnings script = misspelled_from 0 script
