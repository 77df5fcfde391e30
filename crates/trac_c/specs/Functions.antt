-- What C is told of the functions of the language.
use Rattle.std.specs.Prelude.{◌≡◌, ℕ, ◌-◌, ◌^◌, ◌<◌, ◌==◌, Bool, true, false, [], Option, Some, None}
use Rattle.std.specs.Prelude.{if◌then◌else◌}
use Rattle.std.specs.Option.{unwrap_or}
use Rattle.trac_language.specs.Text.{Text}
use Rattle.trac_language.specs.declared.function.Function.{Function}
use Rattle.trac_language.specs.declared.table.Traits.{Traits}
use Rattle.trac_language.specs.declared.table.Concerned.{Concerned}
use Rattle.trac_language.specs.declared.table.Concerned.TheVariants as concerned
use Rattle.trac_language.specs.declared.table.Given.{Given}
use Rattle.trac_language.specs.declared.table.Given.TheVariants as given
use Rattle.trac_language.specs.Table.{name_of, traits}

-- 1 of what is true, and 0 of what isn't
abbrev pub flag : Bool → ℕ
flag true = 1
flag false = 0

-- the number of what forms a call concerns
abbrev pub concerned_number : Concerned → ℕ
concerned_number concerned.Nothing = 0
concerned_number concerned.First = 1
concerned_number concerned.Each = 2
concerned_number concerned.All = 3

-- the number of what of a form a call gives
abbrev pub given_number : Given → ℕ
given_number given.Nothing = 0
given_number given.Body = 1
given_number given.Part = 2

-- a fact, by its number
abbrev pub fact_of : ℕ → Traits → ℕ
fact_of which facts =
    if which == 0 then unwrap_or facts.uses (2 ^ 32 - 1)
    else if which == 1 then concerned_number facts.forms
    else if which == 2 then flag facts.needs_form
    else if which == 3 then flag facts.changes_forms
    else if which == 4 then given_number facts.gives
    else if which == 5 then unwrap_or facts.default 0
    else if which == 6 then flag facts.chooses
    else if which == 7 then flag facts.reads
    else if which == 8 then flag facts.prints
    else if which == 9 then flag facts.changes_meta
    else if which == 10 then flag facts.ends
    else 0

-- the fact of an entry of the list of functions; 0 where there is none
abbrev pub fact_of_entry : ℕ → Option (Text × Function) → ℕ
fact_of_entry which None = 0
fact_of_entry which (Some entry) = fact_of which (traits entry.1)

-- a text about a function of this name: text 0 is the name, and there is none past number 4; the words for people are
-- no part of the definition
pub record IsText (which : ℕ) (name text : Text) : Type 0 where
  pub first : which ≡ 0 → text ≡ name
  pub none : 4 < which → text ≡ []

-- a text about the function of an entry of the list of functions; null where there is none
abbrev pub IsTextOf : ℕ → Option (Text × Function) → Text → Type 0
IsTextOf which None text = text ≡ []
IsTextOf which (Some entry) text = IsText which (name_of entry.1) text
