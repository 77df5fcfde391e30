-- The arguments of a call, and what a function makes of it.
use Rattle.std.specs.Prelude.{◌≡◌, ℕ, ◌+◌, ◌<◌, ◌≤◌, Bool, true, false, ◌||◌, List, [], ◌∷◌}
use Rattle.std.specs.Prelude.{◌++◌, length, Some, slice_range, nat_le, if◌then◌else◌}
use Rattle.trac_language.specs.declared.function.Function.{Function}
use Rattle.trac_language.specs.declared.function.Function.TheVariants.{ReadString, ReadCharacter}
use Rattle.trac_language.specs.declared.function.Function.TheVariants.{ChangeMeta, Halt}
use Rattle.trac_language.specs.declared.function.Function.TheVariants.{PrintString, PrintForm}
use Rattle.trac_language.specs.Text.{Text}
use Rattle.trac_language.specs.Form.{Form}
use Rattle.trac_language.specs.State.{Input}
use Rattle.trac_language.specs.Meaning.{World, Gives, meaning_of, built}
use Rattle.trac_space.specs.declared.cell.Cell.{Cell}
use Rattle.trac_space.specs.Cells.{NoCall}
use Rattle.trac_space.specs.Texts.{flat_text}
use Rattle.trac_forms.specs.Contents.{Contents, used, IsSound}
use Rattle.trac_functions.specs.declared.arguments.Arguments.{Arguments}
use Rattle.trac_functions.specs.declared.arguments.CallResult.{CallResult}
use Rattle.trac_functions.specs.declared.arguments.CallResult.TheVariants.{Full, AtEnd, InFront, Unscanned, Null}
use Rattle.trac_functions.specs.declared.arguments.CallResult.TheVariants.{Over}
use Rattle.trac_functions.specs.Flat.{texts_of}

-- a function that neither reads nor prints, nor changes the meta character, nor ends the run
abbrev pub is_self_contained : Function → Bool
is_self_contained ReadString = false
is_self_contained ReadCharacter = false
is_self_contained ChangeMeta = false
is_self_contained PrintString = false
is_self_contained PrintForm = false
is_self_contained Halt = false
is_self_contained _ = true

-- the arguments that are left to take: those that stand from `from` up to `end`, none if `from` is
-- past `end`
abbrev pub texts_from : List Cell → ℕ → ℕ → List Text
texts_from neutral from end =
    if nat_le from end then texts_of (slice_range neutral from end) else []

-- the arguments that are left are within the neutral string, and no call mark stands among them
pub record AreArguments (w : Contents) (arguments : Arguments) : Type 0 where
  pub sound : IsSound w
  pub order : arguments.from ≤ arguments.end + 1
  pub within : arguments.end ≤ length w.neutral
  pub no_call : NoCall (slice_range w.neutral arguments.from arguments.end)

-- the room is as it was, and what is in it is sound
pub record KeepsRoom (old new : Contents) : Type 0 where
  pub room : new.room ≡ old.room
  pub sound : IsSound new

-- the texts of the arguments that are left
abbrev pub texts : Contents → Arguments → List Text
texts w arguments = texts_from w.neutral arguments.from arguments.end

-- what calls read and change: the forms, the meta character and the input
abbrev pub world : List Form → ℕ → Input → World
world forms meta input = record { forms = forms; meta = meta; input = input }

-- a call of the function has the value `value`, changes the forms `old` to `new`, and does nothing else
abbrev pub Means : Function → List Text → List Form → Text → Bool → List Form → Type 0
Means function args old value forced new =
    (meta : ℕ) (input : Input) →
    meaning_of function args (world old meta input) ≡ Gives (record {
      value = value;
      forced = forced;
      world = world new meta input;
      printed = [];
    })

-- a call of the function has the value `value`, changes the forms `old` to `new`, and builds the value alone
pub record Valued (function : Function) (args : List Text) (old : List Form) (value : Text)
    (forced : Bool) (new : List Form) : Type 0 where
  pub means : Means function args old value forced new
  pub builds : (meta : ℕ) (input : Input) →
      built (Some function) args (world old meta input) ≡ length value

-- the value of a call stands at the end of the neutral string, and the forms are changed
pub record IsValue (function : Function) (args : List Text) (old new : Contents) (forced : Bool)
    (value : Text) : Type 0 where
  pub valued : Valued function args old.forms value forced new.forms
  pub fits : used old + length value ≤ old.room
  pub stands : new ≡ record old { forms = new.forms; neutral = old.neutral ++ flat_text value }

-- the value of a call, of `size` characters, stands before the active string, since it is forced there
-- or the call's value is scanned; and the forms are changed
pub record IsPlaced (function : Function) (args : List Text) (scanned : Bool) (old new : Contents)
    (forced : Bool) (value : Text) (size : ℕ) : Type 0 where
  pub valued : Valued function args old.forms value forced new.forms
  pub goes : (forced || scanned) ≡ true
  pub long : length value ≡ size
  pub fits : used old + size ≤ old.room
  pub stands : new ≡ record old { forms = new.forms; active = flat_text value ++ old.active }

-- the value of a neutral call, of `size` characters, stands before the active string until the call
-- leaves, and the forms are changed
pub record IsHeld (function : Function) (args : List Text) (scanned : Bool) (old new : Contents)
    (value : Text) (size : ℕ) : Type 0 where
  pub valued : Valued function args old.forms value false new.forms
  pub stays : scanned ≡ false
  pub long : length value ≡ size
  pub fits : used old + size ≤ old.room
  pub stands : new ≡ record old { forms = new.forms; active = flat_text value ++ old.active }

-- a call with a null value built `cells` cells of forms
pub record IsDefined (function : Function) (args : List Text) (old new : Contents)
    (cells : ℕ) : Type 0 where
  pub means : Means function args old.forms [] false new.forms
  pub builds : (meta : ℕ) (input : Input) →
      built (Some function) args (world old.forms meta input) ≡ cells
  pub fits : used old + cells ≤ old.room
  pub stands : new ≡ record old { forms = new.forms }

-- what a function without devices makes of a call, whose value is scanned or not unless it is
-- forced: its value, or more than there is room for
abbrev pub Makes : Function → List Text → Bool → Contents → CallResult → Contents → Type 0
Makes function args scanned old Full new =
    (meta : ℕ) (input : Input) →
    old.room < used old + built (Some function) args (world old.forms meta input)
Makes function args scanned old AtEnd new =
    (value : Text) × IsValue function args old new false value
Makes function args scanned old (InFront size) new =
    (value : Text) × ((forced : Bool) × IsPlaced function args scanned old new forced value size)
Makes function args scanned old (Unscanned size) new =
    (value : Text) × IsHeld function args scanned old new value size
Makes function args scanned old (Null cells) new = IsDefined function args old new cells
Makes function args scanned old (Over fate) new = ⊥

-- what a function without devices makes of a call whose arguments behind its name are those that
-- are left: its value, or more than there is room for
abbrev pub Performs : Function → Contents → Arguments → CallResult → Contents → Type 0
Performs function old arguments call_result new =
    (name : Text) → Makes function (name ∷ texts old arguments) arguments.scanned old call_result new

-- `call_result` is right for each call that has the value `value`, sends it to the active string or not, as
-- `goes` says, and changes no form
abbrev pub MakesValue : Text → Bool → Contents → CallResult → Contents → Type 0
MakesValue value goes old call_result new =
    (function : Function) (args : List Text) (forced scanned : Bool) →
    (forced || scanned) ≡ goes →
    Valued function args old.forms value forced old.forms →
    Makes function args scanned old call_result new
