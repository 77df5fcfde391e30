-- What is taken of a form by a call.
use Rattle.std.specs.Prelude.{◌≡◌, ℕ, Bool, true, ◌+◌, ◌<◌, ◌≤◌, List, ◌++◌, length, set}
use Rattle.std.specs.Prelude.{Option, Some, None}
use Rattle.trac_language.specs.Text.{Text}
use Rattle.trac_language.specs.Form.{Form}
use Rattle.trac_language.specs.Part.{Part}
use Rattle.trac_space.specs.declared.part.Part.{Part as CellPart}
use Rattle.trac_space.specs.Texts.{flat_text}
use Rattle.trac_forms.specs.Contents.{Contents, used, part_text, form_at}
use Rattle.trac_forms.specs.Loading.{IsLoaded}
use Rattle.trac_forms.specs.Search.{NonePasses}
use Rattle.trac_functions.specs.declared.arguments.CallResult.{CallResult}
use Rattle.trac_functions.specs.declared.arguments.CallResult.TheVariants.{Full, AtEnd, InFront, Unscanned, Null}
use Rattle.trac_functions.specs.declared.arguments.CallResult.TheVariants.{Over}

-- the value of a call that takes a part, or z where there is none
abbrev pub part_value : Option Part → Text → Text
part_value None z = z
part_value (Some part) z = part.text

-- the forms with the pointer of form k moved to `pointer`
abbrev pub moved : List Form → ℕ → ℕ → List Form
moved forms k pointer = set forms k (record (form_at forms k) { pointer = pointer })

-- `text` stands at the end of the neutral string, and the forms are `forms`
pub record Puts (old new : Contents) (forms : List Form) (text : Text) : Type 0 where
  pub fits : used old + length text ≤ old.room
  pub stands : new ≡ record old { forms = forms; neutral = old.neutral ++ flat_text text }

-- the value is the part taken of form k, whose pointer is moved; if there is no such part, the value is z; or
-- the value doesn't fit
abbrev pub TakesPart : Option Part → Text → ℕ → Contents → CallResult → Contents → Type 0
TakesPart part z k old Full new = old.room < used old + length (part_value part z)
TakesPart None z k old (InFront size) new = IsLoaded old new z size
TakesPart (Some part) z k old AtEnd new = Puts old new (moved old.forms k part.pointer) part.text
TakesPart None z k old AtEnd new = ⊥
TakesPart (Some part) z k old (InFront size) new = ⊥
TakesPart part z k old (Unscanned size) new = ⊥
TakesPart part z k old (Null cells) new = ⊥
TakesPart part z k old (Over fate) new = ⊥

-- the value is the part that a call takes of form k, whose pointer is moved; if there is no such part, the
-- value is the text of z, a part of the neutral string; or the value doesn't fit
abbrev pub TakesOrDefault : (Form → Option Part) → ℕ → CellPart → Contents → CallResult → Contents → Type 0
TakesOrDefault part k z old call_result new =
    TakesPart (part (form_at old.forms k)) (part_text old.neutral z.from z.to) k old call_result new

-- `place` is the first from `from` up to `to` that passes the test, or `to` if none does
pub record IsFirstOr (test : ℕ → Bool) (from to place : ℕ) : Type 0 where
  pub above : from ≤ place
  pub below : place ≤ to
  pub before : NonePasses test from place
  pub passes : place < to → test place ≡ true
