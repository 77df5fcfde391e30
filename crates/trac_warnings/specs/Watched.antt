-- What a run that is watched keeps.
use Rattle.std.specs.Prelude.{◌≡◌, ◌++◌, ◌∷◌, ℕ, true, List, [], length, map, min, reverse}
use Rattle.std.specs.Prelude.{Some, slice_get}
use Rattle.trac_space.specs.declared.cell.Cell.{Cell}
use Rattle.trac_core.specs.Machine.{MachineState}
use Rattle.trac_core.specs.declared.machine.session.Awaits.{Awaits}
use Rattle.trac_core.specs.declared.machine.session.Awaits.TheVariants as awaits
use Rattle.trac_events.specs.Calls.{SeesValue, reads}
use Rattle.trac_events.specs.declared.before.Before.{Before}
use Rattle.trac_warnings.specs.Origins.{in_input, moved, more}
use Rattle.trac_warnings.specs.declared.origin.Origin.{Origin}
use Rattle.trac_language.specs.Text.{Text}
use Rattle.trac_warnings.specs.declared.warning.Suspicion.{Suspicion}
use Rattle.trac_warnings.specs.declared.warning.Warning.{Warning}
use Rattle.trac_warnings.specs.declared.watch.Watch.{Watch}

-- a watch has seen nothing yet
abbrev pub IsFresh : {A : Type 0} → Watch A → Type 0
IsFresh watch = (watch.warnings.items ≡ []) × (watch.read ≡ 0) × (watch.runs.items ≡ [])
    × (watch.strings.items ≡ []) × (watch.calls.items ≡ []) × (watch.commas.items ≡ [])
    × (watch.written.entries ≡ [])

-- what a warning says
pub record Said : Type 0 where
  pub origin : Origin
  pub suspicion : Suspicion
  pub count : ℕ
  pub text : Text

abbrev pub said : {A : Type 0} → Warning A → Said
said w = record { origin = w.origin; suspicion = w.suspicion; count = w.count; text = w.text.items }

-- `new` are the warnings `old` and one more, which says `more`
abbrev pub Adds : {A : Type 0} → List (Warning A) → List (Warning A) → Said → Type 0
Adds old new more = map said new ≡ map said old ++ more ∷ []

-- the earlier warnings stay, in front of others
unfoldable pub Kept : {A : Type 0} → List (Warning A) → List (Warning A) → Type 0
Kept {A} old new = (more : List (Warning A)) × (new ≡ old ++ more)

-- a step that was not done leaves no warning, and all places as they were
abbrev pub Stays : {A : Type 0} → Watch A → Watch A → Type 0
Stays old new = (new.warnings.items ≡ []) × (new.runs.items ≡ old.runs.items) × (new.read ≡ old.read)
    × (new.calls.items ≡ old.calls.items) × (new.written ≡ old.written)

-- what was seen of the run before stays: what it read, what it scans, and which forms it defined
abbrev pub KeepsPlaces : {A : Type 0} → Watch A → Watch A → Type 0
KeepsPlaces old new = new ≡ record old {
  warnings = new.warnings;
  arguments = new.arguments;
  given = new.given;
  choice = new.choice;
  value = new.value;
  neutral = new.neutral;
}

-- another form may be known, and all else stays
abbrev pub KeepsNames : {A : Type 0} → Watch A → Watch A → Type 0
KeepsNames old new = new ≡ record old { names = new.names; written = new.written }

-- another warning may be there, and all else stays
abbrev pub KeepsRun : {A : Type 0} → Watch A → Watch A → Type 0
KeepsRun old new = new ≡ record old { warnings = new.warnings }

-- a step moves the origins of the active string; what it reads was written where the input was read
abbrev pub Moves : {A : Type 0} → Before → MachineState → Watch A → Watch A → Type 0
Moves before m old new = (value : Origin)
    × ((reads before.awaits ≡ true → value ≡ in_input old.read)
    × (reverse new.runs.items ≡ moved before.rule before.active (length m.memory.active) value
    (reverse old.runs.items)))

-- where a text of `len` characters that was read at place `read` of the input ends
abbrev pub end_of_text : List ℕ → ℕ → ℕ → ℕ
end_of_text input read len = min (more (min read (length input)) len) (length input)

-- `new` is the place behind a string that ends at `end`, and behind the meta character if that stands there
abbrev pub EndsText : List ℕ → (end meta new : ℕ) → Type 0
EndsText input end meta new =
    (slice_get input end ≡ Some meta → new ≡ more end 1)
    × ((slice_get input end ≡ Some meta → ⊥) → new ≡ end)

-- where the input is read after a step, by what the step reads, if its value has `len` characters
abbrev pub ReadsLen : Awaits → Before → List ℕ → (len old new : ℕ) → Type 0
ReadsLen awaits.Nothing before input len old new = new ≡ old
ReadsLen awaits.Text before input len old new =
    EndsText input (end_of_text input old len) before.meta new
ReadsLen awaits.Byte before input len old new = new ≡ min (more old len) (length input)

-- `new` is where the input is read after a step before which it was read at `old`
abbrev pub Reads : Before → MachineState → List ℕ → ℕ → ℕ → Type 0
Reads before m input old new = (value : List Cell)
    × (SeesValue m before.call before.active value
    × ReadsLen before.awaits before input (length value) old new)
