-- The string of the idling procedure, which is read where the scanner would move the characters that it begins with.
use Rattle.std.specs.Prelude.{◌≡◌, ◌≢◌, ℕ, ◌+◌, ◌≤◌, ◌++◌, ◌∷◌, [], List, All, None, Some, codes, drop, length, take}
use Rattle.trac_language.specs.declared.mode.Mode.TheVariants.{Active}
use Rattle.trac_language.specs.declared.function.Function.TheVariants.{ReadString}
use Rattle.trac_language.specs.declared.fate.Fate.TheVariants.{Steps}
use Rattle.trac_language.specs.Text.{Text}
use Rattle.trac_space.specs.declared.cell.Cell.{Cell}
use Rattle.trac_space.specs.declared.cell.Cell.TheVariants.{Call, Comma}
use Rattle.trac_space.specs.Texts.{flat_text, text_of_cells}
use Rattle.trac_forms.specs.Contents.{Contents, used, IsSound}
use Rattle.trac_devices.specs.Devices.{Stream}
use Rattle.trac_core.specs.declared.outcome.StepOutcome.{StepOutcome}
use Rattle.trac_core.specs.Machine.{output_failures}
use Rattle.trac_core.specs.StepsInRow.{Advances, IsOrdinary}
use Rattle.trac_core.specs.StepOutcomes.{scene, Tried, TakesAtMost, LeavesSource}

-- what the neutral string holds before the string of the idling procedure: the call of `ps`, which prints it
abbrev pub before_string : List Cell
before_string = Call Active 0 ∷ flat_text (codes "ps") ++ Comma ∷ []

-- what the active string holds meanwhile: three blanks, and the parenthesis that ends that call
abbrev pub behind_string : Text
behind_string = codes "   )"

-- the contents in which that string is read
abbrev pub reading_string : Contents → Contents
reading_string w = record w { neutral = before_string; active = flat_text behind_string }

-- `count` ordinary characters behind the first four cells of the neutral string stay there; those behind them
-- move to the active string, in the place of three cells that leave it
pub record LeavesFront (most count : ℕ) (old new : Contents) : Type 0 where
  pub few : count ≤ most
  pub within : 4 + count ≤ length old.neutral
  pub ordinary : All IsOrdinary (take count (text_of_cells (drop 4 old.neutral)))
  pub moved : new ≡ record old {
    neutral = take (4 + count) old.neutral;
    active = drop (4 + count) old.neutral ++ drop 3 old.active;
  }

-- the call of `rs` was performed over the contents `old`, and where the run goes on, as many steps led to `new` as
-- there are characters now behind the call of `ps`, at most `most`, which perform no call
pub record ReadsInPlace {S : Type 0} (tells : S → Type 0) (stream : S → Stream) (failures : S → ℕ)
    (outcome : StepOutcome) (most meta : ℕ) (old : Contents) (source : S) (new : Contents) (after : S) : Type 0 where
  -- what the contents are between the two
  pub middle : Contents
  pub tried : tells source → (written : Text) →
      Tried (scene old meta (stream source) written) outcome.fate outcome.need
      (scene middle meta (stream after) written)
  pub takes : tells source → (taken : Text) × TakesAtMost old (stream source) (stream after) taken
  pub leaves : LeavesSource tells failures outcome.fate (Some ReadString) source after
  pub unspent : outcome.fate ≢ Some Steps
  pub printed : output_failures None outcome.fate ≡ 0
  pub forms : middle.forms ≡ old.forms
  pub room : middle.room ≡ old.room
  pub sound : IsSound middle
  pub ends : outcome.fate ≢ None → new ≡ middle
  pub fits : outcome.fate ≡ None → used middle ≤ outcome.need
  pub scans : outcome.fate ≡ None → (count : ℕ) ×
      ((length new.neutral ≡ 4 + count) × ((count ≤ most) × Advances count middle new))
