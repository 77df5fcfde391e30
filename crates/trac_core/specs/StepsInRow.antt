-- Steps that perform no call in a row, which are done at once.
use Rattle.std.specs.Prelude.{◌≡◌, ℕ, zero, suc, max, Bool, true, false, ◌||◌, ◌==◌, ◌+◌, ◌<◌, ◌≤◌}
use Rattle.std.specs.Prelude.{if◌then◌else◌, length, [], ◌∷◌, ◌++◌, Some, None, Result}
use Rattle.std.specs.Prelude.{Ok, Err, slice_get, codes}
use Rattle.trac_language.specs.declared.mode.Mode.TheVariants.{Active}
use Rattle.trac_language.specs.Text.{Text}
use Rattle.trac_language.specs.State.{Input, Memory, size}
use Rattle.trac_language.specs.Rule.{is_layout}
use Rattle.trac_language.specs.Step.{Next, idling, step, need}
use Rattle.trac_laws.specs.LastRead.{reads_to_end}
use Rattle.trac_space.specs.declared.cell.Cell.{Cell}
use Rattle.trac_space.specs.declared.cell.Cell.TheVariants.{Call, Comma}
use Rattle.trac_space.specs.Calls.{IsLastCall}
use Rattle.trac_space.specs.Texts.{text_of_cells, character_of, flat_text}
use Rattle.trac_forms.specs.Contents.{Contents}
use Rattle.trac_functions.specs.Flat.{memory_of}
use Rattle.trac_core.specs.declared.scan.NextAction.{NextAction}
use Rattle.trac_core.specs.declared.scan.NextAction.TheVariants.{Idling, EndOfCall}
use Rattle.trac_core.specs.declared.machine.Counters.{Counters}
use Rattle.trac_core.specs.OpenCalls.{performed_call}
use Rattle.trac_core.specs.Machine.{MachineState, state_with}

-- a character that has a rule of its own
abbrev pub is_special : ℕ → Bool
is_special c = is_layout c || (c == 35) || (c == 40) || (c == 41) || (c == 44)

-- a character that has no rule of its own
abbrev pub IsOrdinary : ℕ → Type 0
IsOrdinary c = is_special c ≡ false

-- 1 for a comma, 2 for another character that has a rule of its own, 0 for the rest
abbrev pub kind_of : ℕ → ℕ
kind_of c = if c == 44 then 1 else (if is_special c then 2 else 0)

-- 1 for a cell with a comma, 2 for one with another character that has a rule of its own, 0 for the rest
abbrev pub kind_in : Cell → ℕ
kind_in cell = kind_of (character_of cell)

-- a character that is deleted
abbrev pub IsLayout : ℕ → Type 0
IsLayout c = is_layout c ≡ true

-- a step that performs no call leads from one memory to another that isn't larger, and needs the
-- cells of the first
pub record Passes (old new : Memory) : Type 0 where
  pub goes : (input : Input) (output : Text) →
      step (state_with old input output) ≡ Next (state_with new input output)
  pub needs : (input : Input) (output : Text) → need (state_with old input output) ≡ size old
  pub reads : (input : Input) (output : Text) → reads_to_end (state_with old input output) ≡ false
  pub no_larger : size new ≤ size old
  pub no_call : performed_call old ≡ None

-- n steps that perform no call lead from memory `old` to `new`, none of them to a larger one
abbrev pub PassesTimes : ℕ → Memory → Memory → Type 0
PassesTimes zero old new = old ≡ new
PassesTimes (suc n) old new = (middle : Memory) × (Passes old middle × PassesTimes n middle new)

-- n steps that perform no call lead from the contents `old` to `new`, whatever the meta character
abbrev pub Advances : ℕ → Contents → Contents → Type 0
Advances n old new = (meta : ℕ) → PassesTimes n (memory_of meta old) (memory_of meta new)

-- n steps that perform no call, at least one and at most `most`, shorten the active string
pub record SomeSteps (n most : ℕ) (old new : Contents) : Type 0 where
  pub passes : Advances n old new
  pub some : 0 < n
  pub few : n ≤ most
  pub shorter : length new.active < length old.active

-- what the next step asks for: the idling procedure, since the active string is empty; or the
-- innermost call, since a right parenthesis that begins that string closes it
abbrev pub AsksFor : NextAction → Contents → Type 0
AsksFor Idling w = w.active ≡ []
AsksFor (EndOfCall place) w =
    (slice_get (text_of_cells w.active) 0 ≡ Some 41) × IsLastCall w.neutral place

-- what the front of the active string comes to: at most `most` steps that perform no call, or none of
-- them, since it asks for a call or for the idling procedure
abbrev pub ComesTo : Result ℕ NextAction → ℕ → Contents → Contents → Type 0
ComesTo (Ok n) most old new = SomeSteps n most old new
ComesTo (Err front) most old new = (new ≡ old) × AsksFor front old

-- the idling procedure is loaded
abbrev pub idling_loaded : Contents → Contents
idling_loaded w = record w { neutral = []; active = flat_text idling }

-- the idling procedure up to the right parentheses, with its two calls open and their names scanned
abbrev pub idling_begun : Contents → Contents
idling_begun w =
    record w {
      neutral =
          Call Active 0 ∷ flat_text (codes "ps")
          ++ Comma ∷ Call Active 0 ∷ flat_text (codes "rs");
      active = flat_text (codes "))");
    }

-- the peak after some steps, of which the first needs `needed` cells and none needs more
abbrev pub peak_after : ℕ → ℕ → ℕ → ℕ
peak_after zero needed peak = peak
peak_after (suc n) needed peak = max peak needed

-- the machine `m` after n steps that lead to `memory`
abbrev pub passed : ℕ → Memory → MachineState → MachineState
passed n memory m =
    record m { memory = memory; steps = m.steps + n; peak = peak_after n (size m.memory) m.peak }

-- a machine over the contents `w` with the counters `at`, whose run isn't over, and whose turns stop
-- before a call whose name is no function if `stops` says so
abbrev pub turning : Bool → Contents → ℕ → Counters → MachineState
turning stops w meta at =
    record {
      memory = memory_of meta w;
      room = w.room;
      allowance = at.allowance;
      steps = at.steps;
      peak = at.peak;
      fate = None;
      stops = stops;
    }
