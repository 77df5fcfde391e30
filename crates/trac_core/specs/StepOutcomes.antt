-- What a try of one step over the contents of a workspace says of each machine that holds them, and
-- of its devices.
use Rattle.std.specs.Prelude.{◌≡◌, ℕ, ◌+◌, ◌-◌, ◌<◌, ◌≤◌, Bool, true, false, List, ◌∷◌, ◌++◌}
use Rattle.std.specs.Prelude.{length, ◌≢◌, drop, take, All, Option, Some, None, ⊤}
use Rattle.trac_language.specs.declared.mode.Mode.{Mode}
use Rattle.trac_language.specs.declared.mode.Mode.TheVariants.{Active, Neutral}
use Rattle.trac_language.specs.declared.function.Function.{Function}
use Rattle.trac_language.specs.declared.fate.Fate.{Fate}
use Rattle.trac_language.specs.declared.fate.Fate.TheVariants.{Workspace, Steps, InputFailed}
use Rattle.trac_language.specs.declared.fate.Fate.TheVariants.{OutputFailed}
use Rattle.trac_language.specs.Text.{Text}
use Rattle.trac_language.specs.Function.{function_named}
use Rattle.trac_language.specs.State.{Input, State, argument}
use Rattle.trac_language.specs.Step.{Next, step, need}
use Rattle.trac_laws.specs.LastRead.{reads_to_end}
use Rattle.trac_space.specs.declared.cell.Cell.{Cell}
use Rattle.trac_space.specs.declared.cell.Cell.TheVariants.{Byte}
use Rattle.trac_space.specs.Calls.{IsLastCall}
use Rattle.trac_space.specs.Texts.{flat_text, text_of_cells, IsByte}
use Rattle.trac_forms.specs.Contents.{Contents, used, IsSound}
use Rattle.trac_devices.specs.Devices.{Stream, Sent}
use Rattle.trac_functions.specs.declared.arguments.Arguments.{Arguments}
use Rattle.trac_functions.specs.declared.arguments.CallResult.{CallResult}
use Rattle.trac_functions.specs.declared.arguments.CallResult.TheVariants.{Full, AtEnd, InFront, Unscanned, Null}
use Rattle.trac_functions.specs.declared.arguments.CallResult.TheVariants.{Over}
use Rattle.trac_functions.specs.Flat.{memory_of, mode_at, arguments_at}
use Rattle.trac_functions.specs.Calls.{texts}
use Rattle.trac_core.specs.OpenCalls.{performed_call}
use Rattle.trac_core.specs.Performed.{reads_input, prints_output}
use Rattle.trac_core.specs.Machine.{MachineState, moment, state_with, Answers, counted}
use Rattle.trac_core.specs.Machine.{input_failures, output_failures}

-- the contents of a workspace, a meta character, a source and what a sink holds
pub record Scene : Type 0 where
  pub contents : Contents
  pub meta : ℕ
  pub source : Stream
  pub written : Text

abbrev pub scene : Contents → ℕ → Stream → Text → Scene
scene contents meta source written =
    record { contents = contents; meta = meta; source = source; written = written }

-- for each machine that holds the contents of `old` and may step,
-- `answer` is right, once `needed` cells are counted
abbrev pub Tried : Scene → Option Fate → ℕ → Scene → Type 0
Tried old answer needed new =
    (m : MachineState) → m.room ≡ old.contents.room →
    m.memory ≡ memory_of old.meta old.contents → m.steps < m.allowance →
    Answers (moment m old.source old.written) answer
    (moment (counted m (memory_of new.meta new.contents) needed answer) new.source new.written)

-- the state whose memory is the contents `w`, with a meta character, an input and an output
abbrev pub state_over : Contents → ℕ → Input → Text → State
state_over w meta input output = state_with (memory_of meta w) input output

-- a step that performs no call, and so reads and prints nothing, leads from the contents `old` to `new`
-- and needs `needed` cells
pub record Scans (old new : Contents) (needed : ℕ) : Type 0 where
  pub goes : (meta : ℕ) (input : Input) (output : Text) →
      step (state_over old meta input output) ≡ Next (state_over new meta input output)
  pub needs : (meta : ℕ) (input : Input) (output : Text) →
      need (state_over old meta input output) ≡ needed
  pub reads : (meta : ℕ) (input : Input) (output : Text) →
      reads_to_end (state_over old meta input output) ≡ false
  pub no_call : (meta : ℕ) → performed_call (memory_of meta old) ≡ None

-- a step that performs no call was done, or it needs more than the room
abbrev pub Scanned : Option Fate → ℕ → Contents → Contents → Type 0
Scanned None needed old new = Scans old new needed
Scanned (Some Workspace) needed old new =
    (meta : ℕ) (input : Input) (output : Text) → old.room < need (state_over old meta input output)
Scanned (Some _) needed old new = ⊥

-- neither device failed, and the allowance was not used up
abbrev pub NoneFailed : Option Fate → Type 0
NoneFailed fate = (fate ≢ Some InputFailed) × (fate ≢ Some OutputFailed) × (fate ≢ Some Steps)

-- the innermost call, whose mark stands at `place`, is performed by the right parenthesis that
-- the active string of `old` begins with; `w` has that parenthesis no more
pub record ClosesCall (old w : Contents) (place : ℕ) : Type 0 where
  pub same : old ≡ record w { active = Byte 41 ∷ w.active }
  pub innermost : IsLastCall w.neutral place

-- a call of `function`, or of none, is to be performed, and its mark stands at `place`
pub record IsCall (w : Contents) (place : ℕ) (function : Option Function) : Type 0 where
  pub sound : IsSound w
  pub innermost : IsLastCall w.neutral place
  pub names : function_named (argument (arguments_at w.neutral place) 0) ≡ function

-- for each machine that is to perform the call at `place`, `answer` is right, once `needed` cells are counted
abbrev pub TriedCall : ℕ → Scene → Option Fate → ℕ → Scene → Type 0
TriedCall place w answer needed new =
    (old : Contents) → ClosesCall old w.contents place →
    Tried (record w { contents = old }) answer needed new

-- the function of the call whose mark stands at a place
abbrev pub function_at : List Cell → ℕ → Option Function
function_at neutral place = function_named (argument (arguments_at neutral place) 0)

-- the call leaves, and its value goes before the active string or to the end of the neutral one
abbrev pub delivered : Mode → Bool → Text → ℕ → Contents → Contents
delivered Active forced value place w =
    record w { active = flat_text value ++ w.active; neutral = take place w.neutral }
delivered Neutral true value place w =
    record w { active = flat_text value ++ w.active; neutral = take place w.neutral }
delivered Neutral false value place w =
    record w { neutral = take place w.neutral ++ flat_text value }

-- the call whose mark stands at `place` leaves, and its value, which stands in the neutral string from
-- `from` on, is delivered by the mode of that mark
abbrev pub value_delivered : (place from : ℕ) → Contents → Contents
value_delivered place from w =
    delivered (mode_at w.neutral place) false (text_of_cells (drop from w.neutral)) place
    (record w { neutral = take from w.neutral })

-- what a function's answer comes to: the call whose mark stands at `place` leaves, and a value that
-- stands at the end of the neutral string, from `from` on, is delivered; a step that isn't done, or
-- that ends the run, leaves all as it is
abbrev pub settled : CallResult → (place from : ℕ) → Contents → Contents
settled Full place from w = w
settled AtEnd place from w = value_delivered place from w
settled (InFront cells) place from w = record w { neutral = take place w.neutral }
settled (Unscanned cells) place from w =
    record w { neutral = take place w.neutral ++ take cells w.active; active = drop cells w.active }
settled (Null cells) place from w = record w { neutral = take place w.neutral }
settled (Over fate) place from w = w

-- what a step answers for what its function answered
abbrev pub fate_after : CallResult → Option Fate
fate_after Full = Some Workspace
fate_after AtEnd = None
fate_after (InFront cells) = None
fate_after (Unscanned cells) = None
fate_after (Null cells) = None
fate_after (Over fate) = Some fate

-- a function's answer says neither that a device failed nor that the allowance is used up
abbrev pub EndsQuietly : CallResult → Type 0
EndsQuietly call_result =
    (input_failures None (fate_after call_result) ≡ 0) × ((output_failures None (fate_after call_result) ≡ 0)
    × (call_result ≢ Over Steps))

-- the cells that a call needs, which used `before` cells and whose value stands from `from` on
abbrev pub need_after : CallResult → (before from : ℕ) → Contents → ℕ
need_after Full before from w = 0
need_after AtEnd before from w = before + (length w.neutral - from)
need_after (InFront cells) before from w = before + cells
need_after (Unscanned cells) before from w = before + cells
need_after (Null cells) before from w = before + cells
need_after (Over fate) before from w = used w

-- a text stands in the neutral string from `from` on, and fits beside the `before` cells in use
pub record IsValueFrom (before from : ℕ) (w : Contents) : Type 0 where
  pub within : from ≤ length w.neutral
  pub text : All IsByte (drop from w.neutral)
  pub fits : before + (length w.neutral - from) ≤ w.room

-- the `cells` cells that were built fit beside the `before` cells in use; the neutral string reaches to `from`
pub record IsBuilt (before from cells : ℕ) (w : Contents) : Type 0 where
  pub within : from ≤ length w.neutral
  pub fits : before + cells ≤ w.room

-- the value or the cells that a function's answer tells are there, and fit
abbrev pub Stands : CallResult → (before from : ℕ) → Contents → Type 0
Stands Full before from w = ⊤
Stands AtEnd before from w = IsValueFrom before from w
Stands (InFront cells) before from w = IsBuilt before from cells w
Stands (Unscanned cells) before from w =
    IsBuilt before from cells w × (cells ≤ length w.active)
Stands (Null cells) before from w = IsBuilt before from cells w
Stands (Over fate) before from w = ⊤

-- for each machine that is to perform the call at `place`, the function's answer `call_result` comes to the right step
abbrev pub AnswersCall : ℕ → Scene → CallResult → Scene → Type 0
AnswersCall place old call_result new =
    let before = used old.contents in
    let from = length old.contents.neutral in
    TriedCall place old (fate_after call_result) (need_after call_result before from new.contents)
    (record new { contents = settled call_result place from new.contents })

-- a call of `function` is to be performed, its mark stands at `place`,
-- and `arguments` are its arguments behind the name
pub record HasArguments (w : Contents) (place : ℕ) (function : Function) (arguments : Arguments)
    : Type 0 where
  pub call : IsCall w place (Some function)
  pub rest : texts w arguments ≡ drop 1 (arguments_at w.neutral place)

-- the bytes `taken` left the source, at most one more than the free cells
pub record TakesFrom (w : Contents) (old new : Stream) (taken : Text) : Type 0 where
  pub consumed : old.bytes ≡ taken ++ new.bytes
  pub few : length taken + used w ≤ w.room + 1

-- the bytes `taken` left the source, at most two more than the free cells
pub record TakesAtMost (w : Contents) (old new : Stream) (taken : Text) : Type 0 where
  pub consumed : old.bytes ≡ taken ++ new.bytes
  pub few : length taken + used w ≤ w.room + 2

-- how a step that answers `fate` and performs `function` leaves its source: a source whose bytes can be
-- told stays one, a failure is counted if `fate` tells it, and a step that reads nothing changes nothing
abbrev pub LeavesSource : {S : Type 0} → (tells : S → Type 0) → (failures : S → ℕ) →
    Option Fate → Option Function → S → S → Type 0
LeavesSource tells failures fate function old new =
    (tells old → tells new) × (failures new ≡ failures old + input_failures None fate)
    × (reads_input function ≡ false → new ≡ old)

-- how a step that answers `fate` and performs `function` leaves its sink: what it was lent stays, a failure
-- is counted if `fate` tells it, and unless it failed, what was put was sent on
abbrev pub LeavesSink : {S L : Type 0} → (tells flushed : S → Type 0) → (written : S → Text) →
    (lent : S → L) → (failures : S → ℕ) → Option Fate → Option Function → S → S → Type 0
LeavesSink tells flushed written lent failures fate function old new =
    (tells old → tells new) × (failures new ≡ failures old + output_failures None fate)
    × (prints_output function ≡ false → new ≡ old) × (lent new ≡ lent old)
    × (fate ≢ Some OutputFailed → Sent tells flushed written old new)
