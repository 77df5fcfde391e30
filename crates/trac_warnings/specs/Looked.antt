-- What is looked at before a step, and what is said of it.
use Rattle.std.specs.Prelude.{◌≡◌, ℕ, ◌-◌, ◌&&◌, Bool, false, List, [], length, take, drop}
use Rattle.std.specs.Prelude.{reverse, slice_get, Option, None, Some, is_none, unwrap_or, nat_le, nat_lt}
use Rattle.std.specs.Bool.{nat_eq}
use Rattle.std.specs.Option.{option_eq}
use Rattle.trac_language.specs.Rule.{rule}
use Rattle.trac_space.specs.declared.cell.Cell.{Cell}
use Rattle.trac_functions.specs.Flat.{neutral_of}
use Rattle.trac_core.specs.Machine.{MachineState}
use Rattle.trac_core.specs.OpenCalls.{mark_of}
use Rattle.trac_core.specs.View.{neutral_in, row_of}
use Rattle.trac_core.specs.declared.machine.open_calls.CallMark.{CallMark}
use Rattle.trac_core.specs.declared.rules.ScanningRule.{ScanningRule}
use Rattle.trac_core.specs.declared.rules.ScanningRule.TheVariants as row
use Rattle.trac_events.specs.Calls.{top_frame}
use Rattle.trac_warnings.specs.Origins.{first_origin, more, origin_at}
use Rattle.trac_warnings.specs.Performed.{Warns, call_warnings, commas_of, where_so}
use Rattle.trac_warnings.specs.Watched.{Said}
use Rattle.trac_warnings.specs.declared.origin.Origin.{Origin}
use Rattle.trac_warnings.specs.declared.performed.Ending.{Ending}
use Rattle.trac_warnings.specs.declared.warning.Suspicion.TheVariants.{NoCall}
use Rattle.trac_warnings.specs.declared.warning.Warning.{Warning}
use Rattle.trac_warnings.specs.declared.watch.OpenString.{OpenString}
use Rattle.trac_warnings.specs.declared.watch.Watch.{Watch}

-- where the first character of the active string was written; where the input is read next, if nothing is active
abbrev pub place_of : {A : Type 0} → Watch A → Origin
place_of watch = origin_at watch.read (first_origin (reverse watch.runs.items))

-- the string that was read last, of the strings that are being scanned
abbrev pub open_string : {A : Type 0} → Watch A → Option OpenString
open_string watch = slice_get watch.strings.items (length watch.strings.items - 1)

-- whether the front of an active string of `active` cells is part of a string, and none of the `calls` open calls
-- was begun in that string
abbrev pub is_outside : Option OpenString → (active calls : ℕ) → Bool
is_outside None active calls = false
is_outside (Some string) active calls = nat_lt string.rest active && nat_le calls string.depth

-- whether the right parenthesis at the front of an active string of `active` cells ends no call of its string
abbrev pub is_stray : {A : Type 0} → Watch A → ℕ → Bool
is_stray watch active = is_outside (open_string watch) active (length watch.calls.items)

-- the warning of a right parenthesis at the front of the active string that ends no call of its string
abbrev pub stray_warnings : {A : Type 0} → Watch A → ℕ → List Said
stray_warnings watch active = where_so (is_stray watch active) NoCall (place_of watch) []

-- where the innermost call was written; where its right parenthesis was, if no call is known
abbrev pub begin_of : {A : Type 0} → Watch A → Origin
begin_of watch = unwrap_or (slice_get watch.calls.items (length watch.calls.items - 1)) (place_of watch)

-- how many calls were open when a string was read
abbrev pub depth_of : Option OpenString → ℕ
depth_of None = 0
depth_of (Some string) = string.depth

-- whether a call around was written in the text in which one at `begin` was written
abbrev pub is_beside : Option Origin → Origin → Bool
is_beside None begin = false
is_beside (Some outer) begin = option_eq nat_eq outer.form begin.form

-- whether the innermost call, which was written at `begin`, stands in another call of its string and of its text
abbrev pub is_inside : {A : Type 0} → Watch A → Origin → Bool
is_inside watch begin =
    nat_lt (more (depth_of (open_string watch)) 1) (length watch.calls.items)
    && is_beside (slice_get watch.calls.items (length watch.calls.items - 2)) begin

-- whether the right parenthesis at a place stands in the input, and another one behind it
abbrev pub is_last : Origin → List ℕ → Bool
is_last end known =
    is_none end.form && option_eq nat_eq (slice_get known (more end.offset 1)) (Some 41)

-- where the arguments behind the name of the innermost call were written; `arguments` are its cells
abbrev pub places_of : List Origin → List Cell → List Origin
places_of commas arguments = drop (length commas - commas_of arguments) commas

-- the arguments so far of the call around the innermost one, by the places of their marks
abbrev pub around_of : Option CallMark → List Cell → ℕ → List Cell
around_of None neutral mark = []
around_of (Some outer) neutral mark = top_frame (take mark neutral) outer.place

-- `ending` tells of a call that is about to be performed, whose mark stands at `mark` in the neutral string; the
-- call around it has the mark `outer`
pub record IsEnding
    {A : Type 0} (watch : Watch A) (neutral : List Cell) (outer : Option CallMark) (mark : ℕ) (known : List ℕ)
    (ending : Ending)
    : Type 0 where
  pub arguments_are : ending.arguments.now ≡ top_frame neutral mark
  pub begin_is : ending.begin ≡ begin_of watch
  pub places_are : ending.places.now ≡ places_of watch.commas.items (top_frame neutral mark)
  pub around_is : ending.around.now ≡ around_of outer neutral mark
  pub inside_is : ending.is_inside ≡ is_inside watch (begin_of watch)
  pub last_is : ending.is_last ≡ is_last (place_of watch) known
  pub input_is : ending.input.now ≡ known

-- the warnings of the call whose mark stands at `mark` are added
abbrev pub LooksAtMark :
    {A : Type 0} → ℕ → Watch A → MachineState → List ℕ → (old new : List (Warning A)) → Type 0
LooksAtMark mark watch m input old new =
    (neutral : List Cell) × ((ending : Ending) × ((neutral_of neutral ≡ neutral_in m.memory)
    × (IsEnding watch neutral (mark_of 1 (neutral_in m.memory)) mark input ending
    × Warns old new (call_warnings m.memory.forms ending))))

-- the warnings of the call of a mark are added, if there is a mark
abbrev pub LooksAtCall :
    {A : Type 0} → Option CallMark → Watch A → MachineState → List ℕ → (old new : List (Warning A)) → Type 0
LooksAtCall None watch m input old new = new ≡ old
LooksAtCall (Some mark) watch m input old new = LooksAtMark mark.place watch m input old new

-- the warning of a right parenthesis is added, and then the warnings of the call that it ends
abbrev pub LooksAtEnd :
    {A : Type 0} → Watch A → MachineState → List ℕ → (old new : List (Warning A)) → Type 0
LooksAtEnd {A} watch m input old new =
    (stray : List (Warning A)) × (Warns old stray (stray_warnings watch (length m.memory.active))
    × LooksAtCall (mark_of 0 (neutral_in m.memory)) watch m input stray new)

-- `new` are the warnings before a step by a rule
abbrev pub LooksBy :
    {A : Type 0} → ScanningRule → Watch A → MachineState → List ℕ → List (Warning A) → Type 0
LooksBy row.EndOfCall watch m input new = LooksAtEnd watch m input [] new
LooksBy _ watch m input new = new ≡ []

-- `new` are the warnings before a step of machine `m`, of whose input the bytes `input` are known
abbrev pub Looks : {A : Type 0} → Watch A → MachineState → List ℕ → List (Warning A) → Type 0
Looks watch m input new = LooksBy (row_of (rule m.memory.active)) watch m input new
