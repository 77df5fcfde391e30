-- What is said of a step that was done.
use Rattle.std.specs.Prelude.{◌≡◌, ℕ, ◌-◌, ◌==◌, ◌&&◌, ◌||◌, Bool, true, false, not, min, List, [], ◌∷◌, ◌++◌}
use Rattle.std.specs.Prelude.{length, map, take, drop, reverse, slice_get, Option, None, Some, unwrap_or}
use Rattle.std.specs.Prelude.{nat_le, nat_lt, if◌then◌else◌}
use Rattle.std.specs.Bool.{nat_eq}
use Rattle.std.specs.Char.{is_ascii_alphabetic}
use Rattle.std.specs.Option.{option_eq}
use Rattle.trac_language.specs.declared.function.Function.{Function}
use Rattle.trac_language.specs.declared.function.Function.TheVariants.{Arithmetic}
use Rattle.trac_space.specs.declared.cell.Cell.{Cell}
use Rattle.trac_functions.specs.Flat.{neutral_of}
use Rattle.trac_core.specs.Machine.{MachineState}
use Rattle.trac_core.specs.View.{neutral_in}
use Rattle.trac_core.specs.declared.machine.session.Awaits.{Awaits}
use Rattle.trac_core.specs.declared.machine.session.Awaits.TheVariants as awaits
use Rattle.trac_core.specs.declared.rules.ScanningRule.{ScanningRule}
use Rattle.trac_core.specs.declared.rules.ScanningRule.TheVariants as row
use Rattle.trac_events.specs.Calls.{SeesValue, argument_of}
use Rattle.trac_events.specs.declared.before.Before.{Before}
use Rattle.trac_warnings.specs.Looked.{open_string, place_of}
use Rattle.trac_warnings.specs.Origins.{in_input, more}
use Rattle.trac_warnings.specs.Performed.{function_of, has_odd_operand, of_text, where_so}
use Rattle.trac_warnings.specs.Script.{curly_end}
use Rattle.trac_warnings.specs.Strings.{layout_len}
use Rattle.trac_warnings.specs.Watched.{Said, end_of_text, said}
use Rattle.trac_warnings.specs.declared.origin.Origin.{Origin}
use Rattle.trac_warnings.specs.declared.warning.Suspicion.{Suspicion}
use Rattle.trac_warnings.specs.declared.warning.Suspicion.TheVariants.{Dropped, EndInside, NoResult, OpenCall}
use Rattle.trac_warnings.specs.declared.warning.Suspicion.TheVariants.{OpenString as NotEnded, Protection}
use Rattle.trac_warnings.specs.declared.warning.Suspicion.TheVariants.{CurlyEnd}
use Rattle.trac_warnings.specs.declared.watch.OpenString.{OpenString}
use Rattle.trac_warnings.specs.declared.watch.Watch.{Watch}

-- how many cells of the active string stand behind a string, 0 if there is no string
abbrev pub rest_of : Option OpenString → ℕ
rest_of None = 0
rest_of (Some string) = string.rest

-- the warning of the characters that a step drops, up to the end of the string that is scanned
abbrev pub drop_warnings : {A : Type 0} → Watch A → Before → List Said
drop_warnings watch before =
    if before.drops == 0 then []
    else record {
      origin = place_of watch;
      suspicion = Dropped;
      count = before.active - rest_of (open_string watch);
      text = [];
    } ∷ []

-- whether a rule takes over a protected text
abbrev pub is_protection : ScanningRule → Bool
is_protection row.Protection = true
is_protection _ = false

-- whether a function is one of arithmetic
abbrev pub is_arithmetic : Option Function → Bool
is_arithmetic (Some (Arithmetic operation)) = true
is_arithmetic _ = false

-- whether the call that a step performed gives no default value and has a null value; after the step the strings
-- have `active` and `neutral` cells
abbrev pub is_null : {A : Type 0} → Watch A → Before → (active neutral : ℕ) → Bool
is_null watch before active neutral =
    (length (argument_of watch.arguments.items 3) == 0)
    && (nat_lt active before.active && nat_le neutral (watch.neutral - length watch.arguments.items - 1))

-- where the innermost call was written; where its value was, if no call is known
abbrev pub call_place : {A : Type 0} → Watch A → Origin
call_place watch = unwrap_or (slice_get watch.calls.items (length watch.calls.items - 1)) watch.value

-- the warning of a call of arithmetic that has no result, unless something is suspicious in what it computes with
abbrev pub result_warnings : {A : Type 0} → Watch A → Before → (active neutral : ℕ) → List Said
result_warnings watch before active neutral =
    where_so (is_arithmetic (function_of watch.arguments.items)
    && (is_null watch before active neutral && not (has_odd_operand watch.arguments.items)))
    NoResult (call_place watch) (argument_of watch.arguments.items 0)

-- whether a step by a rule only takes a character from the active string: the step begins and ends no call, begins no
-- argument, and takes no text over
abbrev pub takes_only : ScanningRule → Bool
takes_only row.Layout = true
takes_only row.NumberSign = true
takes_only row.Character = true
takes_only _ = false

-- whether a step reads nothing
abbrev pub reads_nothing : Awaits → Bool
reads_nothing awaits.Nothing = true
reads_nothing _ = false

-- whether a step that was seen reads nothing, and only takes a character from the active string
abbrev pub is_plain : Before → Bool
is_plain before = reads_nothing before.awaits && takes_only before.rule

-- the warnings of what a step did, by its rule
abbrev pub rule_warnings : {A : Type 0} → ScanningRule → Watch A → Before → (active neutral : ℕ) → List Said
rule_warnings row.Protection watch before active neutral = drop_warnings watch before
rule_warnings row.EndOfCall watch before active neutral = result_warnings watch before active neutral
rule_warnings _ watch before active neutral = []

-- all items but the last
abbrev pub without_last : {A : Type 0} → List A → List A
without_last items = take (length items - 1) items

-- where the calls that are open after a step by a rule were written
abbrev pub calls_behind : {A : Type 0} → ScanningRule → Watch A → List Origin
calls_behind row.Idling watch = []
calls_behind row.ActiveCall watch = watch.calls.items ++ place_of watch ∷ []
calls_behind row.NeutralCall watch = watch.calls.items ++ place_of watch ∷ []
calls_behind row.EndOfCall watch = without_last watch.calls.items
calls_behind _ watch = watch.calls.items

-- strings, the last first, in which the last counts at most `depth` calls that were open when it was read
abbrev pub lowered : ℕ → List OpenString → List OpenString
lowered depth [] = []
lowered depth (string ∷ strings) = record string { depth = min string.depth depth } ∷ strings

-- the strings that are scanned after a step by a rule, the last first
abbrev pub strings_behind : {A : Type 0} → ScanningRule → Watch A → List OpenString
strings_behind row.Idling watch = []
strings_behind row.EndOfCall watch =
    lowered (length (without_last watch.calls.items)) (reverse watch.strings.items)
strings_behind _ watch = reverse watch.strings.items

-- whether a string ends at a place of the input by a meta character
abbrev pub is_ended_at : List ℕ → (end meta : ℕ) → Bool
is_ended_at input end meta = option_eq nat_eq (slice_get input end) (Some meta)

-- whether a byte is a letter
abbrev pub is_letter_byte : Option ℕ → Bool
is_letter_byte None = false
is_letter_byte (Some byte) = is_ascii_alphabetic byte

-- whether a letter stands at a place of the input
abbrev pub is_letter_at : List ℕ → ℕ → Bool
is_letter_at input place = is_letter_byte (slice_get input place)

-- whether a string ends at a place of the input by a meta character that stands between two letters: one that seems to
-- belong to a text
abbrev pub ends_in_word : List ℕ → (end meta : ℕ) → Bool
ends_in_word input end meta =
    is_ended_at input end meta && (is_letter_at input (end - 1) && is_letter_at input (more end 1))

-- where the first character that is no layout stands between two places of the input
abbrev pub begin_of_text : List ℕ → (start end : ℕ) → ℕ
begin_of_text input start end = more start (layout_len (take (end - start) (drop start input)))

-- where the typographic apostrophe stands that a text ends with, if the apostrophe is the meta character
abbrev pub curly_for : (meta : ℕ) → List ℕ → Option ℕ
curly_for meta text = if meta == 39 then curly_end text else None

-- the warning of a string that begins at a place, and that no meta character ends, or a typographic apostrophe in
-- its place
abbrev pub open_text : Option ℕ → (begin : ℕ) → Said
open_text None begin = of_text NotEnded (in_input begin) []
open_text (Some place) begin = of_text CurlyEnd (in_input (more begin place)) []

-- the warning of a string that was read from one place up to another, unless a meta character ends it
abbrev pub text_warnings : List ℕ → (start end meta : ℕ) → List Said
text_warnings input start end meta =
    let begin = begin_of_text input start end in
    if not (is_ended_at input end meta) && nat_lt begin end
    then open_text (curly_for meta (take (end - begin) (drop begin input))) begin ∷ [] else []

-- the warning of a string that a step read from place `read` of the input on, if its value has `len` characters
abbrev pub read_warnings : Awaits → Before → List ℕ → (read len : ℕ) → List Said
read_warnings awaits.Text before input read len =
    text_warnings input (min read (length input)) (end_of_text input read len) before.meta
read_warnings _ before input read len = []

-- the strings with one that was read up to place `end`, unless nothing of it is active; `depth` calls are open
abbrev pub with_string :
    Before → List ℕ → (end active depth : ℕ) → List OpenString → List OpenString
with_string before input end active depth strings =
    if nat_lt (before.active - 1) active
    then record {
      end = end;
      is_in_word = ends_in_word input end before.meta;
      rest = before.active - 1;
      depth = depth;
    } ∷ strings
    else strings

-- the strings with the one that a step read from place `read` of the input on, if it read one; its value has
-- `len` characters
abbrev pub strings_read :
    Awaits → Before → List ℕ → (read len active depth : ℕ) → List OpenString → List OpenString
strings_read awaits.Text before input read len active depth strings =
    with_string before input (end_of_text input read len) active depth strings
strings_read _ before input read len active depth strings = strings

-- whether a suspicion is that characters were dropped
abbrev pub tells_dropped : Suspicion → Bool
tells_dropped Dropped = true
tells_dropped _ = false

-- whether something was said, and that is that characters were dropped
abbrev pub is_dropped : Option Said → Bool
is_dropped None = false
is_dropped (Some said) = tells_dropped said.suspicion

-- whether what was said last is that characters were dropped
abbrev pub is_dropped_last : List Said → Bool
is_dropped_last reported = is_dropped (slice_get reported (length reported - 1))

-- the warnings of open calls
abbrev pub open_warnings : Suspicion → List Origin → List Said
open_warnings suspicion [] = []
open_warnings suspicion (call ∷ calls) = of_text suspicion call [] ∷ open_warnings suspicion calls

-- the warnings of the left parentheses and of the calls that a string leaves open at its end, which is at `here`
abbrev pub left_open : (is_unmatched is_reported : Bool) → Origin → List Origin → List Said
left_open true is_reported here calls = where_so (not is_reported) Protection here []
left_open false is_reported here calls = open_warnings OpenCall calls

-- the warnings of the end of a string, by whether a left parenthesis has no match in it and whether that was
-- told as characters that were dropped
abbrev pub end_warnings :
    (is_unmatched is_reported : Bool) → Origin → List Origin → OpenString → List Said
end_warnings is_unmatched is_reported here calls string =
    left_open is_unmatched is_reported here (drop string.depth calls)
    ++ where_so (string.is_in_word && (is_unmatched || nat_lt string.depth (length calls)))
    EndInside (in_input string.end) []

-- what was `reported`, with the warnings of the strings, the last first, that end while `active` cells are left in
-- the active string
abbrev pub ended :
    ScanningRule → ℕ → Origin → List Origin → List Said → List OpenString → List Said
ended rule active here calls reported [] = reported
ended rule active here calls reported (string ∷ strings) =
    if nat_lt string.rest active then reported
    else ended rule active here calls (reported ++ end_warnings (nat_lt active string.rest && is_protection rule)
    (is_dropped_last reported) here calls string) strings

-- the strings, the last first, that don't end while `active` cells are left in the active string
abbrev pub not_ended : ℕ → List OpenString → List OpenString
not_ended active [] = []
not_ended active (string ∷ strings) =
    if nat_lt string.rest active then string ∷ strings else not_ended active strings

-- the strings that are scanned after a step, the last first, with those that end there
abbrev pub strings_scanned : {A : Type 0} → Before → List ℕ → (len active : ℕ) → Watch A → List OpenString
strings_scanned before input len active watch =
    strings_read before.awaits before input watch.read len active
    (length (calls_behind before.rule watch)) (strings_behind before.rule watch)

-- all that is said of a step that was done, whose value has `len` characters, and after which the strings have
-- `active` and `neutral` cells
abbrev pub reported_behind : {A : Type 0} → Before → List ℕ → (len active neutral : ℕ) → Watch A → List Said
reported_behind before input len active neutral watch =
    ended before.rule active (place_of watch) (calls_behind before.rule watch)
    (map said watch.warnings.items ++ rule_warnings before.rule watch before active neutral
    ++ read_warnings before.awaits before input watch.read len)
    (strings_scanned before input len active watch)

-- the warnings of a step that was done are added, and the calls and the strings are those that are open after it
abbrev pub JudgesStep : {A : Type 0} → Before → MachineState → List ℕ → (old new : Watch A) → Type 0
JudgesStep before m input old new =
    (value : List Cell) × ((neutral : List Cell) × (SeesValue m before.call before.active value
    × ((neutral_of neutral ≡ neutral_in m.memory)
    × ((map said new.warnings.items
    ≡ reported_behind before input (length value) (length m.memory.active) (length neutral) old)
    × ((new.calls.items ≡ calls_behind before.rule old)
    × (reverse new.strings.items ≡ not_ended (length m.memory.active)
    (strings_scanned before input (length value) (length m.memory.active) old)))))))
