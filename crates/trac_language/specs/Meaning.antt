-- What each call means.
use Rattle.std.specs.Prelude.{ℕ, ◌+◌, Bool, true, false, not, List, [], ◌∷◌, ◌++◌, drop, length, ℤ}
use Rattle.std.specs.Prelude.{pos, Option, Some, None, ◌==◌, if◌then◌else◌, codes, bytes_eq}
use Rattle.std.specs.Prelude.{decimal, int_lt, flat_map, filter}
use Rattle.std.specs.Fmt.{signed_decimal}
use Rattle.std.specs.List.{before_first, position_or_len, list_any}
use Rattle.trac_language.specs.declared.item.Item.{Item}
use Rattle.trac_language.specs.declared.item.Item.TheVariants.{Byte, Gap}
use Rattle.trac_language.specs.declared.fate.Fate.{Fate}
use Rattle.trac_language.specs.declared.fate.Fate.TheVariants.{Halted, InputEnded, InputFailed}
use Rattle.trac_language.specs.declared.function.Function.{Function}
use Rattle.trac_language.specs.declared.function.Function.TheVariants.{ReadString, ReadCharacter}
use Rattle.trac_language.specs.declared.function.Function.TheVariants.{ChangeMeta, PrintString}
use Rattle.trac_language.specs.declared.function.Function.TheVariants.{Halt, DefineString}
use Rattle.trac_language.specs.declared.function.Function.TheVariants.{SegmentString}
use Rattle.trac_language.specs.declared.function.Function.TheVariants.{DeleteDefinition, DeleteAll}
use Rattle.trac_language.specs.declared.function.Function.TheVariants.{ListNames, PrintForm}
use Rattle.trac_language.specs.declared.function.Function.TheVariants.{CallForm, CallSegment}
use Rattle.trac_language.specs.declared.function.Function.TheVariants.{CallCharacter, CallNumber}
use Rattle.trac_language.specs.declared.function.Function.TheVariants.{InitialPart, CallRestore}
use Rattle.trac_language.specs.declared.function.Function.TheVariants.{Equal, Greater, Arithmetic}
use Rattle.trac_language.specs.declared.function.Function.TheVariants.{Union, Intersection}
use Rattle.trac_language.specs.declared.function.Function.TheVariants.{Complement, Shift, Rotate}
use Rattle.trac_language.specs.Text.{Text}
use Rattle.trac_language.specs.Form.{Form, fill, before_pointer, after_pointer}
use Rattle.trac_language.specs.Segment.{segment_by}
use Rattle.trac_language.specs.Store.{form_named, changed, defined}
use Rattle.trac_language.specs.Number.{number, prefix, arith}
use Rattle.trac_language.specs.BitString.{Bits, bits, octal, octal_prefix, union, intersection}
use Rattle.trac_language.specs.BitString.{complement, shifted, rotated}
use Rattle.trac_language.specs.State.{Input, argument}
use Rattle.trac_language.specs.Part.{Part, next_segment, characters, initial_part}

-- what calls read and change
pub record World : Type 0 where
  pub forms : List Form
  pub meta : ℕ
  pub input : Input

-- a value, whether it goes to the active string whatever the
-- call's mode, the world afterwards, and what is printed
pub record Answer : Type 0 where
  pub value : Text
  pub forced : Bool
  pub world : World
  pub printed : Text

-- a call gives an answer or ends the run
pub data Meaning : Type 0 where
  Gives : Answer → Meaning
  Ends : Fate → Meaning

-- a value, and nothing else
abbrev pub valued : Text → World → Meaning
valued value world = Gives (record { value = value; forced = false; world = world; printed = [] })

-- a value that goes to the active string whatever the call's mode
abbrev pub forced : Text → World → Meaning
forced value world = Gives (record { value = value; forced = true; world = world; printed = [] })

-- a null value and a changed world
abbrev pub silent : World → Meaning
silent world = valued [] world

-- a null value, and a text is printed
abbrev pub printing : Text → World → Meaning
printing text world = Gives (record { value = []; forced = false; world = world; printed = text })

-- the input before the meta character, or all of it if none follows
abbrev pub before_meta : World → Text
before_meta world = before_first (λ c. c == world.meta) world.input.text

-- the input from the meta character on
abbrev pub from_meta : World → Text
from_meta world = drop (position_or_len (λ c. c == world.meta) world.input.text) world.input.text

-- the world in which `text` is still to be read
abbrev pub with_input : Text → World → World
with_input text world = record world { input = record { text = text; fails = world.input.fails } }

-- the meaning of `rs` where no meta character follows: all of the input, or the end of the run if there is none
-- or the source failed
abbrev pub read_all : Bool → Text → World → Meaning
read_all true text world = Ends InputFailed
read_all false [] world = Ends InputEnded
read_all false (c ∷ text) world = valued (c ∷ text) (with_input [] world)

-- the meaning of `rs`, by the text before the meta character and the input from the meta character on
abbrev pub read_string : Text → Text → World → Meaning
read_string text [] world = read_all world.input.fails text world
read_string text (meta ∷ rest) world = valued text (with_input rest world)

-- the meaning of `rc`: the next character of the input
abbrev pub read_character : Text → Bool → World → Meaning
read_character (c ∷ rest) fails world = valued (c ∷ []) (with_input rest world)
read_character [] true world = Ends InputFailed
read_character [] false world = Ends InputEnded

-- the meaning of `cm`: the first character of the text becomes the meta character, if there is one
abbrev pub change_meta : Text → World → Meaning
change_meta [] world = silent world
change_meta (c ∷ text) world = silent (record world { meta = c })

-- the items as they are displayed: a gap as its ordinal in angle brackets
abbrev pub show : List Item → Text
show [] = []
show (Byte c ∷ items) = c ∷ show items
show (Gap k ∷ items) = codes "<" ++ decimal k ++ codes ">" ++ show items

-- a form as it is displayed, with a mark where the pointer stands
abbrev pub show_form : Form → Text
show_form form = show (before_pointer form) ++ codes "<^>" ++ show (after_pointer form)

-- a call that reads or changes a form has no effect and a null value if no form has the name
abbrev pub on_form : Option Form → (Form → Meaning) → World → Meaning
on_form None meaning world = silent world
on_form (Some form) meaning world = meaning form

-- the world with a form changed
abbrev pub with_form : Text → (Form → Form) → World → World
with_form name change world = record world { forms = changed name change world.forms }

-- the meaning of a call that takes a part of a form and moves its pointer; z is the value if there is no part
abbrev pub take_part : Text → Option Part → Text → World → Meaning
take_part name None z world = forced z world
take_part name (Some part) z world =
    valued part.text (with_form name (λ form. record form { pointer = part.pointer }) world)

-- the form with gaps in place of the texts that the call gives, and the pointer at the start
abbrev pub segmented : List Text → Form → Form
segmented args form =
    record form { body = segment_by (drop 2 args) 1 form.body; pointer = 0 }

-- whether the call gives the form's name
abbrev pub is_listed : List Text → Form → Bool
is_listed args form = list_any (bytes_eq form.name) (drop 1 args)

-- the meaning of a call of arithmetic: the value is the prefix and the result, or z if there is no result
abbrev pub result_or : Option ℤ → Text → Text → World → Meaning
result_or None before z world = forced z world
result_or (Some n) before z world = valued (before ++ signed_decimal n) world

-- the meaning of a boolean call: the value is the prefix and the octal digits of the result
abbrev pub bits_result : Text → Bits → World → Meaning
bits_result before l world = valued (before ++ octal l) world

-- the form that the first argument after the function's name names
abbrev pub form_of_call : List Text → World → Option Form
form_of_call args world = form_named (argument args 1) world.forms

-- the meaning of a call that needs the form that its first argument names; null if there is none
abbrev pub on_form_of_call : List Text → World → (Form → Meaning) → Meaning
on_form_of_call args world meaning = on_form (form_of_call args world) meaning world

-- the meaning of a call that takes a part of the form that its first argument names, or z if there is no part
abbrev pub take_of_call : List Text → World → (Form → Option Part) → Text → Meaning
take_of_call args world part z =
    on_form_of_call args world (λ form. take_part (argument args 1) (part form) z world)

-- the meaning of a call of a function, by its arguments, the function's name being the first
unfoldable pub meaning_of : Function → List Text → World → Meaning
meaning_of ReadString args world = read_string (before_meta world) (from_meta world) world
meaning_of ReadCharacter args world = read_character world.input.text world.input.fails world
meaning_of ChangeMeta args world = change_meta (argument args 1) world
meaning_of PrintString args world = printing (argument args 1) world
meaning_of Halt args world = Ends Halted
meaning_of DefineString args world =
    silent (record world { forms = defined (argument args 1) (argument args 2) world.forms })
meaning_of SegmentString args world =
    on_form_of_call args world (λ form. silent (with_form (argument args 1) (segmented args) world))
meaning_of DeleteDefinition args world =
    silent (record world { forms = filter (λ form. not (is_listed args form)) world.forms })
meaning_of DeleteAll args world = silent (record world { forms = [] })
meaning_of ListNames args world =
    valued (flat_map (λ form. argument args 1 ++ form.name) world.forms) world
meaning_of PrintForm args world =
    on_form_of_call args world (λ form. printing (show_form form) world)
meaning_of CallForm args world =
    on_form_of_call args world (λ form. valued (fill (drop 2 args) (after_pointer form)) world)
meaning_of CallSegment args world = take_of_call args world next_segment (argument args 2)
meaning_of CallCharacter args world =
    take_of_call args world (characters (pos 1)) (argument args 2)
meaning_of CallNumber args world =
    take_of_call args world (characters (number (argument args 2))) (argument args 3)
meaning_of InitialPart args world =
    take_of_call args world (initial_part (argument args 2)) (argument args 3)
meaning_of CallRestore args world =
    on_form_of_call args world
    (λ form. silent (with_form (argument args 1) (λ form. record form { pointer = 0 }) world))
meaning_of Equal args world =
    valued
    (if bytes_eq (argument args 1) (argument args 2) then argument args 3 else argument args 4)
    world
meaning_of Greater args world =
    valued
    (if int_lt (number (argument args 2)) (number (argument args 1)) then argument args 3
    else argument args 4)
    world
meaning_of (Arithmetic operation) args world =
    result_or (arith operation (number (argument args 1)) (number (argument args 2)))
    (prefix (argument args 1)) (argument args 3) world
meaning_of Union args world =
    bits_result (octal_prefix (argument args 1))
    (union (bits (argument args 1)) (bits (argument args 2))) world
meaning_of Intersection args world =
    bits_result (octal_prefix (argument args 1))
    (intersection (bits (argument args 1)) (bits (argument args 2))) world
meaning_of Complement args world =
    bits_result (octal_prefix (argument args 1)) (complement (bits (argument args 1))) world
meaning_of Shift args world =
    bits_result (octal_prefix (argument args 2))
    (shifted (number (argument args 1)) (bits (argument args 2))) world
meaning_of Rotate args world =
    bits_result (octal_prefix (argument args 2))
    (rotated (number (argument args 1)) (bits (argument args 2))) world

-- the meaning of a call; a name that is no function's gives a null value
abbrev pub meaning : Option Function → List Text → World → Meaning
meaning None args world = silent world
meaning (Some function) args world = meaning_of function args world

-- the length of a value, 0 if the run ends
abbrev pub value_length : Meaning → ℕ
value_length (Gives answer) = length answer.value
value_length (Ends fate) = 0

-- the cells that a call builds beside its arguments
abbrev pub built : Option Function → List Text → World → ℕ
built None args world = 0
built (Some DefineString) args world = 3 + length (argument args 1) + length (argument args 2)
built (Some ReadString) args world = length (before_meta world)
built (Some function) args world = value_length (meaning_of function args world)
