-- What is suspicious in a call, and what is said of it.
use Rattle.std.specs.Prelude.{Bool, true, false, List, [], ◌∷◌, map, Option, Some, None, codes}
use Rattle.std.specs.Prelude.{bytes_eq, if◌then◌else◌, is_some, ℕ, ◌==◌, ◌&&◌, ◌||◌}
use Rattle.std.specs.List.{list_any}
use Rattle.std.specs.Char.{to_ascii_lowercase}
use Rattle.trac_language.specs.Text.{Text}
use Rattle.trac_language.specs.Function.{function_named}
use Rattle.trac_warnings.specs.declared.warning.Suspicion.{Suspicion}
use Rattle.trac_warnings.specs.declared.warning.Suspicion.TheVariants.{Mark, OtherMeta, LineNumbers}
use Rattle.trac_warnings.specs.declared.warning.Suspicion.TheVariants.{Colon, Blank, Bracket}
use Rattle.trac_warnings.specs.declared.warning.Suspicion.TheVariants.{NoNumberSign, NoFunction, FormAsFunction}
use Rattle.trac_warnings.specs.declared.warning.Suspicion.TheVariants.{LeftOut, NoForm, BlankInName, Ignored}
use Rattle.trac_warnings.specs.declared.warning.Suspicion.TheVariants.{NoResult, NoDigits, FormAsNumber}
use Rattle.trac_warnings.specs.declared.warning.Suspicion.TheVariants.{DigitsInside, NothingLeft, NothingFound}
use Rattle.trac_warnings.specs.declared.warning.Suspicion.TheVariants.{HaltInside, ActsAlways, CommaInNumber}
use Rattle.trac_warnings.specs.declared.warning.Suspicion.TheVariants.{AllTaken, BlankInSide, LetterInSide}
use Rattle.trac_warnings.specs.declared.warning.Suspicion.TheVariants.{ReadsAlways, CallPrinted, LineEndAsMeta}
use Rattle.trac_warnings.specs.declared.warning.Suspicion.TheVariants.{GapInName, NotInForm, NoGap, FewArguments}
use Rattle.trac_warnings.specs.declared.warning.Suspicion.TheVariants.{InOtherLetters, GapInWord, NoCall, Misspelled}
use Rattle.trac_warnings.specs.declared.warning.Suspicion.TheVariants.{OpenCall, Protection, Dropped, EndInside}
use Rattle.trac_warnings.specs.declared.warning.Suspicion.TheVariants.{OpenString, CurlyEnd}
use Rattle.trac_warnings.specs.declared.warning.Suspicion.TheVariants.{RunEnded, EndedCalling, OpenAtEnd}

-- the sentence on a suspicion, before the name, the text or the number
abbrev pub sentence_of : Suspicion → Text
sentence_of Mark = codes "a byte order mark stands before the script"
sentence_of OtherMeta =
    codes "no apostrophe ends a string; where this byte is to end it, write #(cm,X)' first: "
sentence_of LineNumbers = codes "numbers stand at the heads of lines, and are text here"
sentence_of Colon = codes ":( begins no call; write #( or ##("
sentence_of Blank = codes "a blank behind a number sign: no call begins here"
sentence_of Bracket = codes "#[ begins no call; write #("
sentence_of NoNumberSign =
    codes "no number sign stands before the parenthesis, so this is no call of "
sentence_of NoFunction = codes "no function has the name "
sentence_of Misspelled = codes "no function has the name "
sentence_of FormAsFunction = codes "no function has this name, but a form has; write #(cl,"
sentence_of LeftOut = codes "this processor leaves out the function "
sentence_of NoForm = codes "no form has the name "
sentence_of BlankInName =
    codes "no form has this name, but one has it without the blanks or line ends around it: "
sentence_of Ignored = codes "the function takes no notice of the argument "
sentence_of NoResult = codes "there is no result, and no default value is given: "
sentence_of NoDigits = codes "a text without digits stands for the number 0: "
sentence_of FormAsNumber = codes "this text is no number, but a form has the name; write #(cl,"
sentence_of CommaInNumber = codes "digits behind a comma are another argument, here of "
sentence_of DigitsInside = codes "only the digits at the end of a text are its number: "
sentence_of NothingLeft = codes "nothing is left, and no default value is given, of the form "
sentence_of NothingFound = codes "nothing is found, and no default value is given, in the form "
sentence_of AllTaken = codes "nothing is left of the form; to begin it again, write #(cr,"
sentence_of BlankInSide =
    codes "the sides of eq differ only by blanks or line ends around them: "
sentence_of LetterInSide = codes "the sides of eq differ only in capitals and small letters: "
sentence_of HaltInside =
    codes "hl ends the run before the call around it is performed, which is of "
sentence_of ReadsAlways = codes "what isn't protected always reads, here in a default value of "
sentence_of ActsAlways = codes "what isn't protected is always performed, here in an argument of "
sentence_of CallPrinted = codes "a call is printed here and not performed, of "
sentence_of LineEndAsMeta = codes "lines end with CR and LF, of which one becomes the meta character: "
sentence_of GapInName = codes "a text of ss also stands in the name of a call: "
sentence_of GapInWord = codes "a text of ss also stands inside longer words: "
sentence_of NotInForm = codes "this text stands nowhere in the form "
sentence_of InOtherLetters =
    codes "this text stands only in other letters (capitals or small) in the form "
sentence_of NoGap = codes "no gap is there for this argument in the form "
sentence_of FewArguments = codes "fewer arguments than gaps: "
sentence_of NoCall = codes "a right parenthesis ends no call of its string"
sentence_of OpenCall = codes "a call is still open where its string ends"
sentence_of Protection = codes "a left parenthesis has no match in its string"
sentence_of Dropped = codes "a left parenthesis has no match; characters dropped: "
sentence_of EndInside = codes "the meta character ends the string inside parentheses"
sentence_of OpenString = codes "no meta character ends the string"
sentence_of CurlyEnd = codes "a typographic apostrophe ends no string; write ' for it"
sentence_of RunEnded = codes "the run ended here"
sentence_of EndedCalling = codes "the run ended here; the form "
sentence_of OpenAtEnd = codes "this call was open when the run ended"

-- whether a suspicion is on how a script is written
abbrev pub is_on_writing : Suspicion → Bool
is_on_writing Mark = true
is_on_writing OtherMeta = true
is_on_writing LineNumbers = true
is_on_writing Colon = true
is_on_writing Blank = true
is_on_writing Bracket = true
is_on_writing NoNumberSign = true
is_on_writing _ = false

-- whether a suspicion is on what a call calls, takes notice of, computes, compares or prints
abbrev pub is_on_call : Suspicion → Bool
is_on_call NoFunction = true
is_on_call Misspelled = true
is_on_call FormAsFunction = true
is_on_call LeftOut = true
is_on_call Ignored = true
is_on_call NoResult = true
is_on_call NoDigits = true
is_on_call FormAsNumber = true
is_on_call CommaInNumber = true
is_on_call DigitsInside = true
is_on_call BlankInSide = true
is_on_call LetterInSide = true
is_on_call HaltInside = true
is_on_call ReadsAlways = true
is_on_call ActsAlways = true
is_on_call CallPrinted = true
is_on_call LineEndAsMeta = true
is_on_call _ = false

-- whether a suspicion is on the form that a call names
abbrev pub is_on_form : Suspicion → Bool
is_on_form NoForm = true
is_on_form BlankInName = true
is_on_form NothingLeft = true
is_on_form NothingFound = true
is_on_form AllTaken = true
is_on_form GapInName = true
is_on_form GapInWord = true
is_on_form NotInForm = true
is_on_form InOtherLetters = true
is_on_form NoGap = true
is_on_form FewArguments = true
is_on_form _ = false

-- the functions of the language that this processor leaves out: those of external blocks, of the
-- trace and of modes
abbrev pub left_out : List Text
left_out =
    codes "sb" ∷ codes "fb" ∷ codes "eb" ∷ codes "tn" ∷ codes "tf" ∷ codes "mo" ∷ []

-- whether a name, in letters of either case, is that of a function that this processor leaves out
abbrev pub is_left_out : Text → Bool
is_left_out name = list_any (bytes_eq (map to_ascii_lowercase name)) left_out

-- what is suspicious in the name of a call: a null name is that of a remark
abbrev pub suspicion_of_name : Text → Option Suspicion
suspicion_of_name [] = None
suspicion_of_name (c ∷ name) =
    if is_some (function_named (c ∷ name)) then None
    else (if is_left_out (c ∷ name) then Some LeftOut else Some NoFunction)

-- what stands behind a name at the head of the bytes; null, if they don't begin with the name
abbrev pub behind_name : Text → List ℕ → List ℕ
behind_name [] bytes = bytes
behind_name (c ∷ name) [] = []
behind_name (c ∷ name) (b ∷ bytes) = if b == c then behind_name name bytes else []

-- whether the bytes begin with a comma or a right parenthesis
abbrev pub ends_argument : List ℕ → Bool
ends_argument [] = false
ends_argument (b ∷ bytes) = (b == 44) || (b == 41)

-- whether the bytes begin with a right parenthesis
abbrev pub ends_call : List ℕ → Bool
ends_call [] = false
ends_call (b ∷ bytes) = b == 41

-- whether bytes begin with a name and, behind it, a comma or a right parenthesis
abbrev pub begins_argument : Text → List ℕ → Bool
begins_argument name bytes = ends_argument (behind_name name bytes)

-- whether a name stands in the input as an argument
abbrev pub is_written : Text → List ℕ → Bool
is_written name [] = false
is_written name (b ∷ bytes) = ((b == 44) && begins_argument name bytes) || is_written name bytes

-- whether bytes begin with a call of `cl`, behind its number sign, for the form of a name and without an argument
abbrev pub calls_alone : Text → List ℕ → Bool
calls_alone name (a ∷ b ∷ c ∷ d ∷ bytes) =
    ((a == 40) && (to_ascii_lowercase b == 99))
    && (((to_ascii_lowercase c == 108) && (d == 44)) && ends_call (behind_name name bytes))
calls_alone name bytes = false

-- whether a call of `cl` without an argument, for the form of a name, stands in the input
abbrev pub is_called_alone : Text → List ℕ → Bool
is_called_alone name [] = false
is_called_alone name (b ∷ bytes) = calls_alone name (b ∷ bytes) || is_called_alone name bytes
