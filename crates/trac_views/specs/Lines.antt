-- The lines of a trace.
use Rattle.std.specs.Prelude.{◌++◌, ◌==◌, ◌/◌, ◌%◌, ◌||◌, ◌&&◌, ◌+◌, ◌^◌, ℕ, Bool, true, false, List, []}
use Rattle.std.specs.Prelude.{not}
use Rattle.std.specs.Prelude.{◌∷◌, codes, decimal}
use Rattle.std.specs.Prelude.{drop, take, length, min, nat_le, nat_lt, get_or, if◌then◌else◌, ◌-◌}
use Rattle.trac_language.specs.declared.mode.Mode.TheVariants.{Active, Neutral}
use Rattle.trac_language.specs.declared.fate.Fate.{Fate}
use Rattle.trac_language.specs.declared.fate.Fate.TheVariants.{Halted, InputEnded, Workspace, Steps}
use Rattle.trac_language.specs.declared.fate.Fate.TheVariants.{InputFailed, OutputFailed}
use Rattle.trac_space.specs.declared.cell.Cell.{Cell}
use Rattle.trac_space.specs.declared.cell.Cell.TheVariants.{Byte, Call, Comma, Gap, Head}
use Rattle.trac_core.specs.declared.rules.ScanningRule.{ScanningRule}
use Rattle.trac_core.specs.declared.rules.ScanningRule.TheVariants as row

-- a digit to the base 16
abbrev pub digit_16 : ℕ → ℕ
digit_16 n = get_or (codes "0123456789abcdef") n 0

-- a byte that is no visible character of ASCII and no space, by its number
abbrev pub number_16 : ℕ → List ℕ
number_16 b = codes "\\x" ++ digit_16 (b / 16) ∷ digit_16 (b % 16) ∷ []

-- a byte as a trace shows it
abbrev pub byte_text : ℕ → List ℕ
byte_text b =
    if b == 9 then codes "\\t"
    else (if b == 10 then codes "\\n"
    else (if b == 13 then codes "\\r"
    else (if b == 92 then codes "\\\\"
    else (if nat_lt b 32 || nat_lt 126 b then number_16 b
    else b ∷ []))))

-- bytes, one after the other
abbrev pub bytes_text : List ℕ → List ℕ
bytes_text [] = []
bytes_text (b ∷ bytes) = byte_text b ++ bytes_text bytes

-- a cell of a string: a mark stands in angle brackets
abbrev pub cell_text : Cell → List ℕ
cell_text (Byte b) = byte_text b
cell_text (Call Active _) = codes "<#>"
cell_text (Call Neutral _) = codes "<##>"
cell_text Comma = codes "<,>"
cell_text (Gap _) = []
cell_text (Head _) = []

-- cells, one after the other
abbrev pub cells_text : List Cell → List ℕ
cells_text [] = []
cells_text (cell ∷ cells) = cell_text cell ++ cells_text cells

-- the name of a rule, in 13 columns
abbrev pub name_text : ScanningRule → List ℕ
name_text row.Idling = codes "idling       "
name_text row.Layout = codes "layout       "
name_text row.Protection = codes "protection   "
name_text row.Argument = codes "argument     "
name_text row.ActiveCall = codes "active call  "
name_text row.NeutralCall = codes "neutral call "
name_text row.NumberSign = codes "number sign  "
name_text row.EndOfCall = codes "end of call  "
name_text row.Character = codes "character    "

-- a number at the right end of 6 columns, or of as many as it has digits
abbrev pub column_text : ℕ → List ℕ
column_text n = drop (min (length (decimal n)) 6) (codes "      ") ++ decimal n

-- the line above the lines of a view: that of calls, of forms or of steps
abbrev pub head_text : Bool → Bool → List ℕ
head_text true forms = codes "  step  call\n"
head_text false true = codes "  step  form\n"
head_text false false =
    codes "  step  rule           size  need  neutral string|active string\n"

-- whether `len` cells need no cut to a width; a width of 0 sets no bound
abbrev pub is_short : ℕ → ℕ → Bool
is_short width len = (width == 0) || nat_le len width

-- a string of a step that is cut to a width, in cells
abbrev pub string_text : ℕ → List Cell → List ℕ
string_text width cells =
    if is_short width (length cells) then cells_text cells
    else (cells_text (take (width - width / 2) cells) ++ codes " .. "
    ++ cells_text (drop (length cells - width / 2) cells))

-- the line of a step, whose strings are cut to a width
abbrev pub step_text : ℕ → ℕ → ScanningRule → ℕ → ℕ → List Cell → List Cell → List ℕ
step_text width number rule size need neutral active =
    column_text number ++ codes "  " ++ name_text rule
    ++ column_text size ++ column_text need ++ codes "  "
    ++ string_text width neutral ++ codes "|" ++ string_text width active ++ codes "\n"

-- the line of what a step printed
abbrev pub printed_text : List ℕ → List ℕ
printed_text bytes = codes "        prints: " ++ bytes_text bytes ++ codes "\n"

-- the line of what a step printed, null if it printed nothing
abbrev pub output_text : List ℕ → List ℕ
output_text [] = []
output_text (b ∷ bytes) = printed_text (b ∷ bytes)

-- the line of how many characters a step dropped
abbrev pub drop_line : ℕ → List ℕ
drop_line n =
    codes "        drops: " ++ decimal n
    ++ codes " characters, since a left parenthesis has no match\n"

-- the line of how many characters a step dropped, null if it dropped none
abbrev pub dropped_text : ℕ → List ℕ
dropped_text n = if n == 0 then [] else drop_line n

-- whether a byte is one that no character of UTF-8 begins with, but that stands within one
abbrev pub is_within : ℕ → Bool
is_within b = nat_le 128 b && nat_le b 191

-- whether a byte goes into the next line, since `at` columns of its own are taken and no more are left
abbrev pub is_folded : ℕ → ℕ → ℕ → Bool
is_folded columns at b =
    nat_lt 0 columns && (nat_le columns at && (not (b == 10) && not (is_within b)))

-- a byte before which `at` columns of its line are taken, in the next line if no column is left
abbrev pub byte_at : ℕ → ℕ → ℕ → List ℕ
byte_at columns at b = if is_folded columns at b then codes "\n          " ++ b ∷ [] else b ∷ []

-- how many columns of a line are taken behind a byte, if `at` are taken before it
abbrev pub column_behind : ℕ → ℕ → ℕ → ℕ
column_behind columns at b =
    if is_folded columns at b then 11
    else (if b == 10 then 0 else (if is_within b then at else min (at + 1) (2 ^ 32 - 1)))

-- a text folded to lines of at most `columns` columns, where `at` columns of its first line are taken
abbrev pub folded_text : ℕ → ℕ → List ℕ → List ℕ
folded_text columns at [] = []
folded_text columns at (b ∷ text) =
    byte_at columns at b ++ folded_text columns (column_behind columns at b) text

-- how a run ended
abbrev pub fate_text : Fate → List ℕ
fate_text Halted = codes "halted"
fate_text InputEnded = codes "input ended"
fate_text Workspace = codes "workspace full"
fate_text Steps = codes "allowance used up"
fate_text InputFailed = codes "input failed"
fate_text OutputFailed = codes "no memory for what is printed"

-- the last line of a trace: how the run ended, its steps and its peak
abbrev pub end_text : Fate → ℕ → ℕ → List ℕ
end_text fate steps peak =
    fate_text fate ++ codes ": " ++ decimal steps
    ++ codes " steps, peak " ++ decimal peak ++ codes " cells\n"
