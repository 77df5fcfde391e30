-- The command line of the program, and the views that its matches give.
use Rattle.std.specs.Prelude.{◌≡◌, ◌&&◌, ℕ, suc, Bool, not, List, [], ◌∷◌, false, pos, Some, codes, length}
use Rattle.std.specs.Prelude.{bytes_eq, nat_lt, if◌then◌else◌}
use Rattle.clap.specs.Words.{App, Row, Rule, Text, new_rule, with_rule}
use Rattle.clap.specs.declared.builder.action.ArgAction.TheVariants.{SetTrue}
use Rattle.clap.specs.declared.builder.value_parser.ValueParser.TheVariants as parser
use Rattle.trac_command.specs.CommandLine.{gives, has_flag, number_of, number_option}
use Rattle.trac_command.specs.CommandLine.{numbers_command}
use Rattle.trac_views.specs.declared.views.Views.{Views}

-- the flag `--name`
abbrev pub flag_of : Text → Rule
flag_of name = record (new_rule name) {
  long = Some name;
  action = Some SetTrue;
  parser = Some parser.Bool;
}

unfoldable pub from_option : Rule
from_option = number_option (codes "from") (parser.Unsigned 1 1000000000000) (codes "1")

unfoldable pub to_option : Rule
to_option = number_option (codes "to") (parser.Unsigned 1 1000000000000) (codes "1000000000000")

unfoldable pub last_option : Rule
last_option = number_option (codes "last") (parser.Unsigned 0 1000000) (codes "0")

unfoldable pub width_option : Rule
width_option = number_option (codes "width") (parser.Signed (pos 0) (pos 16777216)) (codes "100")

unfoldable pub columns_option : Rule
columns_option = number_option (codes "columns") (parser.Signed (pos 0) (pos 16777216)) (codes "0")

unfoldable pub calls_flag : Rule
calls_flag = flag_of (codes "calls")

unfoldable pub forms_flag : Rule
forms_flag = flag_of (codes "forms")

unfoldable pub warn_flag : Rule
warn_flag = flag_of (codes "warn")

-- `NAME [--cells N] [--steps N] [--from N] [--to N] [--last N] [--width N] [--columns N] [--calls]
-- [--forms] [--warn]`, with 1000000 steps where the words don't say
unfoldable pub views_command : Text → App
views_command name =
    with_rule (with_rule (with_rule (with_rule (with_rule (with_rule (with_rule (with_rule
    (numbers_command name (codes "1000000")) from_option) to_option) last_option)
    width_option) columns_option) calls_flag) forms_flag) warn_flag

-- the command line of the program `trac_trace`
abbrev pub trace_command : App
trace_command = views_command (codes "trac_trace")

-- the views are the values of the matches
abbrev pub AreViewsOf : List Row → Views → Type 0
AreViewsOf rows v = (number_of (codes "from") rows ≡ Some v.from)
    × (number_of (codes "to") rows ≡ Some v.to)
    × (number_of (codes "last") rows ≡ Some v.last)
    × (number_of (codes "width") rows ≡ Some v.width)
    × (number_of (codes "columns") rows ≡ Some v.columns)
    × (has_flag (codes "calls") rows ≡ v.calls)
    × (has_flag (codes "forms") rows ≡ v.forms)
    × (has_flag (codes "warn") rows ≡ v.warn)

-- the views that the words don't give: all steps, no limit to the last ones, 100 bytes of a text, lines
-- of any length, and no flag
abbrev pub HasDefaultViews : List Text → Views → Type 0
HasDefaultViews words v =
    (gives trace_command words (codes "from") ≡ false → v.from ≡ 1)
    × (gives trace_command words (codes "to") ≡ false → v.to ≡ 1000000000000)
    × (gives trace_command words (codes "last") ≡ false → v.last ≡ 0)
    × (gives trace_command words (codes "width") ≡ false → v.width ≡ 100)
    × (gives trace_command words (codes "columns") ≡ false → v.columns ≡ 0)
    × (gives trace_command words (codes "calls") ≡ false → v.calls ≡ false)
    × (gives trace_command words (codes "forms") ≡ false → v.forms ≡ false)
    × (gives trace_command words (codes "warn") ≡ false → v.warn ≡ false)

-- whether `--version` stands alone behind the program's name
abbrev pub is_version : List Text → Bool
is_version (name ∷ word ∷ []) = bytes_eq word (codes "--version")
is_version _ = false

-- how many words stand before the first `--check`
abbrev pub place_of_check : List Text → ℕ
place_of_check [] = 0
place_of_check (word ∷ words) =
    if bytes_eq word (codes "--check") then 0 else suc (place_of_check words)

-- how many words are options
abbrev pub options_len : List Text → ℕ
options_len words = if is_version words then 1 else place_of_check words

-- whether `--check` stands among the words
abbrev pub has_check : List Text → Bool
has_check words = nat_lt (options_len words) (length words) && not (is_version words)
