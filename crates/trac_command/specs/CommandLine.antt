-- The command line of a program, and the settings that its matches give.
use Rattle.std.specs.Prelude.{◌≡◌, ◌∷◌, ◌&&◌, [], ℕ, Bool, true, false, pos, List, Option, Some}
use Rattle.std.specs.Prelude.{codes, option_map}
use Rattle.std.specs.Str.{bytes_eq}
use Rattle.std.specs.Option.{option_map_or}
use Rattle.std.specs.Str.Parse.{digits_value, without_leading_plus}
use Rattle.clap.specs.Simple.{argument_words, built, names_of}
use Rattle.clap.specs.Walk.{has_row, nothing_held, settled, walk}
use Rattle.clap.specs.Words.{App, Row, Rule, Text, new_app, new_rule, one_of, with_rule}
use Rattle.clap.specs.declared.builder.action.ArgAction.TheVariants.{Set, SetTrue}
use Rattle.clap.specs.declared.builder.value_parser.ValueParser.{ValueParser}
use Rattle.clap.specs.declared.builder.value_parser.ValueParser.TheVariants as parser
use Rattle.trac_command.specs.declared.settings.Settings.{Settings}

-- the option `--name N`, of the numbers that the parser takes, with a default
abbrev pub number_option : Text → ValueParser → Text → Rule
number_option name numbers default = record (new_rule name) {
  long = Some name;
  value_names = 1;
  action = Some Set;
  parser = Some numbers;
  defaults = default ∷ [];
}

unfoldable pub cells_option : Rule
cells_option = number_option (codes "cells") (parser.Signed (pos 1) (pos 16777216)) (codes "65536")

-- the option `--steps N`, with a default
unfoldable pub steps_option : Text → Rule
steps_option = number_option (codes "steps") (parser.Unsigned 1 1000000000000)

unfoldable pub report_flag : Rule
report_flag = record (new_rule (codes "report")) {
  long = Some (codes "report");
  action = Some SetTrue;
  parser = Some parser.Bool;
}

-- the command line `NAME [--cells N] [--steps N]`, with a default of the steps
unfoldable pub numbers_command : Text → Text → App
numbers_command name steps = with_rule (with_rule (new_app name) cells_option) (steps_option steps)

-- the command line `NAME [--cells N] [--steps N]`, with `[--report]` if the program reports
unfoldable pub command_of : Text → Text → Bool → App
command_of name steps true = with_rule (numbers_command name steps) report_flag
command_of name steps false = numbers_command name steps

-- the number of a text
abbrev pub number : Text → ℕ
number t = digits_value 10 (without_leading_plus t)

-- the number that the matches give an option
abbrev pub number_of : Text → List Row → Option ℕ
number_of name rows = option_map number (one_of name rows)

-- whether the matches give a flag
abbrev pub has_flag : Text → List Row → Bool
has_flag name rows = option_map_or (λ t. bytes_eq t (codes "true")) (one_of name rows) false

-- the settings `s` are the values of the matches; `reports`: the command has the flag `--report`
abbrev pub AreValuesOf : Bool → List Row → Settings → Type 0
AreValuesOf reports rows s = (number_of (codes "cells") rows ≡ Some s.cells)
    × (number_of (codes "steps") rows ≡ Some s.steps)
    × ((reports && has_flag (codes "report") rows) ≡ s.report)

-- the rows of a command's words alone, before any default
abbrev pub given_rows : App → List Text → List Row
given_rows command words =
    let rules = (built command).top.rules in
    let given = argument_words command words in
    (settled rules (walk rules (names_of (built command)) nothing_held given).held).rows

-- whether the words give an option
abbrev pub gives : App → List Text → Text → Bool
gives command words name = has_row name (given_rows command words)

-- the settings that the words don't give: 65536 cells, `steps` steps and no report
abbrev pub HasDefaults : App → ℕ → List Text → Settings → Type 0
HasDefaults command steps words s =
    (gives command words (codes "cells") ≡ false → s.cells ≡ 65536)
    × (gives command words (codes "steps") ≡ false → s.steps ≡ steps)
    × (gives command words (codes "report") ≡ false → s.report ≡ false)
