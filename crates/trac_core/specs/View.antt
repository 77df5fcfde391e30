-- What a machine shows of itself.
use Rattle.std.specs.Prelude.{ℕ, zero, suc, ◌+◌, ◌==◌, if◌then◌else◌, Bool, true, false, length, drop}
use Rattle.trac_language.specs.declared.mode.Mode.TheVariants.{Active, Neutral as NeutralMode}
use Rattle.trac_language.specs.State.{Memory}
use Rattle.trac_language.specs.Text.{Text}
use Rattle.trac_language.specs.Rule.{Rule, LoadIdling, DeleteLayout, AddProtected, ClearActive}
use Rattle.trac_language.specs.Rule.{BeginArgument, BeginCall, EndCall, AddCharacter, rule}
use Rattle.trac_functions.specs.Flat.{Neutral}
use Rattle.trac_core.specs.declared.rules.ScanningRule.{ScanningRule}
use Rattle.trac_core.specs.declared.rules.ScanningRule.TheVariants.{Idling, Layout}
use Rattle.trac_core.specs.declared.rules.ScanningRule.TheVariants.{Protection, Argument}
use Rattle.trac_core.specs.declared.rules.ScanningRule.TheVariants.{ActiveCall, NeutralCall}
use Rattle.trac_core.specs.declared.rules.ScanningRule.TheVariants.{NumberSign, EndOfCall}
use Rattle.trac_core.specs.declared.rules.ScanningRule.TheVariants.{Character}

-- the neutral string of a memory
abbrev pub neutral_in : Memory → Neutral
neutral_in memory = record { base = memory.base; calls = memory.calls }

-- the row of the table of scanning rules in which a rule stands;
-- a left parenthesis has one row, with a match and without
abbrev pub row_of : Rule → ScanningRule
row_of LoadIdling = Idling
row_of (DeleteLayout rest) = Layout
row_of (AddProtected inside rest) = Protection
row_of ClearActive = Protection
row_of (BeginArgument rest) = Argument
row_of (BeginCall Active rest) = ActiveCall
row_of (BeginCall NeutralMode rest) = NeutralCall
row_of (EndCall rest) = EndOfCall
row_of (AddCharacter c rest) = if c == 35 then NumberSign else Character

-- how many of the n characters of an active string a step by this rule drops, since a left
-- parenthesis has no match
abbrev pub dropped : Rule → ℕ → ℕ
dropped ClearActive n = n
dropped _ n = 0

-- how many characters a step takes by a rule of a row, where that protects no text
abbrev pub taken_in_row : ScanningRule → ℕ
taken_in_row Idling = 0
taken_in_row ActiveCall = 2
taken_in_row NeutralCall = 3
taken_in_row _ = 1

-- how many of the n characters of an active string a step by this rule takes
abbrev pub taken : Rule → ℕ → ℕ
taken (AddProtected inside rest) n = length inside + 2
taken ClearActive n = n
taken r n = taken_in_row (row_of r)

-- whether a step by a rule of a row may perform a call, or loads the idling procedure
abbrev pub stops_before : ScanningRule → Bool
stops_before Idling = true
stops_before EndOfCall = true
stops_before _ = false

-- how many steps over an active string come before one that may perform a call or loads the idling
-- procedure, at most as many as the first number
unfoldable pub steps_before_call : ℕ → Text → ℕ
steps_before_call zero active = 0
steps_before_call (suc n) active =
    elim (stops_before (row_of (rule active))) [
      | true ↦ 0
      | false ↦ 1 + steps_before_call n (drop (taken (rule active) (length active)) active)
    ]
