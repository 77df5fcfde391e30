-- How an active string begins, by the row of the rule that fits.
use Rattle.std.specs.Prelude.{◌≡◌, ℕ, ◌≤◌, [], drop, length, Some, slice_get}
use Rattle.trac_language.specs.declared.mode.Mode.{Mode}
use Rattle.trac_language.specs.declared.mode.Mode.TheVariants.{Active, Neutral}
use Rattle.trac_language.specs.Text.{Text}
use Rattle.trac_language.specs.Rule.{AddCharacter, BeginCall, rule}
use Rattle.trac_core.specs.declared.rules.ScanningRule.{ScanningRule}
use Rattle.trac_core.specs.declared.rules.ScanningRule.TheVariants as row
use Rattle.trac_core.specs.StepsInRow.{IsLayout, IsOrdinary}

-- whether a character at the front of the active string is scanned by this rule; a number sign, if it
-- opens no call
abbrev pub IsFirstOf : ScanningRule → ℕ → Type 0
IsFirstOf row.Idling c = ⊥
IsFirstOf row.Layout c = IsLayout c
IsFirstOf row.Protection c = c ≡ 40
IsFirstOf row.Argument c = c ≡ 44
IsFirstOf row.ActiveCall c = ⊥
IsFirstOf row.NeutralCall c = ⊥
IsFirstOf row.NumberSign c = c ≡ 35
IsFirstOf row.EndOfCall c = c ≡ 41
IsFirstOf row.Character c = IsOrdinary c

-- the first n characters of a text open a call of this mode
abbrev pub Opens : Mode → ℕ → Text → Type 0
Opens mode n text = (rule text ≡ BeginCall mode (drop n text)) × (n ≤ length text)

-- what a text begins with, where this rule fits it
abbrev pub Begins : ScanningRule → Text → Type 0
Begins row.Idling text = text ≡ []
Begins row.Layout text = (c : ℕ) × ((slice_get text 0 ≡ Some c) × IsLayout c)
Begins row.Protection text = slice_get text 0 ≡ Some 40
Begins row.Argument text = slice_get text 0 ≡ Some 44
Begins row.ActiveCall text = Opens Active 2 text
Begins row.NeutralCall text = Opens Neutral 3 text
Begins row.NumberSign text =
    (slice_get text 0 ≡ Some 35) × (rule text ≡ AddCharacter 35 (drop 1 text))
Begins row.EndOfCall text = slice_get text 0 ≡ Some 41
Begins row.Character text = (c : ℕ) × ((slice_get text 0 ≡ Some c) × IsOrdinary c)
