-- Rows of steps at which nothing is suspicious.
use Rattle.std.specs.Prelude.{◌≡◌, ℕ, zero, suc, ◌+◌, ◌-◌, ◌<◌, ◌≤◌, ◌==◌, ◌&&◌, Bool, true, false, not}
use Rattle.std.specs.Prelude.{List, [], ◌∷◌, ◌++◌, drop, length}
use Rattle.std.specs.Prelude.{reverse, nat_lt, slice_get, Some, if◌then◌else◌}
use Rattle.std.specs.Bool.{nat_eq}
use Rattle.std.specs.List.{prefix_len}
use Rattle.std.specs.Option.{option_eq}
use Rattle.trac_language.specs.Text.{Text}
use Rattle.trac_language.specs.Rule.{Rule, LoadIdling, DeleteLayout, AddProtected, ClearActive, BeginArgument}
use Rattle.trac_language.specs.Rule.{BeginCall, EndCall, AddCharacter, rule}
use Rattle.trac_core.specs.View.{row_of, taken as taken_by, taken_in_row}
use Rattle.trac_core.specs.declared.rules.ScanningRule.{ScanningRule}
use Rattle.trac_core.specs.declared.rules.ScanningRule.TheVariants as row
use Rattle.trac_warnings.specs.Origins.{behind, first_origin, origin_at, taken}
use Rattle.trac_warnings.specs.declared.origin.Origin.{Origin}
use Rattle.trac_warnings.specs.declared.trail.Run.{Run}
use Rattle.trac_warnings.specs.declared.watch.OpenString.{OpenString}
use Rattle.trac_warnings.specs.declared.watch.Watch.{Watch}
use Rattle.trac_warnings.specs.declared.watch.rows.Mark.{Mark}
use Rattle.trac_warnings.specs.declared.watch.rows.Mark.TheVariants as mark
use Rattle.trac_warnings.specs.declared.watch.rows.Row.{Row}

-- whether nothing is suspicious in a step by a rule, unless a string ends there: the step loads no idling procedure,
-- ends no call, and drops nothing
abbrev pub is_quiet : Rule → Bool
is_quiet LoadIdling = false
is_quiet (DeleteLayout rest) = true
is_quiet (AddProtected inside rest) = true
is_quiet ClearActive = false
is_quiet (BeginArgument rest) = true
is_quiet (BeginCall mode rest) = true
is_quiet (EndCall rest) = false
is_quiet (AddCharacter c rest) = true

-- what a step leaves of an active string, unless it puts something there
abbrev pub text_left : Text → Text
text_left text = drop (taken_by (rule text) (length text)) text

-- what n steps leave of an active string, unless one of them puts something there
abbrev pub text_after : ℕ → Text → Text
text_after zero text = text
text_after (suc n) text = text_left (text_after n text)

-- where the characters of the active string, the first of them first, the calls that are open, and the arguments of
-- these calls were written
pub record Trail : Type 0 where
  pub runs : List Run
  pub calls : List Origin
  pub commas : List Origin

-- the trail that a watch keeps
abbrev pub trail_of : {A : Type 0} → Watch A → Trail
trail_of watch =
    record { runs = reverse watch.runs.items; calls = watch.calls.items; commas = watch.commas.items }

-- the origins of an active string without its first n characters
abbrev pub without : ℕ → List Run → List Run
without zero runs = runs
without (suc n) runs = taken (suc n) runs

-- the calls that are open after a step by a rule which ends none, and before which the active string began at `here`
abbrev pub opened : ScanningRule → Origin → List Origin → List Origin
opened row.ActiveCall here calls = calls ++ here ∷ []
opened row.NeutralCall here calls = calls ++ here ∷ []
opened _ here calls = calls

-- whether a step by a rule opens a call
abbrev pub begins_call : ScanningRule → Bool
begins_call row.ActiveCall = true
begins_call row.NeutralCall = true
begins_call _ = false

-- whether a step by a rule begins an argument
abbrev pub begins_argument : ScanningRule → Bool
begins_argument row.Argument = true
begins_argument _ = false

-- whether a character is no number sign, parenthesis or comma
abbrev pub is_plain : ℕ → Bool
is_plain c = not (c == 35) && (not (c == 40) && (not (c == 41) && not (c == 44)))

-- whether a character stands at a place of a text
abbrev pub is_at : Text → (place c : ℕ) → Bool
is_at text place c = option_eq nat_eq (slice_get text place) (Some c)

-- what a text begins with
abbrev pub Marks : Mark → Text → Type 0
Marks mark.Plain text = 0 < prefix_len is_plain text
Marks mark.Comma text = begins_argument (row_of (rule text)) ≡ true
Marks (mark.Call count) text =
    (begins_call (row_of (rule text)) ≡ true) × (count ≡ taken_in_row (row_of (rule text)))
Marks (mark.Protected count) text =
    (inside : Text) × ((rest : Text) × ((rule text ≡ AddProtected inside rest) × (count ≡ length inside + 2)))
Marks mark.Other text = Unit {0}

-- where an argument was written, by its comma and the text behind that: what is protected begins behind its parenthesis
abbrev pub argument_origin : Origin → Text → Origin
argument_origin comma text = behind (if is_at text 0 40 then 2 else 1) comma

-- the arguments after a step by a rule which ends no call, and before which the active string began at `here`; the step
-- leaves `left` of that string
abbrev pub begun : ScanningRule → Origin → (left : Text) → List Origin → List Origin
begun row.Argument here left commas = commas ++ argument_origin here left ∷ []
begun _ here left commas = commas

-- the trail after a step over an active string; the input was read up to `read`
abbrev pub trail_behind : Text → (read : ℕ) → Trail → Trail
trail_behind text read trail =
    let here = origin_at read (first_origin trail.runs) in
    record {
      runs = taken (taken_by (rule text) (length text)) trail.runs;
      calls = opened (row_of (rule text)) here trail.calls;
      commas = begun (row_of (rule text)) here (text_left text) trail.commas;
    }

-- the trail after n steps over an active string
abbrev pub trail_after : ℕ → Text → (read : ℕ) → Trail → Trail
trail_after zero text read trail = trail
trail_after (suc n) text read trail = trail_behind (text_after n text) read (trail_after n text read trail)

-- whether none of these strings, the last first, ends while `active` cells are left in the active string
abbrev pub none_ends : List OpenString → (active : ℕ) → Bool
none_ends [] active = true
none_ends (string ∷ strings) active = nat_lt string.rest active

-- nothing is suspicious in the step behind n others over an active string, and none of the strings ends there
pub record IsQuietBehind (text : Text) (strings : List OpenString) (n : ℕ) : Type 0 where
  pub quiet : is_quiet (rule (text_after n text)) ≡ true
  pub open_still : none_ends strings (length (text_after (suc n) text)) ≡ true

-- nothing is suspicious in n steps over an active string, and none of the strings ends there
abbrev pub IsQuietRow : ℕ → Text → List OpenString → Type 0
IsQuietRow n text strings = (k : ℕ) → k < n → IsQuietBehind text strings k

-- none of the strings, the last first, ends while at most `place` characters leave an active string
abbrev pub OpenBefore : (place : ℕ) → Text → List OpenString → Type 0
OpenBefore place text strings =
    (count : ℕ) → 0 < count → count ≤ place → none_ends strings (length text - count) ≡ true

-- a watch followed n steps over an active string, in which nothing is suspicious
pub record FollowsRow {A : Type 0} (n : ℕ) (text : Text) (old new : Watch A) : Type 0 where
  pub quiet : IsQuietRow n text (reverse old.strings.items)
  pub trail : trail_of new ≡ trail_after n text old.read (trail_of old)
  pub stays : new ≡ record old { runs = new.runs; calls = new.calls; commas = new.commas }
  pub none : n ≡ 0 → new ≡ old

-- a watch has followed a row of steps over an active string so far
pub record FollowsSoFar {A : Type 0} (text : Text) (row : Row) (old new : Watch A) : Type 0 where
  pub quiet : IsQuietRow row.steps text (reverse old.strings.items)
  pub left : text_after row.steps text ≡ drop row.place text
  pub within : row.place ≤ length text
  pub trail :
      trail_after row.steps text old.read (trail_of old)
      ≡ record (trail_of new) { runs = without row.pending (reverse new.runs.items) }
  pub stays : new ≡ record old { runs = new.runs; calls = new.calls; commas = new.commas }
  pub none : row.steps ≡ 0 → new ≡ old
