-- What was found so far in a script.
use Rattle.std.specs.Prelude.{◌&&◌, Bool, true, false, List, [], ◌∷◌}
use Rattle.std.specs.BTreeMap.{insert_entry, is_at}
use Rattle.std.specs.Cmp.Lexicographic.{slice_cmp}
use Rattle.std.specs.List.{list_any}
use Rattle.std.specs.Map.{lookup}
use Rattle.std.specs.Ordering.{nat_cmp, on, then_cmp}
use Rattle.std.specs.declared.cmp.Ordering.{Ordering}
use Rattle.trac_language.specs.Text.{Text}
use Rattle.trac_warnings.specs.Ended.{fault_warnings}
use Rattle.trac_warnings.specs.Findings.{is_noted, is_of_form, once_more, texts_of, with_text}
use Rattle.trac_warnings.specs.Misspelled.{misspelled_warnings}
use Rattle.trac_warnings.specs.Script.{script_warnings}
use Rattle.trac_warnings.specs.Watched.{Said}
use Rattle.trac_warnings.specs.contracts.origin.OriginOrd.TheImpl as origin
use Rattle.trac_warnings.specs.contracts.warning.SuspicionOrd.TheImpl as suspicion
use Rattle.trac_warnings.specs.declared.findings.Findings.{Findings}
use Rattle.trac_warnings.specs.declared.watch.Watch.{Watch}
use Rattle.trac_checker.specs.Warned.{Found, found_of}

-- the order of what warnings say: by their places, then by what is suspicious, then by the number of characters
-- and by the text
abbrev pub said_cmp : Said → Said → Ordering
said_cmp = then_cmp (on (λ s. s.origin) (origin.ghosts).cmp) (then_cmp (on (λ s. s.suspicion) (suspicion.ghosts).cmp)
    (then_cmp (on (λ s. s.count) nat_cmp) (on (λ s. s.text) (slice_cmp nat_cmp))))

-- what was found, in the order of what is said; and the names of the forms that got a warning of which each form gets
-- one
pub record FoundSoFar : Type 0 where
  pub counts : Found
  pub reported : List Text

-- nothing was found yet
abbrev pub nothing_found : FoundSoFar
nothing_found = record { counts = []; reported = [] }

-- whether `s` is of those of which each form gets one, and its form got one before
abbrev pub is_said_again : Said → List Text → Bool
is_said_again s reported = is_of_form s.suspicion && list_any (is_at (slice_cmp nat_cmp s.text)) reported

-- the counts with `s` once more, unless its form got one before
abbrev pub counts_with : (is_again : Bool) → Said → Found → Found
counts_with true s counts = counts
counts_with false s counts = insert_entry said_cmp counts s (once_more (lookup (is_at (said_cmp s)) counts))

-- the names of the forms that got such a warning, and those that no function has, with `name` if it is noted
abbrev pub reported_with : (is_noted : Bool) → Text → List Text → List Text
reported_with true name reported = with_text name reported
reported_with false name reported = reported

-- what was found, with what a warning says
abbrev pub with_said : Said → FoundSoFar → FoundSoFar
with_said s old = record {
  counts = counts_with (is_said_again s old.reported) s old.counts;
  reported = reported_with (is_noted s.suspicion) s.text old.reported;
}

-- what was found, with what each of several warnings says, one after another
abbrev pub with_all : List Said → FoundSoFar → FoundSoFar
with_all [] old = old
with_all (s ∷ more) old = with_all more (with_said s old)

-- what was found in how a script is written
abbrev pub found_in_script : Text → FoundSoFar
found_in_script script = with_all (script_warnings script) nothing_found

-- what was found in a run of a script, with the names in the script that are nearly those of functions, and that no
-- call had that was performed
abbrev pub with_names : Text → FoundSoFar → FoundSoFar
with_names script old = with_all (misspelled_warnings script) old

-- what was found in a run, with what is told of the fault that ended it, if one did; `watch` saw the whole run
abbrev pub with_fault : {A : Type 0} → (is_fault : Bool) → Text → Watch A → FoundSoFar → FoundSoFar
with_fault true script watch old = with_all (fault_warnings script watch) old
with_fault false script watch old = old

-- what was found, as `findings` holds it
abbrev pub found_in : {A : Type 0} → Findings A → FoundSoFar
found_in findings = record { counts = found_of findings.counts.entries; reported = texts_of findings.reported }
