-- The lines of warnings.
use Rattle.std.specs.Prelude.{ℕ, ◌+◌, ◌^◌, ◌-◌, ◌==◌, List, [], ◌++◌, Option, Some, None, codes}
use Rattle.std.specs.Prelude.{Bool, decimal, filter, map, min, not, slice_get, take, ◌∷◌}
use Rattle.std.specs.List.{flat_map}
use Rattle.std.specs.declared.vec.Vec.{Vec}
use Rattle.std.specs.Prelude.{nat_lt, if◌then◌else◌}
use Rattle.trac_events.specs.declared.place.Place.{Place}
use Rattle.trac_events.specs.Places.{behind_text, first_place}
use Rattle.trac_warnings.specs.declared.origin.Origin.{Origin}
use Rattle.trac_warnings.specs.declared.causes.Causes.{Causes}
use Rattle.trac_warnings.specs.declared.warning.Suspicion.{Suspicion}
use Rattle.trac_warnings.specs.declared.warning.Suspicion.TheVariants.{EndedCalling}
use Rattle.trac_warnings.specs.declared.warning.Warning.{Warning}
use Rattle.trac_warnings.specs.Explained.{is_explained, no_cause, with_cause}
use Rattle.trac_warnings.specs.Suspicions.{sentence_of}
use Rattle.trac_warnings.specs.Watched.{Said, said}
use Rattle.trac_language.specs.Text.{Text}
use Rattle.trac_language.specs.declared.report.Report.{Report}
use Rattle.trac_views.specs.Lines.{end_text}
use Rattle.trac_views.specs.Shown.{shown_text}
use Rattle.trac_views.specs.CallLines.{is_fault, place_text}

-- a column, from 0, of the value of a form of this name
abbrev pub column_of_value : ℕ → List ℕ → List ℕ
column_of_value column form =
    codes "in the value of " ++ shown_text form ++ codes ", column "
    ++ decimal (min (column + 1) (2 ^ 64 - 1)) ++ codes ": "

-- the words for a place in the value of a form; null for a warning on the input itself
abbrev pub value_in : Option ℕ → ℕ → List ℕ → List ℕ
value_in None column form = []
value_in (Some number) column form = column_of_value column form

-- the words for the place in the value of a form at which an origin is; null for an origin in the input
abbrev pub value_text : Origin → List ℕ → List ℕ
value_text origin form = value_in origin.form origin.column form

-- the words of a number, by what it counts: calls of a form, or characters
abbrev pub number_text : Suspicion → ℕ → List ℕ
number_text EndedCalling count = codes " was called " ++ decimal count ++ codes " times"
number_text _ count = decimal count

-- the words of the number of what a warning counts; null where it counts nothing
abbrev pub count_text : Suspicion → ℕ → List ℕ
count_text suspicion count = if count == 0 then [] else number_text suspicion count

-- how often a warning was given; null where that was once
abbrev pub times_text : ℕ → List ℕ
times_text times =
    if nat_lt times 2 then [] else (codes " (" ++ decimal times ++ codes " times)")

-- the words of a warning: the sentence, the name or the text, and the number of what it counts
abbrev pub said_text : Said → List ℕ
said_text s = sentence_of s.suspicion ++ shown_text s.text ++ count_text s.suspicion s.count

-- the line of a warning
abbrev pub warning_text : Said → Place → List ℕ → ℕ → List ℕ
warning_text s place form times =
    place_text place ++ codes ": " ++ value_text s.origin form ++ said_text s
    ++ times_text times ++ codes "\n"

-- a name, null where there is none
abbrev pub name_in : Option Text → Text
name_in None = []
name_in (Some name) = name

-- the name of the form in whose value a warning is
abbrev pub form_named : List Text → Option ℕ → Text
form_named names None = []
form_named names (Some number) = name_in (slice_get names number)

-- the line behind `head` of a warning and of how often it was given, with its place in `input`
abbrev pub warning_line : List ℕ → List ℕ → List Text → Said × ℕ → List ℕ
warning_line head input names found =
    head ++ warning_text found.0 (behind_text first_place (take found.0.origin.offset input))
    (form_named names found.0.origin.form) found.1

-- what warnings say, and how often each was given
abbrev pub found_of : {A : Type 0} → List (Warning A × ℕ) → List (Said × ℕ)
found_of counts = map (λ counted. (said counted.0, counted.1)) counts

-- the characters of names
abbrev pub names_of : {A : Type 0} → List (Vec ℕ A) → List Text
names_of names = map (λ name. name.items) names

-- the line on how a run ended
abbrev pub ended : Report → List ℕ
ended report = end_text report.fate report.steps report.peak

-- the line on how a run ended, if it ended by a fault; else null
abbrev pub fault_end : Bool → Report → List ℕ
fault_end is_fault report = if is_fault then ended report else []

-- the line on the file `name`: that it has `count` warnings, and how its run ended
abbrev pub summary_text : List ℕ → ℕ → Report → List ℕ
summary_text name count report =
    name ++ codes ": warnings " ++ decimal count ++ codes "; " ++ ended report

-- what warnings on a script say, each with how often it was given
abbrev pub Found : Type 0
Found = List (Said × ℕ)

-- the causes with those of which something was found
abbrev pub causes_with : Causes → Found → Causes
causes_with causes [] = causes
causes_with causes (f ∷ found) = causes_with (with_cause f.0.suspicion causes) found

-- what is told of what was found: all but what another warning explains
abbrev pub unexplained_by : Causes → Found → Found
unexplained_by causes found = filter (λ f. not (is_explained causes f.0)) found

-- what is told of what was found, at most one line for one cause
abbrev pub unexplained : Found → Found
unexplained found = unexplained_by (causes_with no_cause found) found

-- the lines on what was found in `script`, with the `names` of its forms, and the line on a fault, if there was one
abbrev pub lines_of : Text → List Text → Found → Report → Text
lines_of script names found report =
    flat_map (warning_line [] script names) (unexplained found) ++ fault_end (is_fault report.fate) report
