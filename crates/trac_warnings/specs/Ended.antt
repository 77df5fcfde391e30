-- What is told of a run that a fault ended.
use Rattle.std.specs.Prelude.{ℕ, ◌-◌, List, [], ◌∷◌, ◌++◌, drop, length, map, min, Option, None, Some}
use Rattle.std.specs.Prelude.{nat_lt, if◌then◌else◌}
use Rattle.trac_language.specs.Text.{Text}
use Rattle.trac_warnings.specs.Counted.{Counts, counts_of}
use Rattle.trac_warnings.specs.Looked.{place_of}
use Rattle.trac_warnings.specs.Origins.{in_input, more}
use Rattle.trac_warnings.specs.Performed.{of_text}
use Rattle.trac_warnings.specs.Strings.{layout_len}
use Rattle.trac_warnings.specs.StepWarnings.{open_warnings}
use Rattle.trac_warnings.specs.Watched.{Said}
use Rattle.trac_warnings.specs.declared.origin.Origin.{Origin}
use Rattle.trac_warnings.specs.declared.warning.Suspicion.TheVariants.{EndedCalling, OpenAtEnd, RunEnded}
use Rattle.trac_warnings.specs.declared.watch.OpenString.{OpenString}
use Rattle.trac_warnings.specs.declared.watch.faults.Called.{Called}
use Rattle.trac_warnings.specs.declared.watch.Watch.{Watch}

-- the name of a form, and how often it was called
abbrev pub seen : Called → Text × ℕ
seen form = (form.name.now, form.calls)

-- of two forms the one that was called more often, if it was called 100 times or more; `form` is the later one
abbrev pub busier : Option (Text × ℕ) → Text × ℕ → Option (Text × ℕ)
busier None form = if nat_lt form.1 100 then None else Some form
busier (Some best) form = if nat_lt best.1 form.1 then Some form else Some best

-- the form that was called most often, of `best` and of those that follow: the first, if several are
abbrev pub busiest : Option (Text × ℕ) → Counts → Option (Text × ℕ)
busiest best [] = best
busiest best (form ∷ forms) = busiest (busier best form) forms

-- where the next string begins, if the input was read up to a place
abbrev pub next_string : List ℕ → ℕ → Origin
next_string input read = in_input (more read (layout_len (drop (min read (length input)) input)))

-- where a run is: where the first character of the active string was written; where the next string begins, if none
-- is scanned
abbrev pub end_place : {A : Type 0} → List OpenString → Watch A → List ℕ → Origin
end_place [] watch input = next_string input watch.read
end_place (string ∷ strings) watch input = place_of watch

-- where the open calls of the script were written: those that were begun in the first of the strings that are scanned,
-- or later
abbrev pub script_calls : List OpenString → List Origin → List Origin
script_calls [] calls = []
script_calls (string ∷ strings) calls = drop string.depth calls

-- the last three, or all if there are fewer
abbrev pub innermost : List Origin → List Origin
innermost calls = drop (length calls - 3) calls

-- what is said of the place where a run ended, by the form that was called most often
abbrev pub end_said : Option (Text × ℕ) → Origin → Said
end_said None place = of_text RunEnded place []
end_said (Some form) place =
    record { origin = place; suspicion = EndedCalling; count = form.1; text = form.0 }

-- the warnings of a fault: of the place where the run ended, and of the three innermost open calls
abbrev pub fault_warnings : {A : Type 0} → List ℕ → Watch A → List Said
fault_warnings input watch =
    end_said (busiest None (counts_of watch.written.entries)) (end_place watch.strings.items watch input)
    ∷ open_warnings OpenAtEnd (innermost (script_calls watch.strings.items watch.calls.items))
