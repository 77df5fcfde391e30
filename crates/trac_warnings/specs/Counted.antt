-- How often the forms of each name were called.
use Rattle.std.specs.Prelude.{ℕ, List, map, Option, None, Some, unwrap_or}
use Rattle.std.specs.BTreeMap.{insert_entry, is_at}
use Rattle.std.specs.Cmp.Lexicographic.{slice_cmp}
use Rattle.std.specs.Map.{lookup}
use Rattle.std.specs.Ordering.{nat_cmp}
use Rattle.std.specs.declared.vec.Vec.{Vec}
use Rattle.trac_language.specs.Text.{Text}
use Rattle.trac_language.specs.declared.function.Function.{Function}
use Rattle.trac_language.specs.declared.function.Function.TheVariants.{CallForm, DefineString}
use Rattle.trac_space.specs.Texts.{text_of_cells}
use Rattle.trac_core.specs.declared.rules.ScanningRule.{ScanningRule}
use Rattle.trac_core.specs.declared.rules.ScanningRule.TheVariants as row
use Rattle.trac_events.specs.Calls.{argument_of}
use Rattle.trac_warnings.specs.Origins.{more}
use Rattle.trac_warnings.specs.Performed.{function_of}
use Rattle.trac_warnings.specs.declared.watch.Watch.{Watch}
use Rattle.trac_warnings.specs.declared.watch.DefinitionSite.{DefinitionSite}

-- names of forms that were defined, in order, each with how often `cl` called a form of the name
abbrev pub Counts : Type 0
Counts = List (Text × ℕ)

-- the names of the forms that were defined, with the numbers of their calls
abbrev pub counts_of : {A : Type 0} → List (Vec ℕ A × DefinitionSite) → Counts
counts_of written = map (λ entry. (entry.0.items, entry.1.calls)) written

-- how often forms of a name were called; none, if no form of the name was defined
abbrev pub calls_of : Text → Counts → Option ℕ
calls_of name counts = lookup (is_at (slice_cmp nat_cmp name)) counts

-- the counts where forms of a name were called `calls` times
abbrev pub with_calls : Text → ℕ → Counts → Counts
with_calls name calls counts = insert_entry (slice_cmp nat_cmp) counts name calls

-- the counts with one more call of a form of a name that was called so often, if a form of the name was defined
abbrev pub with_call : Option ℕ → Text → Counts → Counts
with_call None name counts = counts
with_call (Some calls) name counts = with_calls name (more calls 1) counts

-- the counts with a form of a name, whose earlier calls stay counted
abbrev pub with_form : Text → Counts → Counts
with_form name counts = with_calls name (unwrap_or (calls_of name counts) 0) counts

-- the counts after a call of a function, whose first argument is `name`
abbrev pub counted : Option Function → Text → Counts → Counts
counted (Some DefineString) name counts = with_form name counts
counted (Some CallForm) name counts = with_call (calls_of name counts) name counts
counted _ name counts = counts

-- the counts after the call that a step performs
abbrev pub counts_behind_call : {A : Type 0} → Watch A → Counts
counts_behind_call watch =
    counted (function_of watch.arguments.items) (text_of_cells (argument_of watch.arguments.items 1))
    (counts_of watch.written.entries)

-- the counts after a step by a rule
abbrev pub counts_behind : {A : Type 0} → ScanningRule → Watch A → Counts
counts_behind row.EndOfCall watch = counts_behind_call watch
counts_behind _ watch = counts_of watch.written.entries
