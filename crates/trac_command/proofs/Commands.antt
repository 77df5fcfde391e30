-- The commands of the programs: what their rules say.
use Rattle.std.proofs.Common.{zero, suc, ◌≡◌, ◌∙◌, ◌++◌, ◌∷◌, [], ◌&&◌, ap, sym, refl, ℕ, Bool, true, false, not, cond, List, Option, Some, codes}
use Rattle.std.specs.Prelude.{find, fold, map, option_and_then, option_map, slice_get}
use Rattle.std.specs.List.{list_all}
use Rattle.std.specs.Option.{option_map_or}
use Rattle.std.specs.Str.{bytes_eq}
use Rattle.std.proofs.lemmas.Bool.{and_parts, not-true, or_parts}
use Rattle.std.proofs.lemmas.List.Folds.{list_any-append}
use Rattle.std.proofs.lemmas.Slice.Eq.{bytes_eq-Decides}
use Rattle.std.proofs.Math.Bool.{or-false}
use Rattle.clap.specs.Faults.{is_simple_and_free}
use Rattle.clap.specs.Simple.{App, built, filled, matches_of, with_index}
use Rattle.clap.specs.Values.{read_as}
use Rattle.clap.specs.Walk.{Row, Rule, Text, at_row, default_rows, has_row, one_of, reading_by, row_text, with_default}
use Rattle.clap.proofs.OnLiterals.{clap_on_literals}
use Rattle.trac_command.specs.CommandLine.{cells_option, command_of, gives, given_rows, has_flag, number, number_of, numbers_command, report_flag, steps_option}
use Rattle.trac_command.proofs.PlaceReads.{is_own_name, is_plain_app, only_at}

-- ---- what a default adds to the rows of the words

-- where no row has the id, the new one comes last
at_row_absent : (id : Text) (change : Row → List Row) (missing rows : List Row) → has_row id rows ≡ false → at_row id change missing rows ≡ rows ++ missing
at_row_absent id change missing [] none = refl
at_row_absent id change missing (r ∷ rs) none =
    let parts = or_parts (bytes_eq r.id id) (has_row id rs) none in
    rw parts.0 (ap (λ l. r ∷ l) (at_row_absent id change missing rs parts.1))

find_other : (id : Text) (rows : List Row) (x : Row) → bytes_eq x.id id ≡ false → find (λ r. bytes_eq r.id id) (rows ++ x ∷ []) ≡ find (λ r. bytes_eq r.id id) rows
find_other id [] x other = rw other refl
find_other id (r ∷ rs) x other = ap (cond (bytes_eq r.id id) (Some r)) (find_other id rs x other)

find_own : (id : Text) (rows : List Row) (x : Row) → has_row id rows ≡ false → bytes_eq x.id id ≡ true → find (λ r. bytes_eq r.id id) (rows ++ x ∷ []) ≡ Some x
find_own id [] x none own = rw own refl
find_own id (r ∷ rs) x none own =
    let parts = or_parts (bytes_eq r.id id) (has_row id rs) none in
    rw parts.0 (find_own id rs x parts.1 own)

-- what no row of the argument's id changes, its default doesn't change
unchanged : {X : Type 0} (f : List Row → X) (rows : List Row) (a : Rule) → ((x : Row) → x.id ≡ a.id → f (rows ++ x ∷ []) ≡ f rows) → f (with_default rows a) ≡ f rows
unchanged f rows a other = go (has_row a.id rows) refl a.defaults
  where
    go : (b : Bool) → has_row a.id rows ≡ b → (vs : List Text) → f (cond b rows (default_rows a.id (reading_by a) vs rows)) ≡ f rows
    go true e vs = refl
    go false e [] = refl
    go false e (v ∷ vs) = rw at_row_absent (other _ refl)

-- defaults of other arguments change nothing for the id
one_of_others : (id : Text) (rules : List Rule) (rows : List Row) → list_all (λ u. not (bytes_eq u id)) (map (λ (r : Rule). r.id) rules) ≡ true
    → one_of id (fold with_default rows rules) ≡ one_of id rows
one_of_others id [] rows others = refl
one_of_others id (r ∷ rs) rows others =
    let parts = and_parts _ _ others in
    one_of_others id rs (with_default rows r) parts.1
    ∙ unchanged (one_of id) rows r (λ x e. ap (option_and_then row_text) (find_other id rows x (rw e (not-true _ parts.0))))

-- where the words gave the argument nothing, its default is what it gets
default_at : (rules : List Rule) (rows : List Row) (k : ℕ) (r : Rule) (v : Text) → slice_get rules k ≡ Some r
    → only_at r.id k (map (λ (s : Rule). s.id) rules) ≡ true → r.defaults ≡ v ∷ [] → has_row r.id rows ≡ false
    → one_of r.id (fold with_default rows rules) ≡ Some (read_as (reading_by r) v)
default_at [] rows k r v at only is none = cc
default_at (s ∷ rs) rows zero r v at only is none =
    let same : s ≡ r = cc in
    one_of_others r.id rs (with_default rows s) only ∙ ap (λ (t : Rule). one_of r.id (with_default rows t)) same
    ∙ rw (none, is, at_row_absent) (ap (option_and_then row_text) (find_own r.id rows _ none ((bytes_eq-Decides r.id r.id).1 refl)))
default_at (s ∷ rs) rows (suc k) r v at only is none =
    let parts = and_parts _ _ only in
    let other = not-true _ parts.0 in
    let same = unchanged (has_row r.id) rows s (λ x e. let off : bytes_eq x.id r.id ≡ false = rw e other in list_any-append (λ y. bytes_eq y.id r.id) rows (x ∷ []) ∙ rw off (or-false _)) in
    default_at rs (with_default rows s) k r v at parts.1 is (same ∙ none)

-- ---- what a built command has

pub same_number : (m n : ℕ) (o : Option ℕ) → o ≡ Some m → o ≡ Some n → n ≡ m
same_number m n o e f = cc

-- the built command's rule at the place has the name and this one default, which is read as it stands
pub record HasDefaultAt (app : App) (k : ℕ) (name v : Text) : Type 0 where
  pub rule : Rule
  pub at : slice_get (built app).top.rules k ≡ Some rule
  pub id : rule.id ≡ name
  pub only : only_at name k (map (λ (r : Rule). r.id) (built app).top.rules) ≡ true
  pub default : rule.defaults ≡ v ∷ []
  pub as_read : read_as (reading_by rule) v ≡ v

-- where the words give the name nothing, its default is its text
pub default_text : (app : App) (words : List Text) (k : ℕ) (name v : Text) → HasDefaultAt app k name v → gives app words name ≡ false
    → one_of name (matches_of app words) ≡ Some v
default_text app words k name v has none =
    rw (← has.id) (default_at (built app).top.rules (given_rows app words) k has.rule v has.at (rw (← has.id) at has.only) has.default (rw (← has.id) at none)
    ∙ ap Some has.as_read)

-- what the rules of a command with `--cells` and `--steps` say
pub record HasNumbers (app : App) (steps : Text) : Type 0 where
  pub free : is_simple_and_free app ≡ true
  pub plain : is_plain_app app ≡ true
  pub cells_at : slice_get app.top.rules 0 ≡ Some cells_option
  pub steps_at : slice_get app.top.rules 1 ≡ Some (steps_option steps)
  pub cells_own : is_own_name (codes "cells") 0 app.top.rules ≡ true
  pub steps_own : is_own_name (codes "steps") 1 app.top.rules ≡ true

-- where the words give an option nothing, its number is its default's
pub number_default : (app : App) (words : List Text) (k : ℕ) (name v : Text) → HasDefaultAt app k name v
    → (n : ℕ) → number_of name (matches_of app words) ≡ Some n → gives app words name ≡ false → n ≡ number v
number_default app words k name v has n e none = same_number (number v) n _ (ap (option_map number) (default_text app words k name v has none)) e

module _ (name steps : Text) where
  pub says : (reports : Bool) → HasNumbers (command_of name steps reports) steps
  unfolding clap_on_literals command_of numbers_command cells_option steps_option report_flag
  says true = record { free = refl; plain = refl; cells_at = refl; steps_at = refl; cells_own = refl; steps_own = refl }
  says false = record { free = refl; plain = refl; cells_at = refl; steps_at = refl; cells_own = refl; steps_own = refl }

  pub report_at : (reports : Bool) → reports ≡ true → (slice_get (command_of name steps reports).top.rules 2 ≡ Some report_flag)
      × (is_own_name (codes "report") 2 (command_of name steps reports).top.rules ≡ true)
  unfolding command_of numbers_command cells_option steps_option report_flag
  report_at true has_it = (refl, refl)
  report_at false has_it = absurd cc

  -- the defaults that the built command has for what the words don't give
  pub built_cells : (reports : Bool) → HasDefaultAt (command_of name steps reports) 0 (codes "cells") (codes "65536")
  unfolding clap_on_literals command_of numbers_command cells_option steps_option report_flag
  built_cells true = record { rule = with_index 1 (filled cells_option); at = refl; id = refl; only = refl; default = refl; as_read = refl }
  built_cells false = record { rule = with_index 1 (filled cells_option); at = refl; id = refl; only = refl; default = refl; as_read = refl }

  pub built_steps : (reports : Bool) → HasDefaultAt (command_of name steps reports) 1 (codes "steps") steps
  unfolding clap_on_literals command_of numbers_command cells_option steps_option report_flag
  built_steps true = record { rule = with_index 1 (filled (steps_option steps)); at = refl; id = refl; only = refl; default = refl; as_read = refl }
  built_steps false = record { rule = with_index 1 (filled (steps_option steps)); at = refl; id = refl; only = refl; default = refl; as_read = refl }

  built_report : HasDefaultAt (command_of name steps true) 2 (codes "report") (codes "false")
  unfolding clap_on_literals command_of numbers_command cells_option steps_option report_flag
  built_report = record { rule = with_index 1 (filled report_flag); at = refl; id = refl; only = refl; default = refl; as_read = refl }

  pub report_default : (reports : Bool) (words : List Text) (flag : Bool) → (reports && has_flag (codes "report") (matches_of (command_of name steps reports) words)) ≡ flag
      → gives (command_of name steps reports) words (codes "report") ≡ false → flag ≡ false
  report_default true words flag e none =
      sym e ∙ ap (λ (o : Option Text). option_map_or (λ t. bytes_eq t (codes "true")) o false)
      (default_text (command_of name steps true) words 2 (codes "report") (codes "false") built_report none)
  report_default false words flag e none = sym e
