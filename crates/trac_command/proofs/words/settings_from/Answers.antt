use Rattle.std.proofs.Common.{◌≡◌, ◌∙◌, ◌&&◌, ap, ap₂, sym, subst, refl, map, true, false, string_bytes, Result, Ok, Err, IsErrAnd, codes, arith, ⊎_elim, Some, Option}
use Rattle.std.specs.Prelude.{option_map}
use Rattle.std.specs.Option.{option_map_or}
use Rattle.std.specs.Result.{MatchResult}
use Rattle.std.specs.Str.{bytes_eq}
use Rattle.std.specs.Str.Parse.{ExplainsUnsignedError, HasUnsignedDigitsIfOk, ParsesUnsigned}
use Rattle.std.proofs.lemmas.Bool.{and_parts, cases_Bool}
use Rattle.clap.specs.Words.{HasKind, Text, fault_of, found_of, matches_of, one_text, takes}
use Rattle.clap.specs.Walk.{one_of}
use Rattle.clap.specs.Simple.{is_simple}
use Rattle.clap.specs.declared.builder.value_parser.ValueParser.TheVariants as parser
use Rattle.clap.specs.declared.error.Error.{Error}
use Rattle.clap.specs.Faults.{is_simple_and_free}
use Rattle.clap.proofs.WalkLemmas.{one_text-rows}
use Rattle.trac_command.specs.CommandLine.{cells_option, command_of, number, report_flag, steps_option}
use Rattle.trac_command.proofs.Commands.{built_cells, built_steps, number_default, report_at, report_default, says}
use Rattle.trac_command.proofs.PlaceReads.{IsRead, flag_read, option_text, signed_read, unsigned_read}
use Rattle.trac_command.proofs.words.settings_from.Goals.{After-get_one, After-get_one-2, After-has_report-report}
use Rattle.trac_command.proofs.words.settings_from.Goals as goal

-- an error that `?` passed on
err_as : {T : Type 0} (r : Result T Error) (e : Error) (P : T → Type 0) (Q : Error → Type 0) → IsErrAnd r (λ x. x ≡ e) → Q e → MatchResult r P Q
err_as (Err x) e P Q same q = subst Q (sym same) q
err_as (Ok v) e P Q same q = absurd same

pub returns-in_err-matches-clause-passes : goal.returns-in_err-matches-clause-passes
returns-in_err-matches-clause-passes c =
    let words_are = ap (map string_bytes) c.as_slice.ensures.value in
    err_as c.from_residual-in_err-matches.result c.in_err-matches.field-0.0 _ _ c.from_residual-in_err-matches.ensures.1
    (λ t. c.in_err-matches.ensures.passes (ap₂ takes c.in_ok-command.ensures words_are ∙ t))

pub returns-in_err-matches-clause-kinds : goal.returns-in_err-matches-clause-kinds
returns-in_err-matches-clause-kinds c =
    let is = c.in_ok-command.ensures in
    let free = ap is_simple_and_free is ∙ (says c.args.name.now c.args.default_steps.now c.args.reports).free in
    let same = ap₂ fault_of is (ap (map string_bytes) c.as_slice.ensures.value) in
    err_as c.from_residual-in_err-matches.result c.in_err-matches.field-0.0 _ _ c.from_residual-in_err-matches.ensures.1
    (subst (λ ks. HasKind ks c.in_err-matches.field-0.0) same (c.in_err-matches.ensures.kinds free))

-- what `get_one` gives of `--cells`: the number of its text, in the range
cells : (c : After-get_one) → IsRead 1 16777216 (one_text (found_of c.in_ok-matches.matches) (codes "cells")) c.get_one.result
unfolding cells_option
cells c =
    let says = says c.args.name.now c.args.default_steps.now c.args.reports in
    signed_read c.in_ok-command.command c.in_ok-matches.matches c.in_ok-matches.ensures.parsed _ c.in_ok-command.ensures says.plain 0 (codes "cells") (codes "65536") 1 16777216
    says.cells_own _ (λ bs x. ParsesUnsigned 32 10 bs x × ExplainsUnsignedError 10 bs x × HasUnsignedDigitsIfOk bs x) c.get_one.result c.get_one.ensures.value says.cells_at (λ u x g. g.0) (omega arith)

-- what `get_one` gives of `--steps`: the number of its text, in the range
steps : (c : After-get_one-2) → IsRead 1 1000000000000 (one_text (found_of c.in_ok-matches.matches) (codes "steps")) c.get_one-2.result
unfolding steps_option
steps c =
    let says = says c.args.name.now c.args.default_steps.now c.args.reports in
    unsigned_read c.in_ok-command.command c.in_ok-matches.matches c.in_ok-matches.ensures.parsed _ c.in_ok-command.ensures says.plain 1 (codes "steps") c.args.default_steps.now 1 1000000000000
    says.steps_own _ (λ bs x. ParsesUnsigned 64 10 bs x × ExplainsUnsignedError 10 bs x × HasUnsignedDigitsIfOk bs x) c.get_one-2.result c.get_one-2.ensures.value says.steps_at (λ u x g. g.0)

-- what `get_flag` gives of `--report`, if the command has that flag
report : (c : After-has_report-report)
    → (c.args.reports && option_map_or (λ t. bytes_eq t (codes "true")) (one_text (found_of c.in_ok-matches.matches) (codes "report")) false) ≡ c.has_report-report.result
unfolding report_flag
report c =
    let h = c.has_report-report.ensures in
    let says = says c.args.name.now c.args.default_steps.now c.args.reports in
    let passed = λ (on : c.args.reports ≡ true) (u : Text) (e : one_text (found_of c.in_ok-matches.matches) (codes "report") ≡ Some u).
    let got = option_text c.in_ok-command.command c.in_ok-matches.matches c.in_ok-matches.ensures.parsed _ c.in_ok-command.ensures says.plain 2 report_flag
    (report_at _ _ c.args.reports on).0 (report_at _ _ c.args.reports on).1 parser.Bool refl u e in
    rw (← got.1) at got.2 in
    ⊎_elim (λ on. rw on (flag_read _ _ (passed on) h.none (h.value on) h.other)) (λ off. rw off (sym (h.off off))) (cases_Bool c.args.reports)

-- the texts are those of the exact matches
exact : (c : After-has_report-report) (id : Text) → one_text (found_of c.in_ok-matches.matches) id
    ≡ one_of id (matches_of (command_of c.args.name.now c.args.default_steps.now c.args.reports) (map string_bytes c.args.words.items))
exact c id =
    let is = c.in_ok-command.ensures in
    let simple = ap is_simple is ∙ (and_parts _ _ (says c.args.name.now c.args.default_steps.now c.args.reports).free).0 in
    one_text-rows (found_of c.in_ok-matches.matches) id
    ∙ ap (one_of id) ((c.in_ok-matches.ensures.matches simple).0 ∙ ap₂ matches_of is (ap (map string_bytes) c.as_slice.ensures.value))

pub unwrap-cells-requires : goal.unwrap-cells-requires
unwrap-cells-requires c = (cells (goal.at.unwrap-cells-requires c).After-get_one).some

pub unwrap-steps-requires : goal.unwrap-steps-requires
unwrap-steps-requires c = (steps (goal.at.unwrap-steps-requires c).After-get_one-2).some

pub invariant_of-result : goal.invariant_of-result
invariant_of-result c =
    let at = goal.at.invariant_of-result c in
    let cells = cells at.After-get_one in
    let steps = steps at.After-get_one-2 in
    let n = c.unwrap-cells.ensures in
    let m = c.unwrap-steps.ensures in
    record { ranges = (cells.least _ n, cells.most _ n, steps.least _ m, steps.most _ m) }

pub returns : goal.returns
returns c =
    let at = goal.at.returns c in
    let is = c.in_ok-command.ensures in
    let text = exact at.After-has_report-report in
    let n_cells = sym (ap (option_map number) (text (codes "cells"))) ∙ (cells at.After-get_one).value _ c.unwrap-cells.ensures in
    let n_steps = sym (ap (option_map number) (text (codes "steps"))) ∙ (steps at.After-get_one-2).value _ c.unwrap-steps.ensures in
    let flag = sym (ap (λ (o : Option Text). c.args.reports && option_map_or (λ t. bytes_eq t (codes "true")) o false) (text (codes "report"))) ∙ report at.After-has_report-report in
    let free = ap is_simple_and_free is ∙ (says c.args.name.now c.args.default_steps.now c.args.reports).free in
    record {
      taken = (n_cells, n_steps, flag);
      defaults = (
        number_default _ _ 0 (codes "cells") (codes "65536") (built_cells _ _ c.args.reports) _ n_cells,
        number_default _ _ 1 (codes "steps") _ (built_steps _ _ c.args.reports) _ n_steps,
        report_default _ _ c.args.reports _ _ flag,
      );
      passes = tt;
      kinds = ap₂ fault_of (sym is) (sym (ap (map string_bytes) c.as_slice.ensures.value)) ∙ c.in_ok-matches.ensures.kinds free;
    }
