use Rattle.std.proofs.Common.{◌≡◌, ◌∙◌, ap, ap₂, sym, subst, map, true, string_bytes, Result, Ok, Err, IfErr, IsErrAnd, refl, arith}
use Rattle.clap.specs.Words.{FailsBy, HasKind, HasMatchesOf, Kinds, app_of, fault_of, takes}
use Rattle.clap.specs.declared.error.Error.{Error}
use Rattle.clap.specs.Faults.{is_simple_and_free}
use Rattle.trac_trace.specs.CommandLine.{trace_command}
use Rattle.trac_trace.proofs.Command.{calls_rule, cells_rule, flag_by_default, flag_is, forms_rule, from_rule, is_free, last_rule, long_read, number_by_default, number_is, short_read, steps_rule, to_rule, warn_rule, width_rule, columns_rule}
use Rattle.trac_trace.proofs.words.options_from.Goals as goal

-- an error that `?` passed on
err_as : {T : Type 0} (r : Result T Error) (e : Error) (Q : Error → Type 0) → IsErrAnd r (λ x. x ≡ e) → Q e → IfErr r Q
err_as (Err x) e Q same q = subst Q (sym same) q
err_as (Ok v) e Q same q = absurd same

fails_as : {T : Type 0} (r : Result T Error) (e : Error) (ks : Kinds) → IsErrAnd r (λ x. x ≡ e) → HasKind ks e → FailsBy ks r
fails_as (Err x) e ks same has = subst (HasKind ks) (sym same) has
fails_as (Ok v) e ks same has = absurd same

pub returns-in_err-matches-clause-passes : goal.returns-in_err-matches-clause-passes
returns-in_err-matches-clause-passes c =
    let words_are = ap (map string_bytes) c.as_slice.ensures.value in
    err_as c.from_residual-in_err-matches.result c.in_err-matches.field-0.0 _ c.from_residual-in_err-matches.ensures.1
    (λ t. c.in_err-matches.ensures.passes (ap₂ takes c.in_ok-command.ensures words_are ∙ t))

pub returns-in_err-matches-clause-kinds : goal.returns-in_err-matches-clause-kinds
returns-in_err-matches-clause-kinds c =
    let is = c.in_ok-command.ensures in
    let words_are = ap (map string_bytes) c.as_slice.ensures.value in
    let free : is_simple_and_free (app_of c.in_ok-command.command) ≡ true = ap is_simple_and_free is ∙ is_free in
    let kinds : fault_of (app_of c.in_ok-command.command) (map string_bytes c.as_slice.result.now) ≡ fault_of trace_command (map string_bytes c.args.words.items) =
    ap₂ fault_of is words_are in
    fails_as c.from_residual-in_err-matches.result c.in_err-matches.field-0.0 (fault_of trace_command (map string_bytes c.args.words.items))
    c.from_residual-in_err-matches.ensures.1
    (subst (λ ks. HasKind ks c.in_err-matches.field-0.0) kinds (c.in_err-matches.ensures.kinds free))

pub unwrap-cells-requires : goal.unwrap-cells-requires
unwrap-cells-requires c = (short_read c.in_ok-matches.ensures.parsed c.in_ok-command.ensures cells_rule c.get_one.result c.get_one.ensures.value (omega arith)).some

pub unwrap-steps-requires : goal.unwrap-steps-requires
unwrap-steps-requires c = (long_read c.in_ok-matches.ensures.parsed c.in_ok-command.ensures steps_rule c.get_one-2.result c.get_one-2.ensures.value).some

pub unwrap-from-requires : goal.unwrap-from-requires
unwrap-from-requires c = (long_read c.in_ok-matches.ensures.parsed c.in_ok-command.ensures from_rule c.get_one-3.result c.get_one-3.ensures.value).some

pub unwrap-to-requires : goal.unwrap-to-requires
unwrap-to-requires c = (long_read c.in_ok-matches.ensures.parsed c.in_ok-command.ensures to_rule c.get_one-4.result c.get_one-4.ensures.value).some

pub unwrap-last-requires : goal.unwrap-last-requires
unwrap-last-requires c = (long_read c.in_ok-matches.ensures.parsed c.in_ok-command.ensures last_rule c.get_one-5.result c.get_one-5.ensures.value).some

pub unwrap-width-requires : goal.unwrap-width-requires
unwrap-width-requires c = (short_read c.in_ok-matches.ensures.parsed c.in_ok-command.ensures width_rule c.get_one-6.result c.get_one-6.ensures.value (omega arith)).some

pub unwrap-columns-requires : goal.unwrap-columns-requires
unwrap-columns-requires c = (short_read c.in_ok-matches.ensures.parsed c.in_ok-command.ensures columns_rule c.get_one-7.result c.get_one-7.ensures.value (omega arith)).some

pub invariant_of-settings : goal.invariant_of-settings
invariant_of-settings c =
    let cells = short_read c.in_ok-matches.ensures.parsed c.in_ok-command.ensures cells_rule c.get_one.result c.get_one.ensures.value (omega arith) in
    let steps = long_read c.in_ok-matches.ensures.parsed c.in_ok-command.ensures steps_rule c.get_one-2.result c.get_one-2.ensures.value in
    record { ranges = (cells.least _ c.unwrap-cells.ensures, cells.most _ c.unwrap-cells.ensures, steps.least _ c.unwrap-steps.ensures, steps.most _ c.unwrap-steps.ensures) }

pub returns-clause-taken : goal.returns-clause-taken
returns-clause-taken c =
    let words_are = ap (map string_bytes) c.as_slice.ensures.value in
    let matches = subst (λ ws. HasMatchesOf (app_of c.in_ok-command.command) ws c.in_ok-matches.matches) words_are c.in_ok-matches.ensures.matches in (
      number_is c.in_ok-matches.ensures.parsed c.in_ok-command.ensures _ matches _ (short_read c.in_ok-matches.ensures.parsed c.in_ok-command.ensures cells_rule c.get_one.result c.get_one.ensures.value (omega arith)) _ c.unwrap-cells.ensures,
      number_is c.in_ok-matches.ensures.parsed c.in_ok-command.ensures _ matches _ (long_read c.in_ok-matches.ensures.parsed c.in_ok-command.ensures steps_rule c.get_one-2.result c.get_one-2.ensures.value) _ c.unwrap-steps.ensures,
      refl,
    )

pub returns-clause-views : goal.returns-clause-views
returns-clause-views c =
    let words_are = ap (map string_bytes) c.as_slice.ensures.value in
    let matches = subst (λ ws. HasMatchesOf (app_of c.in_ok-command.command) ws c.in_ok-matches.matches) words_are c.in_ok-matches.ensures.matches in (
      number_is c.in_ok-matches.ensures.parsed c.in_ok-command.ensures _ matches _ (long_read c.in_ok-matches.ensures.parsed c.in_ok-command.ensures from_rule c.get_one-3.result c.get_one-3.ensures.value) _ c.unwrap-from.ensures,
      number_is c.in_ok-matches.ensures.parsed c.in_ok-command.ensures _ matches _ (long_read c.in_ok-matches.ensures.parsed c.in_ok-command.ensures to_rule c.get_one-4.result c.get_one-4.ensures.value) _ c.unwrap-to.ensures,
      number_is c.in_ok-matches.ensures.parsed c.in_ok-command.ensures _ matches _ (long_read c.in_ok-matches.ensures.parsed c.in_ok-command.ensures last_rule c.get_one-5.result c.get_one-5.ensures.value) _ c.unwrap-last.ensures,
      number_is c.in_ok-matches.ensures.parsed c.in_ok-command.ensures _ matches _ (short_read c.in_ok-matches.ensures.parsed c.in_ok-command.ensures width_rule c.get_one-6.result c.get_one-6.ensures.value (omega arith)) _ c.unwrap-width.ensures,
      number_is c.in_ok-matches.ensures.parsed c.in_ok-command.ensures _ matches _ (short_read c.in_ok-matches.ensures.parsed c.in_ok-command.ensures columns_rule c.get_one-7.result c.get_one-7.ensures.value (omega arith)) _ c.unwrap-columns.ensures,
      flag_is c.in_ok-matches.ensures.parsed c.in_ok-command.ensures _ matches calls_rule _ c.get_flag.ensures.none c.get_flag.ensures.value c.get_flag.ensures.other,
      flag_is c.in_ok-matches.ensures.parsed c.in_ok-command.ensures _ matches forms_rule _ c.get_flag-2.ensures.none c.get_flag-2.ensures.value c.get_flag-2.ensures.other,
      flag_is c.in_ok-matches.ensures.parsed c.in_ok-command.ensures _ matches warn_rule _ c.get_flag-3.ensures.none c.get_flag-3.ensures.value c.get_flag-3.ensures.other,
    )

pub returns-clause-defaults : goal.returns-clause-defaults
returns-clause-defaults c =
    let words = map string_bytes c.args.words.items in
    let taken = returns-clause-taken c in
    (number_by_default cells_rule words _ taken.0, number_by_default steps_rule words _ taken.1, λ _. refl)

pub returns-clause-default_views : goal.returns-clause-default_views
returns-clause-default_views c =
    let words = map string_bytes c.args.words.items in
    let taken = returns-clause-views c in (
      number_by_default from_rule words _ taken.0,
      number_by_default to_rule words _ taken.1,
      number_by_default last_rule words _ taken.2,
      number_by_default width_rule words _ taken.3,
      number_by_default columns_rule words _ taken.4,
      λ none. sym (flag_by_default calls_rule words _ taken.5 none),
      λ none. sym (flag_by_default forms_rule words _ taken.6 none),
      λ none. sym (flag_by_default warn_rule words _ taken.7 none),
    )

pub returns-clause-kinds : goal.returns-clause-kinds
returns-clause-kinds c =
    let is = c.in_ok-command.ensures in
    let words_are = ap (map string_bytes) c.as_slice.ensures.value in
    let free = ap is_simple_and_free is ∙ is_free in
    ap₂ fault_of (sym is) (sym words_are) ∙ c.in_ok-matches.ensures.kinds free
