use Rattle.std.proofs.Common.{◌≡◌, ◌∙◌, ap, ap₂, codes, subst}
use mathlib.Core.Path.{transport}
use Rattle.std.specs.Prelude.{pos, ℤ, Some}
use Rattle.std.proofs.lemmas.Result.{IfOk-weaker}
use Rattle.clap.specs.Simple.{app_of_fields}
use Rattle.clap.specs.Words.{NarrowsTo, rule_of, with_rule}
use Rattle.clap.specs.declared.builder.arg.Arg.{Arg}
use Rattle.clap.specs.declared.builder.value_parser.ValueParser.{ValueParser}
use Rattle.clap.specs.declared.builder.value_parser.ValueParser.TheVariants as parser
use Rattle.trac_command.specs.CommandLine.{number_option}
use Rattle.trac_trace.specs.CommandLine.{calls_flag, forms_flag, from_option, last_option, to_option, views_command, warn_flag, width_option, columns_option}
use Rattle.trac_trace.proofs.words.command.Goals as goal

pub returns : goal.returns
unfolding views_command from_option to_option last_option width_option columns_option calls_flag forms_flag warn_flag
returns c =
    let from_parser : c.range-from.result ≡ parser.Unsigned 1 1000000000000 =
    transport (λ i. NarrowsTo (c.value_parser.ensures i) (Some (c.new.ensures.start i)) (Some (c.new.ensures.end i)) c.range-from.result) c.range-from.ensures in
    let to_parser : c.range-to.result ≡ parser.Unsigned 1 1000000000000 =
    transport (λ i. NarrowsTo (c.value_parser-2.ensures i) (Some (c.new-2.ensures.start i)) (Some (c.new-2.ensures.end i)) c.range-to.result) c.range-to.ensures in
    let last_parser : c.range-last.result ≡ parser.Unsigned 0 1000000 =
    transport (λ i. NarrowsTo (c.value_parser-3.ensures i) (Some (c.new-3.ensures.start i)) (Some (c.new-3.ensures.end i)) c.range-last.result) c.range-last.ensures in
    let width_parser : c.range-width.result ≡ parser.Signed (pos 0) (pos 16777216) =
    rw (c.value_parser-4.ensures, c.new-4.ensures.start, c.new-4.ensures.end) at c.range-width.ensures in
    let columns_parser : c.range-columns.result ≡ parser.Signed (pos 0) (pos 16777216) =
    rw (c.value_parser-5.ensures, c.new-5.ensures.start, c.new-5.ensures.end) at c.range-columns.ensures in
    let from_is : rule_of c.help.result ≡ from_option =
    ap rule_of c.help.ensures ∙ c.number.ensures.rule ∙ ap (λ (p : ValueParser). number_option (codes "from") p (codes "1")) from_parser in
    let to_is : rule_of c.help-2.result ≡ to_option =
    ap rule_of c.help-2.ensures ∙ c.number-2.ensures.rule ∙ ap (λ (p : ValueParser). number_option (codes "to") p (codes "1000000000000")) to_parser in
    let last_is : rule_of c.help-3.result ≡ last_option =
    ap rule_of c.help-3.ensures ∙ c.number-3.ensures.rule ∙ ap (λ (p : ValueParser). number_option (codes "last") p (codes "0")) last_parser in
    let width_is : rule_of c.help-4.result ≡ width_option =
    ap rule_of c.help-4.ensures ∙ c.number-4.ensures.rule ∙ ap (λ (p : ValueParser). number_option (codes "width") p (codes "100")) width_parser in
    let columns_is : rule_of c.help-5.result ≡ columns_option =
    ap rule_of c.help-5.ensures ∙ c.number-5.ensures.rule ∙ ap (λ (p : ValueParser). number_option (codes "columns") p (codes "0")) columns_parser in
    let calls_is : rule_of c.help-6.result ≡ calls_flag = ap rule_of c.help-6.ensures ∙ c.flag.ensures.rule in
    let numbers = ap app_of_fields c.override_usage.ensures ∙ c.in_ok-numbers_command.ensures in
    let one = c.in_ok-arg.ensures.shape (ap (λ (a : Arg). a.global) c.help.ensures ∙ c.number.ensures.own) ∙ ap₂ with_rule numbers from_is in
    let two = c.in_ok-arg-2.ensures.shape (ap (λ (a : Arg). a.global) c.help-2.ensures ∙ c.number-2.ensures.own) ∙ ap₂ with_rule one to_is in
    let three = c.in_ok-arg-3.ensures.shape (ap (λ (a : Arg). a.global) c.help-3.ensures ∙ c.number-3.ensures.own) ∙ ap₂ with_rule two last_is in
    let four = c.in_ok-arg-4.ensures.shape (ap (λ (a : Arg). a.global) c.help-4.ensures ∙ c.number-4.ensures.own) ∙ ap₂ with_rule three width_is in
    let forms_is : rule_of c.help-7.result ≡ forms_flag = ap rule_of c.help-7.ensures ∙ c.flag-2.ensures.rule in
    let folded = c.in_ok-arg-5.ensures.shape (ap (λ (a : Arg). a.global) c.help-5.ensures ∙ c.number-5.ensures.own) ∙ ap₂ with_rule four columns_is in
    let five = c.in_ok-arg-6.ensures.shape (ap (λ (a : Arg). a.global) c.help-6.ensures ∙ c.flag.ensures.own) ∙ ap₂ with_rule folded calls_is in
    let warn_is : rule_of c.help-8.result ≡ warn_flag = ap rule_of c.help-8.ensures ∙ c.flag-3.ensures.rule in
    let six = c.in_ok-arg-7.ensures.shape (ap (λ (a : Arg). a.global) c.help-7.ensures ∙ c.flag-2.ensures.own) ∙ ap₂ with_rule five forms_is in
    IfOk-weaker c.arg-8.result _ _ (λ r added. added.shape (ap (λ (a : Arg). a.global) c.help-8.ensures ∙ c.flag-3.ensures.own) ∙ ap₂ with_rule six warn_is) c.arg-8.ensures
