use Rattle.std.proofs.Common.{◌≡◌, ◌∙◌, ap, ap₂, codes}
use mathlib.Core.Path.{transport}
use Rattle.std.specs.Prelude.{pos, Some}
use Rattle.std.proofs.lemmas.Result.{IfOk-weaker}
use Rattle.clap.specs.Words.{NarrowsTo, app_of, new_app, rule_of, with_rule}
use Rattle.clap.specs.Simple.{app_of_fields}
use Rattle.clap.specs.declared.builder.arg.Arg.{Arg}
use Rattle.clap.specs.declared.builder.value_parser.ValueParser.{ValueParser}
use Rattle.clap.specs.declared.builder.value_parser.ValueParser.TheVariants as parser
use Rattle.trac_command.specs.CommandLine.{cells_option, number_option, numbers_command, steps_option}
use Rattle.trac_command.proofs.words.numbers_command.Goals as goal

pub returns : goal.returns
unfolding numbers_command cells_option steps_option
returns c =
    let default = c.args.default_steps.now in
    let cells_parser : c.range.result ≡ parser.Signed (pos 1) (pos 16777216) =
    transport (λ i. NarrowsTo (c.value_parser.ensures i) (Some (c.new.ensures.start i)) (Some (c.new.ensures.end i)) c.range.result) c.range.ensures in
    let steps_parser : c.range-2.result ≡ parser.Unsigned 1 1000000000000 =
    transport (λ i. NarrowsTo (c.value_parser-2.ensures i) (Some (c.new-2.ensures.start i)) (Some (c.new-2.ensures.end i)) c.range-2.result) c.range-2.ensures in
    let cells_is : rule_of c.help.result ≡ cells_option =
    ap rule_of c.help.ensures ∙ c.number-cells.ensures.rule ∙ ap (λ (p : ValueParser). number_option (codes "cells") p (codes "65536")) cells_parser in
    let steps_is : rule_of c.help-2.result ≡ steps_option default =
    ap rule_of c.help-2.ensures ∙ c.number-steps.ensures.rule ∙ ap (λ (p : ValueParser). number_option (codes "steps") p default) steps_parser in
    let started : app_of c.about.result ≡ new_app c.args.name.now = ap app_of_fields c.about.ensures ∙ ap app_of_fields c.in_ok-bin_name.ensures.0 ∙ c.new-3.ensures.app in
    let one = c.in_ok-arg.ensures.shape (ap (λ (a : Arg). a.global) c.help.ensures ∙ c.number-cells.ensures.own) ∙ ap₂ with_rule started cells_is in
    let own = ap (λ (a : Arg). a.global) c.help-2.ensures ∙ c.number-steps.ensures.own in
    IfOk-weaker c.arg-2.result _ _ (λ r added. added.shape own ∙ ap₂ with_rule one steps_is) c.arg-2.ensures
