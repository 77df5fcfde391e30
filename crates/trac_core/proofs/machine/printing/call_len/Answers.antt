use Rattle.trac_core.proofs.Imports.{Some, length, ap, sym, ◌∙◌, form_named, arguments_at, texts, world, function_at, display}
use Rattle.trac_core.proofs.PrintCalls.{argument-one}
use Rattle.trac_functions.proofs.ArgumentLemmas.{part-long}
use Rattle.trac_core.proofs.Printed.{string-prints, form-prints, other-prints}
use Rattle.trac_core.proofs.machine.printing.call_len.Goals as goal

pub returns-in-None-clause-length : goal.returns-in-None-clause-length
returns-in-None-clause-length c = λ meta input.
    let w = c.args.work.now in
    ap length (other-prints (function_at w.neutral c.args.place) (arguments_at w.neutral c.args.place) (world w.forms meta input) (sym c.named_at-function.ensures.function ∙ c.in-None.is) (λ e. absurd cc) (λ e. absurd cc))

pub returns-in-PrintString-clause-length : goal.returns-in-PrintString-clause-length
returns-in-PrintString-clause-length c = λ meta input.
    let w = c.args.work.now in
    let args = arguments_at w.neutral c.args.place in
    let is = sym c.named_at-function.ensures.function ∙ c.in-Some.is ∙ ap Some c.in-PrintString.is in
    let text = c.next-part.ensures.text ∙ argument-one args (texts w c.named_at-function.result.1) c.named_at-function.ensures.behind in
    sym (part-long _ _ _ c.next-part.ensures.part) ∙ ap length (text ∙ string-prints (function_at w.neutral c.args.place) args (world w.forms meta input) is)

pub returns-in-PrintForm-clause-length : goal.returns-in-PrintForm-clause-length
returns-in-PrintForm-clause-length c = λ meta input.
    let w = c.args.work.now in
    let args = arguments_at w.neutral c.args.place in
    let is = sym c.named_at-function.ensures.function ∙ c.in-Some.is ∙ ap Some c.in-PrintForm.is in
    let text = c.next-part.ensures.text ∙ argument-one args (texts w c.named_at-function.result.1) c.named_at-function.ensures.behind in
    c.named_len.ensures.length ∙ ap length (ap (λ t. display (form_named t w.forms)) text ∙ form-prints (function_at w.neutral c.args.place) args (world w.forms meta input) is)

pub returns-in_default-clause-length : goal.returns-in_default-clause-length
returns-in_default-clause-length c = λ meta input.
    let w = c.args.work.now in
    ap length (other-prints (function_at w.neutral c.args.place) (arguments_at w.neutral c.args.place) (world w.forms meta input) (sym c.named_at-function.ensures.function ∙ c.in-Some.is)
    (λ e. c.in_default.not-PrintString cc) (λ e. c.in_default.not-PrintForm cc))
