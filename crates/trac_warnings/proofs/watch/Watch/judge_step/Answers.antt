use Rattle.std.proofs.Common.{◌∙◌, ap, length, sym}
use Rattle.std.proofs.lemmas.List.{length-map}
use Rattle.trac_space.specs.Texts.{character_of}
use Rattle.trac_warnings.specs.Counted.{counts_of}
use Rattle.trac_warnings.proofs.Keeping.{on_both, on_ok}
use Rattle.trac_warnings.proofs.Plain.{plain_counted, plain_judges, plain_moves, plain_reads}
use Rattle.trac_warnings.proofs.watch.Watch.judge_step.Goals as goal

pub returns-then-is_plain-clause-moved : goal.returns-then-is_plain-clause-moved
returns-then-is_plain-clause-moved g c = λ done.
    let cells = c.active-active.result.now in
    let plain = sym c.is_plain.ensures ∙ c.if-is_plain.true in
    let active_is = sym (length-map cells character_of) ∙ ap length c.active-active.ensures in
    on_ok c.warn_of_plain.result _ _
    (plain_moves c.args.before.now c.args.machine.now c.args.input.now c.args.self.now c.warn_of_plain.new.self c.value-value.result.now c.neutral-neutral.result.now (length cells) plain active_is)
    c.warn_of_plain.ensures.runs

pub returns-then-is_plain-clause-read : goal.returns-then-is_plain-clause-read
returns-then-is_plain-clause-read g c = λ done.
    let cells = c.active-active.result.now in
    let plain = sym c.is_plain.ensures ∙ c.if-is_plain.true in
    let active_is = sym (length-map cells character_of) ∙ ap length c.active-active.ensures in
    on_ok c.warn_of_plain.result _ _
    (λ runs. plain_reads c.args.before.now c.args.machine.now c.args.input.now c.args.self.now c.warn_of_plain.new.self c.value-value.result.now c.neutral-neutral.result.now (length cells) plain active_is c.value-value.ensures c.warn_of_plain.ensures.read)
    c.warn_of_plain.ensures.runs

pub returns-then-is_plain-clause-tells : goal.returns-then-is_plain-clause-tells
returns-then-is_plain-clause-tells g c = λ done.
    let cells = c.active-active.result.now in
    let plain = sym c.is_plain.ensures ∙ c.if-is_plain.true in
    let active_is = sym (length-map cells character_of) ∙ ap length c.active-active.ensures in
    on_both c.warn_of_plain.result _ _ _
    (λ said strings. plain_judges c.args.before.now c.args.machine.now c.args.input.now c.args.self.now c.warn_of_plain.new.self c.value-value.result.now c.neutral-neutral.result.now (length cells) plain active_is c.value-value.ensures c.neutral-neutral.ensures said c.warn_of_plain.ensures.calls strings)
    c.warn_of_plain.ensures.said c.warn_of_plain.ensures.strings

pub returns-then-is_plain-clause-counted : goal.returns-then-is_plain-clause-counted
returns-then-is_plain-clause-counted g c = λ done.
    let cells = c.active-active.result.now in
    let plain = sym c.is_plain.ensures ∙ c.if-is_plain.true in
    let active_is = sym (length-map cells character_of) ∙ ap length c.active-active.ensures in
    on_ok c.warn_of_plain.result _ _
    (λ runs. plain_counted c.args.before.now c.args.machine.now c.args.input.now c.args.self.now c.warn_of_plain.new.self c.value-value.result.now c.neutral-neutral.result.now (length cells) plain active_is (ap (λ w. counts_of w.entries) c.warn_of_plain.ensures.written))
    c.warn_of_plain.ensures.runs
