use Rattle.std.specs.Prelude.{is_some}
use Rattle.trac_core.proofs.Imports.{sym, ap, ◌∙◌, is_unknown}
use Rattle.trac_core.proofs.Answering.{unknown-innermost, some-known}
use Rattle.trac_core.proofs.machine.answering.unknown_call.Goals as goal

pub returns-in_default-clause-call : goal.returns-in_default-clause-call
returns-in_default-clause-call c = λ meta. ap is_unknown (c.in_default.ensures.call meta)

pub returns-then-is_some-clause-call : goal.returns-then-is_some-clause-call
returns-then-is_some-clause-call c = λ meta.
    let closed = c.in-Some.ensures.call in
    unknown-innermost c.args.work.now c.in-Some.place meta closed.0 closed.1 ∙ some-known _ (ap is_some (sym c.named_at.ensures.function) ∙ sym c.is_some.ensures ∙ c.if-is_some.true)
