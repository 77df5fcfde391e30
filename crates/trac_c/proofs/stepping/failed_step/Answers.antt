use Rattle.trac_c.proofs.Imports.{ap, refl, rules, stream_in, take, ◌∙◌}
use Rattle.trac_core.specs.Machine.{Answers}
use Rattle.trac_c.proofs.StepLines.{whole-slice}
use Rattle.trac_c.proofs.TurnBytes.{between}
use Rattle.trac_c.proofs.stepping.failed_step.Goals as goal

pub returns-clause-fails : goal.returns-clause-fails
returns-clause-fails c = (
  c.step-answer.result,
  (
    stream_in c.step-answer.new.source,
    (
      c.answer_number.ensures,
      c.steps.ensures,
      c.peak.ensures,
      rw (c.saturating_sub.ensures, c.rest.ensures) refl,
      refl,
      λ going.
          between (λ old new. Answers old c.step-answer.result new) _ _ _ _ (ap stream_in c.new-source.ensures ∙ whole-slice c.args.input.now)
          (ap (λ n. take n c.new-sink.result.room.now) c.new-sink.ensures.empty) (search rules) (c.step-answer.ensures.answers going tt tt),
    ),
  ),
)
