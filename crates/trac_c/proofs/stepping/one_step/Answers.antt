use Rattle.trac_c.proofs.Imports.{◌≡◌, arith, subst}
use Rattle.std.specs.Prelude.{false, true}
use Rattle.trac_c.specs.Turns.{is_ended, waits_for_input}
use mathlib.Core.Logic.{inr}
use Rattle.trac_core.specs.Machine.{MachineState}
use Rattle.trac_c.specs.Traced.{FailsBehind}
use Rattle.trac_c.proofs.StepLines.{waits-same, written-fits}
use Rattle.trac_c.proofs.stepping.one_step.Goals as goal

pub returns-then-ended-ne-FAILS-clause-fits : goal.returns-then-ended-ne-FAILS-clause-fits
returns-then-ended-ne-FAILS-clause-fits c = written-fits _ 1 _ _ _ _ _ c.take_turn-turn.ensures

pub returns-clause-stepped : goal.returns-clause-stepped
returns-clause-stepped c =
    let waits = waits-same _ _ _ _ _ _ (omega (arith, c.if-turn-ne-WAITS.false)) c.take_turn-turn.ensures in
    let fails : c.args.ended ≡ 2 = omega (arith, c.if-ended-ne-FAILS.false) in
    let more : is_ended c.from.result ≡ false = grind (arith, c.from.ensures, fails) in
    let short = subst (λ ended. waits_for_input ended c.args.machine.now c.args.input.now ≡ true) more waits.2 in
    inr (fails, waits.1, short, subst (λ (m : MachineState). FailsBehind c.args.input.now c.failed_step.new.output m c.failed_step.result c.failed_step.new.machine) waits.0 c.failed_step.ensures.fails)
