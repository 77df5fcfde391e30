use Rattle.trac_c.proofs.Imports.{◌≡◌, ◌+◌, ◌-◌, ◌∙◌, ap, subst, arith, stands, stream_in, moment, Went}
use Rattle.std.proofs.lemmas.Grind.{common_steps}
use Rattle.trac_c.specs.Turns.{TurnsTo, written_to}
use Rattle.trac_c.proofs.Alone.{goes-on, goes-further, ends-on, ends-full, is-going}
use Rattle.trac_core.specs.Machine.{MachineState, KeepsSettings}
use Rattle.trac_c.proofs.turn.go_on.Goals as goal

-- settings that are kept twice
settings-on : (a b d : MachineState) → KeepsSettings a b → KeepsSettings b d → KeepsSettings a d
settings-on a b d first then = record { room = then.room ∙ first.room; allowance = then.allowance ∙ first.allowance; stops = then.stops ∙ first.stops }

pub returns-then-done-most-clause-settings : goal.returns-then-done-most-clause-settings
returns-then-done-most-clause-settings c =
    let h = c.advance-progress.ensures in
    settings-on c.args.machine.now c.loop-done.machine c.advance-progress.new.self c.loop-done.invariant.settings (record { room = h.room; allowance = h.allowance; stops = h.stops })

pub returns-then-ne-clause-settings : goal.returns-then-ne-clause-settings
returns-then-ne-clause-settings c =
    let h = c.advance-progress.ensures in
    settings-on c.args.machine.now c.advance-progress.new.self c.step_on-part.new.machine
    (settings-on c.args.machine.now c.loop-done.machine c.advance-progress.new.self c.loop-done.invariant.settings (record { room = h.room; allowance = h.allowance; stops = h.stops }))
    c.step_on-part.ensures.settings

pub returns-clause-settings : goal.returns-clause-settings
returns-clause-settings c = c.loop-done.invariant.settings

pub returns-then-done-most-clause-turned : goal.returns-then-done-most-clause-turned
returns-then-done-most-clause-turned c = λ going.
    let i = c.loop-done.invariant.going going in
    ends-full c.args.ended (stands c.args.machine.now c.args.source.now c.args.sink.now) (c.args.most - c.loop-done.done) c.advance-progress.result.done c.loop-done.done (stands c.loop-done.machine c.loop-done.source c.loop-done.sink) c.advance-progress.new.self
    (c.advance-progress.ensures.advanced i.1) i.0 c.args.most (omega (arith, c.if-done-most.true)) (omega arith)

pub returns-then-ne-clause-turned : goal.returns-then-ne-clause-turned
returns-then-ne-clause-turned c = λ going.
    let i = c.loop-done.invariant.going going in
    let h = c.step_on-part.ensures in
    ends-on c.args.ended (stands c.args.machine.now c.args.source.now c.args.sink.now) (c.args.most - c.loop-done.done) c.advance-progress.result.done c.loop-done.done (stands c.loop-done.machine c.loop-done.source c.loop-done.sink) c.advance-progress.new.self
    (c.advance-progress.ensures.advanced i.1) i.0 c.args.most c.step_on-part.result (stands c.step_on-part.new.machine c.step_on-part.new.source c.step_on-part.new.sink)
    (omega (arith, c.if-done-most.false, c.advance-progress.ensures.few, c.loop-done-test.true)) (grind (arith, common_steps)) h.turns
    (λ fate over. (let here = h.over fate over in (here.0, (λ i. stands (here.1 i) (here.2 i) (here.3 i)))))

pub loop-done-preserved : goal.loop-done-preserved
loop-done-preserved c =
    let h = c.step_on-part.ensures in
    let went : c.step_on-part.result ≡ Went = grind (arith, common_steps) in
    let others = h.went went in
    let sink = c.loop-done.sink in
    let source = stream_in c.loop-done.source.slice in
    let written = written_to sink in
    record {
      going = λ going.
          let i = c.loop-done.invariant.going going in
          let start = stands c.args.machine.now c.args.source.now c.args.sink.now in
          let stays = is-going c.advance-progress.new.self.fate (λ f over. (let here = h.over f over in cc)) in
          let goes = goes-on c.args.ended start (c.args.most - c.loop-done.done) c.advance-progress.result.done c.loop-done.done (moment c.loop-done.machine source written) c.advance-progress.new.self (c.advance-progress.ensures.advanced i.1) i.0 stays in
          (goes-further c.args.ended (c.loop-done.done + c.advance-progress.result.done) start (moment c.advance-progress.new.self source written) _ goes (subst (λ part. TurnsTo c.args.ended (moment c.advance-progress.new.self source written) part (stands c.step_on-part.new.machine c.step_on-part.new.source c.step_on-part.new.sink)) went (h.turns stays)), others.0);
      over = λ fate over.
          let before = c.loop-done.invariant.over fate over in
          let still = c.advance-progress.ensures.over (grind (arith, common_steps)) in
          let here = h.over fate (ap (λ m. m.fate) (still.1 ∙ before.1) ∙ over) in
          absurd (let went = went in cc);
      same_room = h.same_room ∙ c.loop-done.invariant.same_room;
      settings =
          let a = c.advance-progress.ensures in
          settings-on c.args.machine.now c.advance-progress.new.self c.step_on-part.new.machine
          (settings-on c.args.machine.now c.loop-done.machine c.advance-progress.new.self c.loop-done.invariant.settings (record { room = a.room; allowance = a.allowance; stops = a.stops }))
          h.settings;
      bound = omega (arith, c.if-done-most.false, c.advance-progress.ensures.few, c.loop-done-test.true);
      sink = (others.1, h.fits);
    }
