use Rattle.std.specs.Prelude.{IsSome}
use Rattle.trac_c.specs.declared.devices.OverflowSink.{OverflowSink}
use Rattle.trac_c.proofs.Imports.{Option, Fate, ◌≡◌, ◌≤◌, not, None, Some, [], length, refl, sym, ap, subst, ◌∙◌, arith, ending, moment, stream_in, awaited, next_function, next_printed, is_short, stands}
use Rattle.std.proofs.lemmas.Bool.{and_left, and_right}
use Rattle.std.proofs.lemmas.Grind.{common_steps}
use Rattle.trac_language.specs.declared.fate.Fate.TheVariants.{InputFailed, OutputFailed}
use Rattle.trac_core.specs.Machine.{MachineState, Answers, input_failures, output_failures}
use Rattle.trac_c.specs.Turns.{written_to}
use Rattle.trac_c.proofs.Again.{prints-none}
use Rattle.trac_c.proofs.Alone.{is-going}
use Rattle.trac_c.proofs.Waiting.{may-get-more}
use Rattle.trac_c.proofs.Overflow.{same-buffer, within-after, within-ended, not-broken, room-left, none-behind, broken-more}
use Rattle.trac_c.proofs.turn.step_on.Goals as goal
use Rattle.trac_c.proofs.turn.step_on.Goals.{else-not-ended-via-then-not-ended+else-waits, else-not-ended-via-else-not-ended}

pub returns-then-waits-clause-waits : goal.returns-then-waits-clause-waits
returns-then-waits-clause-waits c = λ _.
    let m = c.args.machine.now in
    may-get-more m c.args.source.now.slice.bytes c.requires.limits
    (ap (is_short (awaited (next_function m)) m) (sym c.rest.ensures) ∙ sym c.waits.ensures ∙ c.if-waits.true)

pub returns-in-Some-clause-over : goal.returns-in-Some-clause-over
returns-in-Some-clause-over c = λ fate over.
    let none = ap length (prints-none c.args.machine.now fate (ending []) over) in
    let past = c.in-Some.ensures.past in
    absurd (omega (arith, none, past.0, past.1 (ending [])))

pub returns-in-None-clause-fits : goal.returns-in-None-clause-fits
returns-in-None-clause-fits c =
    let m = c.prints_past.new.self in
    let source = stream_in c.args.source.now.slice in
    let sink = c.args.sink.now in
    let new = stands c.step.new.self c.step.new.source c.step.new.sink in
    let going = is-going m.fate (λ f over. (let again = (c.step.ensures.over (grind (arith, common_steps))).0.again in let none = c.in-None.is in absurd (grind (arith, common_steps)))) in
    let size = same-buffer _ (length sink.room.now) _ (length c.step.new.sink.room.now) sink.bounded c.step.new.sink.bounded (sym c.step.ensures.kept) in
    let printed = subst (λ (m : MachineState). length (next_printed m (ending source.bytes)) ≤ c.free.result) (sym c.prints_past.ensures.same) (c.in_default.ensures.past (ending source.bytes)) in
    let room = room-left sink (length (next_printed m (ending source.bytes))) c.free.result c.requires.sink_sound.1 c.free.ensures printed in
    let goes = subst (λ r. Answers (moment m source (written_to sink)) r new) c.in-None.is (c.step.ensures.answers going tt tt) in
    none-behind c.step.new.sink (length sink.room.now) size.1 (within-after (moment m source (written_to sink)) new (length sink.room.now) going room goes)

pub returns-in-Some-step-clause-turns : goal.returns-in-Some-step-clause-turns
returns-in-Some-step-clause-turns c = λ going.
    let old = c.args.machine.now in
    let m = c.prints_past.new.self in
    let same = c.prints_past.ensures.same in
    let here = ap (λ (m : MachineState). m.fate) same ∙ going in
    let source = stream_in c.args.source.now.slice in
    let sink = c.args.sink.now in
    let new = stands c.step.new.self c.step.new.source c.step.new.sink in
    let size = same-buffer _ (length sink.room.now) _ (length c.step.new.sink.room.now) sink.bounded c.step.new.sink.bounded (sym c.step.ensures.kept) in
    let printed = c.in_default.ensures.past (ending source.bytes) in
    let room = room-left sink (length (next_printed old (ending source.bytes))) c.free.result c.requires.sink_sound.1 c.free.ensures printed in
    let answers = subst (λ (m : MachineState). Answers (moment m source (written_to sink)) (Some c.in-Some-step.fate) new) same
    (subst (λ r. Answers (moment m source (written_to sink)) r new) c.in-Some-step.is (c.step.ensures.answers here tt tt)) in
    let inputs = λ (e : c.in-Some-step.fate ≡ InputFailed). ap (input_failures m.fate) c.in-Some-step.is ∙ ap (λ f. input_failures f (Some c.in-Some-step.fate)) here ∙ ap (λ f. input_failures None (Some f)) e in
    let outputs = λ (e : c.in-Some-step.fate ≡ OutputFailed). ap (output_failures m.fate) c.in-Some-step.is ∙ ap (λ f. output_failures f (Some c.in-Some-step.fate)) here ∙ ap (λ f. output_failures None (Some f)) e in (
      elim c.else-not-ended.branch [
        | else-not-ended-via-then-not-ended+else-waits w ↦ and_right (not c.args.ended) (is_short (awaited (next_function old)) old source.bytes) (ap (is_short (awaited (next_function old)) old) (sym w.rest.ensures) ∙ sym w.waits.ensures ∙ w.if-waits.false)
        | else-not-ended-via-else-not-ended w ↦ and_left (not c.args.ended) (is_short (awaited (next_function old)) old source.bytes) (ap not w.if-not-ended.false)
      ],
      (
        (
          λ e. (let one = inputs e in let counts = c.step.ensures.input_failed in absurd (omega (arith, one, counts))),
          not-broken c.in-Some-step.fate (moment old source (written_to sink)) new (length sink.room.now) going room answers
              (λ e. (let one = outputs e in let counts = c.step.ensures.output_failed in broken-more c.step.new.sink (length sink.room.now) size.1 (omega (arith, one, counts, c.requires.sink_sound.0)))),
        ),
        (answers, sym c.asks.ensures ∙ c.if-asks.false),
      ),
    )

pub returns-in-Some-step-clause-fits : goal.returns-in-Some-step-clause-fits
returns-in-Some-step-clause-fits c = go c.args.machine.now.fate refl
  where
    go : (fate : Option Fate) → c.args.machine.now.fate ≡ fate → c.step.new.sink.behind ≡ None
    go None going =
        let old = c.args.machine.now in
        let source = stream_in c.args.source.now.slice in
        let sink = c.args.sink.now in
        let new = stands c.step.new.self c.step.new.source c.step.new.sink in
        let size = same-buffer _ (length sink.room.now) _ (length c.step.new.sink.room.now) sink.bounded c.step.new.sink.bounded (sym c.step.ensures.kept) in
        let room = room-left sink 0 c.free.result c.requires.sink_sound.1 c.free.ensures (omega arith) in
        let turns = returns-in-Some-step-clause-turns c going in
        none-behind c.step.new.sink (length sink.room.now) size.1
        (within-ended c.in-Some-step.fate (moment old source (written_to sink)) new (length sink.room.now) turns.1.0 (omega (arith, room)) turns.1.1.0)
    go (Some fate) over =
        let is = ap (λ (m : MachineState). m.fate) c.prints_past.ensures.same ∙ over in
        let stays = c.step.ensures.over (subst IsSome (sym is) refl) in
        ap (λ (s : OverflowSink). s.behind) stays.2 ∙ c.requires.sink_sound.1
