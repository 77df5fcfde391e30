use Rattle.trac_core.proofs.Imports.{◌≡◌, ◌++◌, [], ◌∷◌, eqb, false, arith, ◌∙◌, ap, eqb-true, false_from_ne_true}
use Rattle.trac_core.proofs.ReadTexts.{reads-more, reads-on, streams-byte, streams-more, streams-full, streams-end, streams-failed}
use Rattle.trac_core.proofs.streaming.read_text.Goals as goal

pub loop-byte-preserved : goal.loop-byte-preserved
loop-byte-preserved g c =
    let i = c.loop-byte.invariant in
    let run = c.take_held.ensures in
    let on = reads-on c.args.meta c.args.work.now c.loop-byte.work c.take_held.new.neutral _ _ _ i.reads run.reads i.told in
    let h = c.in-Byte.ensures in
    let byte = c.in-Byte.byte in
    let differs : eqb byte c.args.meta ≡ false = false_from_ne_true (eqb byte c.args.meta) (λ e. c.if-byte-meta.false (eqb-true byte c.args.meta e)) in
    record {
      sound = c.push_neutral.ensures.sound;
      counts = omega (arith, h.counts, run.counts, i.counts);
      told = λ told. h.told (run.told (i.told told));
      reads = (
        on.0 ++ byte ∷ [],
        (
          reads-more c.args.meta c.args.work.now c.take_held.new.neutral c.push_neutral.new.self on.0 byte on.1.0 c.if-not-push_neutral.ensures.last differs,
          λ told. streams-more _ _ _ on.0 (on.1.1 told) byte (h.gives (run.told (i.told told))),
        ),
      );
    }

pub returns-in-Byte-clause-reads : goal.returns-in-Byte-clause-reads
returns-in-Byte-clause-reads g c =
    let i = c.loop-byte.invariant in
    let on = reads-on c.args.meta c.args.work.now c.loop-byte.work c.take_held.new.neutral _ _ _ i.reads c.take_held.ensures.reads i.told in (
      on.0,
      (
        on.1.0,
        λ told. let s = streams-byte _ _ (g.I.Source.stream c.next.new.self) on.0 (on.1.1 told) c.in-Byte.byte (c.in-Byte.ensures.gives (c.take_held.ensures.told (i.told told))) in
            (s.0 ∙ ap (λ b. on.0 ++ b ∷ (g.I.Source.stream c.next.new.self).bytes) c.if-byte-meta.true, s.1),
      ),
    )

pub returns-then-not-push_neutral-clause-reads : goal.returns-then-not-push_neutral-clause-reads
returns-then-not-push_neutral-clause-reads g c =
    let i = c.loop-byte.invariant in
    let on = reads-on c.args.meta c.args.work.now c.loop-byte.work c.take_held.new.neutral _ _ _ i.reads c.take_held.ensures.reads i.told in
    let byte = c.in-Byte.byte in
    let differs : eqb byte c.args.meta ≡ false = false_from_ne_true (eqb byte c.args.meta) (λ e. c.if-byte-meta.false (eqb-true byte c.args.meta e)) in
    (on.0, (rw c.if-not-push_neutral.ensures.full on.1.0, λ told. streams-full _ _ _ on.0 (on.1.1 told) c.args.meta byte differs (c.in-Byte.ensures.gives (c.take_held.ensures.told (i.told told)))))

pub returns-in-End-clause-reads : goal.returns-in-End-clause-reads
returns-in-End-clause-reads g c =
    let i = c.loop-byte.invariant in
    let on = reads-on c.args.meta c.args.work.now c.loop-byte.work c.take_held.new.neutral _ _ _ i.reads c.take_held.ensures.reads i.told in
    (on.0, (on.1.0, λ told. streams-end _ _ _ on.0 (on.1.1 told) c.args.meta (c.in-End.ensures.gives (c.take_held.ensures.told (i.told told)))))

pub returns-in-Failed-clause-reads : goal.returns-in-Failed-clause-reads
returns-in-Failed-clause-reads g c =
    let i = c.loop-byte.invariant in
    let on = reads-on c.args.meta c.args.work.now c.loop-byte.work c.take_held.new.neutral _ _ _ i.reads c.take_held.ensures.reads i.told in
    (on.0, (on.1.0, λ told. streams-failed _ _ _ on.0 (on.1.1 told) c.args.meta (c.in-Failed.ensures.gives (c.take_held.ensures.told (i.told told)))))
