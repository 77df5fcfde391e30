use Rattle.trac_functions.proofs.Imports.{ap, arith, Contents}
use Rattle.trac_functions.proofs.TakenItems.{copied-more, copied-fits}
use Rattle.trac_functions.proofs.form_parts.copy_characters.Goals as goal

pub returns-then-not-copy_body-clause-put : goal.returns-then-not-copy_body-clause-put
returns-then-not-copy_body-clause-put c =
    let i = c.loop-place.invariant in
    let part = copied-fits c.args.work.now c.loop-place.work c.args.form.0 c.args.from c.loop-place.place c.character_or-start.result c.gap_or-end.result c.args.to i.above c.requires.within i.copied c.character_or-start.ensures c.gap_or-end.ensures in
    let room = ap (λ (w : Contents). w.room) i.copied in
    (λ e. absurd cc, λ fits. c.if-not-copy_body.ensures.copied.1 (omega arith))

pub loop-place-preserved : goal.loop-place-preserved
loop-place-preserved c =
    let i = c.loop-place.invariant in
    let first = c.character_or-start.ensures in
    let last = c.gap_or-end.ensures in
    record {
      above = let a = first.above in let b = last.above in let d = i.above in omega arith;
      below = last.below;
      sound = c.copy_body.ensures.sound;
      copied = copied-more c.args.work.now c.loop-place.work c.args.form.0 c.args.from c.loop-place.place c.character_or-start.result c.gap_or-end.result c.args.to i.above c.requires.within i.copied first last c.copy_body.new.self c.if-not-copy_body.ensures.last;
    }
