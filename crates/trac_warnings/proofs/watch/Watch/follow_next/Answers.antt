use Rattle.std.proofs.Common.{arith, drop, length, subst, sym}
use Rattle.std.proofs.lemmas.List.{length-map}
use Rattle.trac_space.specs.Texts.{character_of, text_of_cells}
use Rattle.trac_warnings.specs.Rows.{FollowsSoFar, Marks}
use Rattle.trac_warnings.proofs.Rows.{plain-more, text-followed}
use Rattle.trac_warnings.proofs.watch.Watch.follow_next.Goals as goal

pub returns-in-Plain-clause-follows : goal.returns-in-Plain-clause-follows
returns-in-Plain-clause-follows g c = λ first open_before so.
    let text = text_of_cells c.args.active.now in
    let plain = c.plain_steps.ensures in
    subst (λ r. FollowsSoFar text r first c.args.self.now) (sym c.with_steps.ensures)
    (plain-more text first c.args.row c.args.self.now c.args.reach.place c.plain_steps.result so open_before (omega (arith, length-map c.args.active.now character_of, c.requires.within)) plain.place plain.plain)

pub returns-in-Protected-clause-follows : goal.returns-in-Protected-clause-follows
returns-in-Protected-clause-follows g c = λ first open_before so.
    let text = text_of_cells c.args.active.now in
    let mark = subst (λ m. Marks m (drop c.args.row.place text)) c.in-Protected.is c.mark_at.ensures in
    subst (λ r. FollowsSoFar text r first c.args.self.now) (sym c.with_mark.ensures)
    (text-followed text first c.args.row c.args.self.now c.args.reach.place c.in-Protected.count mark.0 mark.1.0 so open_before (omega (arith, length-map c.args.active.now character_of, c.requires.within)) mark.1.1.0 mark.1.1.1 (omega (arith, c.requires.place)))
