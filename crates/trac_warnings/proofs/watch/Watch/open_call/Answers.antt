use Rattle.std.proofs.Common.{◌∙◌, ◌++◌, ◌∷◌, ℕ, [], arith, ap, drop, subst, sym}
use Rattle.std.proofs.lemmas.List.{length-map}
use Rattle.std.specs.Prelude.{reverse}
use Rattle.trac_language.specs.Rule.{rule}
use Rattle.trac_core.specs.View.{row_of}
use Rattle.trac_space.specs.Texts.{character_of, text_of_cells}
use Rattle.trac_warnings.specs.Origins.{first_origin, origin_at}
use Rattle.trac_warnings.specs.Rows.{FollowsSoFar, text_left, without}
use Rattle.trac_warnings.specs.declared.watch.Watch.{Watch}
use Rattle.trac_warnings.proofs.Rows.{call-goes, mark-followed}
use Rattle.trac_warnings.proofs.watch.Watch.open_call.Goals as goal

pub returns-clause-follows : goal.returns-clause-follows
returns-clause-follows g c = λ first open_before so.
    let text = text_of_cells c.args.active.now in
    let t = drop c.args.row.place text in
    let old = c.args.self.now in
    let settled = c.front_behind.new.self in
    let front = c.in_ok-front.front in
    let facts = c.in_ok-front.ensures in
    let new = record settled { calls = c.push.new.self } in
    let read = ap (λ (w : Watch g.row.A.Denot). w.read) so.stays in
    let calls = ap (λ (w : Watch g.row.A.Denot). w.calls.items) facts.stays in
    let commas = ap (λ (w : Watch g.row.A.Denot). w.commas.items) facts.stays in
    let at = λ (read : ℕ). origin_at read (first_origin (without c.args.row.pending (reverse old.runs.items))) in
    let goes = call-goes (row_of (rule t)) (at first.read) (text_left t) old.calls.items old.commas.items c.requires.opens.0 in
    let here = facts.origin ∙ ap at read in
    subst (λ r. FollowsSoFar text r first new) (sym c.with_mark.ensures)
    (mark-followed text first c.args.row old new c.args.reach.place c.args.count front.pending so open_before (omega (arith, length-map c.args.active.now character_of, c.requires.within))
    goes.0 c.requires.opens.1 (omega (arith, goes.1.0, c.requires.opens.1)) (omega (arith, c.if-count-reach.false, c.requires.place)) facts.runs
    (c.in_ok-push.ensures.items ∙ ap (λ x. x ++ front.origin ∷ []) calls ∙ ap (λ o. old.calls.items ++ o ∷ []) here ∙ sym goes.1.1.0)
    (commas ∙ sym goes.1.1.1)
    (ap (λ (w : Watch g.row.A.Denot). record w { calls = c.push.new.self; commas = settled.commas }) facts.stays))
