use Rattle.std.proofs.Common.{◌≡◌, ◌∙◌, ◌+◌, ◌++◌, ◌∷◌, ℕ, [], arith, ap, drop, if◌then◌else◌, subst, sym}
use Rattle.std.proofs.lemmas.List.{drop-drop, length-map}
use Rattle.std.specs.Prelude.{reverse}
use Rattle.trac_language.specs.Rule.{rule}
use Rattle.trac_core.specs.View.{row_of}
use Rattle.trac_space.specs.Texts.{character_of, text_of_cells}
use Rattle.trac_warnings.specs.Origins.{behind, first_origin, origin_at}
use Rattle.trac_warnings.specs.Rows.{FollowsSoFar, argument_origin, is_at, text_left, without}
use Rattle.trac_warnings.specs.declared.watch.Watch.{Watch}
use Rattle.trac_warnings.proofs.Rows.{at-dropped, comma-goes, comma-left, mark-followed}
use Rattle.trac_warnings.proofs.watch.Watch.begin_argument.Goals as goal

pub returns-clause-follows : goal.returns-clause-follows
returns-clause-follows g c = λ first open_before so.
    let text = text_of_cells c.args.active.now in
    let place = c.args.row.place in
    let t = drop place text in
    let old = c.args.self.now in
    let settled = c.front_behind.new.self in
    let front = c.in_ok-front.front in
    let facts = c.in_ok-front.ensures in
    let new = record settled { commas = c.push.new.self } in
    let read = ap (λ (w : Watch g.row.A.Denot). w.read) so.stays in
    let calls = ap (λ (w : Watch g.row.A.Denot). w.calls.items) facts.stays in
    let commas = ap (λ (w : Watch g.row.A.Denot). w.commas.items) facts.stays in
    let at = λ (read : ℕ). origin_at read (first_origin (without c.args.row.pending (reverse old.runs.items))) in
    let goes = comma-goes (row_of (rule t)) (at first.read) (text_left t) old.calls.items old.commas.items c.requires.begins in
    let here = facts.origin ∙ ap at read in
    let left : is_at text (place + 1) 40 ≡ is_at (text_left t) 0 40 = sym (ap (λ t. is_at t 0 40) (comma-left t c.requires.begins ∙ drop-drop 1 place text) ∙ at-dropped text (place + 1) 40) in
    let pushed = c.begin_of_argument.ensures ∙ ap (λ b. behind (if b then 2 else 1) front.origin) (c.is_at-is_protected.ensures ∙ left) ∙ ap (λ o. argument_origin o (text_left t)) here in
    subst (λ r. FollowsSoFar text r first new) (sym c.with_mark.ensures)
    (mark-followed text first c.args.row old new c.args.reach.place 1 front.pending so open_before (omega (arith, length-map c.args.active.now character_of, c.requires.within))
    goes.0 goes.1.0 (omega arith) (omega (arith, c.requires.place)) facts.runs
    (calls ∙ sym goes.1.1.0)
    (c.in_ok-push.ensures.items ∙ ap (λ x. x ++ c.begin_of_argument.result ∷ []) commas ∙ ap (λ o. old.commas.items ++ o ∷ []) pushed ∙ sym goes.1.1.1)
    (ap (λ (w : Watch g.row.A.Denot). record w { calls = settled.calls; commas = c.push.new.self }) facts.stays))
