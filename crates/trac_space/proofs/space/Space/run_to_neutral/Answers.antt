use Rattle.trac_space.proofs.Imports.{◌≡◌, ◌+◌, ◌-◌, ◌<◌, ◌++◌, ◌∙◌, All, take, drop, length, get_or, ap, sym, arith, refl, map-append, length-map, get_or-drop, Byte, IsInRun, number_in, turned, turned_by, parts, right_of, seen_lists}
use Rattle.trac_space.proofs.BlockChanges.{parts_of, begin, sizes, shown, tagged-more, parts-for_active}
use Rattle.trac_space.proofs.Seen.{seen-drop_active}
use Rattle.trac_space.proofs.Runs.{front-bytes, front-run, front-turned, front-next, turned-calls}
use Rattle.trac_space.proofs.CommaPlaces.{no_comma-append, no_comma-last}
use Rattle.trac_space.proofs.space.Space.run_to_neutral.Goals.{After-translate_run-run}
use Rattle.trac_space.proofs.space.Space.run_to_neutral.Goals as goal

pub translate_run-run-requires-clause-bytes : goal.translate_run-run-requires-clause-bytes
translate_run-run-requires-clause-bytes c =
    let size = sizes c.self.invariant c.self.view_is in
    rw (begin c.self.invariant) (front-bytes (parts_of c.self.inside).right c.self.inside.active c.args.most (omega arith) (rw (← c.self.view_is) at c.requires.bytes))

-- the run as it is seen
run : (c : After-translate_run-run) → All (IsInRun c.args.table.now) (take c.translate_run-run.result.len c.args.self.now.active)
run c =
    let size = sizes c.self.invariant c.self.view_is in
    let run = rw (begin c.self.invariant) at c.translate_run-run.ensures.run in
    rw (← c.self.view_is) (front-run (parts_of c.self.inside).right c.self.inside.active _ (omega (arith, c.translate_run-run.ensures.few)) c.args.table.now run)

-- what ends it
ends : (c : After-translate_run-run) → c.translate_run-run.result.len < c.args.most → 1 < number_in c.args.table.now (get_or c.args.self.now.active c.translate_run-run.result.len (Byte 0))
ends c = λ less.
    let s = c.self.inside in
    let size = sizes c.self.invariant c.self.view_is in
    let n = c.translate_run-run.result.len in
    let right = (parts_of s).right in
    let ends = rw (begin c.self.invariant) at (c.translate_run-run.ensures.ends less) in
    let at = ap (number_in c.args.table.now) (sym (get_or-drop (length s.cells.now - right_of s) s.cells.now n (Byte 0))) in
    let same = front-next right s.active n (omega (arith, less)) (omega arith) c.args.table.now in
    rw (← c.self.view_is) (omega (arith, ends, at, same))

-- the lists once it has moved
moved : (c : After-translate_run-run) → (let s = c.self.inside in let n = c.translate_run-run.result.len in let after = c.translate_run-run.new.cells in parts after s.store (s.neutral + n) (s.active - n + (length after - s.end)) ≡ record (parts_of s) { neutral = (parts_of s).neutral ++ take n (turned c.args.table.now (parts_of s).right); right = drop n (parts_of s).right })
moved c =
    let size = sizes c.self.invariant c.self.view_is in
    let right = (parts_of c.self.inside).right in
    let table = c.args.table.now in
    let ran = c.translate_run-run.ensures in
    parts-for_active c.self.invariant (turned table right) c.translate_run-run.result.len _ (omega (arith, ran.few)) (length-map right (turned_by table)) (rw (begin c.self.invariant) at ran.after)

seen-moved : (c : After-translate_run-run) → (let s = c.self.inside in let n = c.translate_run-run.result.len in seen_lists (s.active - n) (record (parts_of s) { neutral = (parts_of s).neutral ++ take n (turned c.args.table.now (parts_of s).right); right = drop n (parts_of s).right }) ≡ record c.args.self.now { neutral = c.args.self.now.neutral ++ turned c.args.table.now (take n c.args.self.now.active); active = drop n c.args.self.now.active })
seen-moved c =
    let s = c.self.inside in
    let size = sizes c.self.invariant c.self.view_is in
    let n = c.translate_run-run.result.len in
    let table = c.args.table.now in
    let right = (parts_of s).right in
    let few = c.translate_run-run.ensures.few in
    let left = seen-drop_active (record (parts_of s) { neutral = (parts_of s).neutral ++ take n (turned table right) }) s.active n (omega (arith, few)) in
    rw (← c.self.view_is) (left ∙ simp (map-append, front-turned right s.active n (omega (arith, few)) table))

pub returns-then-run-eq0-clause-run : goal.returns-then-run-eq0-clause-run
returns-then-run-eq0-clause-run c = run (goal.at.returns-then-run-eq0-clause-run c).After-translate_run-run

pub returns-clause-run : goal.returns-clause-run
returns-clause-run c = run (goal.at.returns-clause-run c).After-translate_run-run

pub returns-then-run-eq0-clause-ends : goal.returns-then-run-eq0-clause-ends
returns-then-run-eq0-clause-ends c = ends (goal.at.returns-then-run-eq0-clause-ends c).After-translate_run-run

pub returns-clause-ends : goal.returns-clause-ends
returns-clause-ends c = ends (goal.at.returns-clause-ends c).After-translate_run-run

pub returns-then-run-eq0-clause-moved : goal.returns-then-run-eq0-clause-moved
returns-then-run-eq0-clause-moved c =
    let k = (goal.at.returns-then-run-eq0-clause-moved c).After-translate_run-run in
    shown _ (moved k) ∙ seen-moved k

pub returns-clause-moved : goal.returns-clause-moved
returns-clause-moved c =
    let k = (goal.at.returns-clause-moved c).After-translate_run-run in
    shown _ (moved k) ∙ seen-moved k

-- no call mark comes of a run, and without a comma mark the place stays
pub invariant_of-self : goal.invariant_of-self
invariant_of-self c =
    let k = (goal.at.invariant_of-self c).After-translate_run-run in
    let h = c.self.invariant in
    let size = sizes h c.self.view_is in
    let s = c.self.inside in
    let n = c.translate_run-run.result.len in
    let table = c.args.table.now in
    let part = take n (turned table (parts_of s).right) in
    let ran = c.translate_run-run.ensures in
    let none : c.translate_run-run.result.no_comma_from ≡ 0 = c.if-run-eq0.true in
    tagged-more _ h (moved k) refl (omega (arith, ran.few)) (omega arith) part refl refl
    (rw (front-turned (parts_of s).right s.active n (omega (arith, ran.few)) table) (turned-calls table _))
    (no_comma-append (parts_of s).neutral s.no_comma_from h.no_comma part (rw none at (rw (begin h) at ran.no_comma_from)))

-- the comma marks of a run stand before the place that is kept then
pub invariant_of-self-2 : goal.invariant_of-self-2
invariant_of-self-2 c =
    let k = (goal.at.invariant_of-self-2 c).After-translate_run-run in
    let h = c.self.invariant in
    let size = sizes h c.self.view_is in
    let s = c.self.inside in
    let n = c.translate_run-run.result.len in
    let table = c.args.table.now in
    let part = take n (turned table (parts_of s).right) in
    let ran = c.translate_run-run.ensures in
    let last = c.translate_run-run.result.no_comma_from in
    tagged-more _ h (moved k) refl (omega (arith, ran.few)) (omega arith) part refl refl
    (rw (front-turned (parts_of s).right s.active n (omega (arith, ran.few)) table) (turned-calls table _))
    (no_comma-last (parts_of s).neutral part (s.neutral + last) last (omega (arith, size.cells)) (rw (begin h) at ran.no_comma_from))
