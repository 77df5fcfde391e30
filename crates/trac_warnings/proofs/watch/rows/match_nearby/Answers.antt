use Rattle.std.proofs.Common.{◌+◌, ◌<◌, arith, length}
use Rattle.trac_space.specs.Texts.{text_of_cells}
use Rattle.trac_core.proofs.Matching.{matched, passes-left, passes-other, passes-right}
use Rattle.trac_core.proofs.Scanning.{read-text}
use Rattle.trac_warnings.proofs.watch.rows.match_nearby.Goals as goal
use Rattle.trac_warnings.proofs.watch.rows.match_nearby.Goals.{then-character-eq40, else-character-eq40+then-character-eq41+else-depth-eq0, else-character-eq40+else-character-eq41}

pub returns-then-depth-eq0 : goal.returns-then-depth-eq0
returns-then-depth-eq0 c =
    let cells = c.args.cells.now in
    let place = c.loop-place.place in
    let within : place < length cells = omega (arith, c.loop-place-test.true) in
    let here = read-text cells place c.character_of-character.result within c.character_of-character.ensures in
    (within, matched (text_of_cells cells) place c.loop-place.depth _ here.0 here.1 c.loop-place.invariant.at c.if-character-eq41.true c.if-depth-eq0.true)

pub loop-place-preserved : goal.loop-place-preserved
loop-place-preserved c =
    let cells = c.args.cells.now in
    let text = text_of_cells cells in
    let place = c.loop-place.place in
    let depth = c.loop-place.depth in
    let at = c.loop-place.invariant.at in
    let here = read-text cells place c.character_of-character.result (omega (arith, c.loop-place-test.true)) c.character_of-character.ensures in
    elim c.if-character-eq40.branch [
      | then-character-eq40 w ↦ record {
        at = rw w.depth-is (passes-left text place depth _ here.0 here.1 at w.if-character-eq40.true);
        bound = omega (arith, c.loop-place.invariant.bound);
      }
      | else-character-eq40+then-character-eq41+else-depth-eq0 w ↦ record {
        at = rw w.depth-is (passes-right text place depth _ here.0 here.1 at w.if-character-eq41.true (omega arith));
        bound = omega (arith, c.loop-place.invariant.bound);
      }
      | else-character-eq40+else-character-eq41 w ↦ record {
        at = rw w.depth-is (passes-other text place depth _ here.0 here.1 at w.if-character-eq40.false w.if-character-eq41.false);
        bound = omega (arith, c.loop-place.invariant.bound);
      }
    ]
