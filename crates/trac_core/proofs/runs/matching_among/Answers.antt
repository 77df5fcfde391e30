use Rattle.trac_core.proofs.Imports.{◌≡◌, ◌+◌, ◌<◌, length, arith, text_of_cells}
use Rattle.trac_core.proofs.Scanning.{read-text}
use Rattle.trac_core.proofs.Matching.{matched, passes-left, passes-right, passes-other}
use Rattle.trac_core.proofs.runs.matching_among.Goals as goal
use Rattle.trac_core.proofs.runs.matching_among.Goals.{then-character-eq40, else-character-eq40+then-character-eq41+else-depth-eq0, else-character-eq40+else-character-eq41}

pub returns-then-depth-eq0 : goal.returns-then-depth-eq0
returns-then-depth-eq0 c =
    let cells = c.args.cells.now in
    let i = c.args.from + c.loop-count.count in
    let within : i < length cells = omega arith in
    let here = read-text cells i c.byte_in-character.result within c.byte_in-character.ensures in
    (within, matched (text_of_cells cells) i c.loop-count.depth _ here.0 here.1 c.loop-count.invariant.at c.if-character-eq41.true c.if-depth-eq0.true)

pub loop-count-preserved : goal.loop-count-preserved
loop-count-preserved c =
    let cells = c.args.cells.now in
    let text = text_of_cells cells in
    let i = c.args.from + c.loop-count.count in
    let depth = c.loop-count.depth in
    let at = c.loop-count.invariant.at in
    let here = read-text cells i c.byte_in-character.result (omega arith) c.byte_in-character.ensures in
    let next : i + 1 ≡ c.args.from + (c.loop-count.count + 1) = omega arith in
    elim c.if-character-eq40.branch [
      | then-character-eq40 w ↦ record {
        within = omega arith;
        at = rw (← next, w.depth-is) (passes-left text i depth _ here.0 here.1 at w.if-character-eq40.true);
        bound = omega arith;
      }
      | else-character-eq40+then-character-eq41+else-depth-eq0 w ↦ record {
        within = omega arith;
        at = rw (← next, w.depth-is) (passes-right text i depth _ here.0 here.1 at w.if-character-eq41.true (omega arith));
        bound = omega arith;
      }
      | else-character-eq40+else-character-eq41 w ↦ record {
        within = omega arith;
        at = rw (← next, w.depth-is) (passes-other text i depth _ here.0 here.1 at w.if-character-eq40.false w.if-character-eq41.false);
        bound = omega arith;
      }
    ]
