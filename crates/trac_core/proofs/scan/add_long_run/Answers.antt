use Rattle.trac_core.proofs.Imports.{◌+◌, arith, length-drop, text_of_cells, IsOrdinary}
use Rattle.trac_core.proofs.Scanning.{some-active}
use Rattle.trac_core.proofs.StepsInRow.{characters-pass, All-after}
use Rattle.trac_core.proofs.scan.add_long_run.Goals as goal

pub after_first-requires-clause-within : goal.after_first-requires-clause-within
after_first-requires-clause-within c = some-active c.args.work.now.active c.requires.first.0 c.requires.first.1.0

pub returns-clause-passes : goal.returns-clause-passes
returns-clause-passes c =
    let old = c.args.work.now in
    let n = c.ordinary_characters-count.result in
    let after = c.after_first.ensures in
    let some = some-active old.active c.requires.first.0 c.requires.first.1.0 in
    let less = length-drop (1 + n) old.active in
    let all = All-after IsOrdinary n (text_of_cells old.active) c.after_first.result.now c.requires.first (omega arith) after.text c.ordinary_characters-count.ensures.ordinary in
    rw (c.from.ensures, c.active_to_neutral.ensures.moved)
    (record {
      passes = λ meta. characters-pass meta (1 + n) old c.requires.sound.active (omega arith) all;
      some = omega arith;
      few = omega arith;
      shorter = omega arith;
    })
