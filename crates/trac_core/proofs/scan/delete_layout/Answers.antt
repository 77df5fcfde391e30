use Rattle.trac_core.proofs.Imports.{◌+◌, arith, length-drop, text_of_cells, IsLayout}
use Rattle.trac_core.proofs.Scanning.{some-active}
use Rattle.trac_core.proofs.StepsInRow.{layouts-pass, All-after}
use Rattle.trac_core.proofs.scan.delete_layout.Goals as goal

pub after_first-requires-clause-within : goal.after_first-requires-clause-within
after_first-requires-clause-within c = some-active c.args.work.now.active c.requires.first.0 c.requires.first.1.0

pub returns-clause-passes : goal.returns-clause-passes
returns-clause-passes c =
    let old = c.args.work.now in
    let n = c.layout_characters-count.result in
    let after = c.after_first.ensures in
    let some = some-active old.active c.requires.first.0 c.requires.first.1.0 in
    let less = length-drop (1 + n) old.active in
    let all = All-after IsLayout n (text_of_cells old.active) c.after_first.result.now c.requires.first (omega arith) after.text c.layout_characters-count.ensures.layout in
    rw (c.from.ensures, c.drop_active.ensures.rest)
    (record {
      passes = λ meta. layouts-pass meta (1 + n) old c.requires.sound.active (omega arith) all;
      some = omega arith;
      few = omega arith;
      shorter = omega arith;
    })
