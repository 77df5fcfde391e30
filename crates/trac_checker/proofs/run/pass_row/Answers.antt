use Rattle.std.proofs.Common.{arith, reverse}
use Rattle.trac_checker.proofs.Rows.{Held, all-made, along, along-none}
use Rattle.trac_checker.proofs.run.pass_row.Goals as goal

pub returns-clause-passes : goal.returns-clause-passes
returns-clause-passes g c =
    let old = c.args.machine.now in
    let follows = c.in_ok-count.ensures.follows in
    let held : Held old.memory = record { cells = c.neutral-neutral.result.now; neutral = c.neutral-neutral.ensures } in
    let so = along-none old held c.requires.going c.requires.limits in
    let strings = reverse c.args.watch.now.strings.items in
    let goes = all-made strings c.in_ok-count.count _ old c.advance.new.self (c.advance.ensures.advanced c.requires.going) c.advance.ensures.few follows.quiet so
    (omega (arith, c.in_ok-count.ensures.few, c.steps.ensures, c.requires.allowance, c.requires.limits.steps)) in
    let later = along old strings c.in_ok-count.count c.advance.new.self goes follows.quiet so in
    record {
      count = c.in_ok-count.count;
      cells = held.cells;
      neutral = held.neutral;
      goes = goes;
      going = later.going;
      steps = later.steps;
      follows = follows;
    }
