use Rattle.std.proofs.Common.{arith}
use Rattle.trac_warnings.proofs.Rows.{plain-behind}
use Rattle.trac_warnings.proofs.watch.rows.plain_steps.Goals as goal

pub returns-then-count-left-clause-place : goal.returns-then-count-left-clause-place
returns-then-count-left-clause-place c = (plain-behind c.args.active.now c.args.row.place c.args.reach.place c.plain_in-behind.result c.requires.place c.requires.within c.requires.first c.plain_in-behind.ensures.plain).0

pub returns-then-count-left-clause-plain : goal.returns-then-count-left-clause-plain
returns-then-count-left-clause-plain c = (plain-behind c.args.active.now c.args.row.place c.args.reach.place c.plain_in-behind.result c.requires.place c.requires.within c.requires.first c.plain_in-behind.ensures.plain).1

pub returns-else-count-left-clause-place : goal.returns-else-count-left-clause-place
returns-else-count-left-clause-place c =
    let part = plain-behind c.args.active.now c.args.row.place c.args.reach.place c.plain_in-behind.result c.requires.place c.requires.within c.requires.first c.plain_in-behind.ensures.plain in
    omega (arith, part.0, c.if-count-left.false)

pub returns-else-count-left-clause-plain : goal.returns-else-count-left-clause-plain
returns-else-count-left-clause-plain c =
    let part = plain-behind c.args.active.now c.args.row.place c.args.reach.place c.plain_in-behind.result c.requires.place c.requires.within c.requires.first c.plain_in-behind.ensures.plain in
    omega (arith, part.1, c.if-count-left.false)
