use Rattle.trac_space.proofs.Imports.{arith}
use Rattle.trac_space.proofs.Blocks.{first-apart, last-apart, copied-first, copied-halves}
use Rattle.trac_space.proofs.copies.copy_by_halves.Goals as goal

pub copy_at_once-requires-clause-apart : goal.copy_at_once-requires-clause-apart
copy_at_once-requires-clause-apart g c = first-apart _ c.args.start c.args.to g.row.HALF c.args.n c.requires.some c.requires.apart

pub copy_at_once-requires-2-clause-apart : goal.copy_at_once-requires-2-clause-apart
copy_at_once-requires-2-clause-apart g c = last-apart _ c.args.start c.args.to g.row.HALF c.args.n c.requires.some c.requires.apart

pub returns-clause-after : goal.returns-clause-after
returns-clause-after g c =
    let k = g.row.HALF in
    let first = copied-first c.args.cells.now c.copy_at_once.new.cells c.args.start c.args.to k (omega arith) (omega arith) c.copy_at_once.ensures.after in
    copied-halves c.args.cells.now c.copy_at_once.new.cells c.copy_at_once-2.new.cells c.args.start c.args.to _ k c.args.n (omega arith) (omega arith) (omega arith) c.requires.apart first c.copy_at_once-2.ensures.after
