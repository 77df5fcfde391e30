use Rattle.trac_space.proofs.Imports.{None, Some, ◌≡◌, ◌+◌, ◌-◌, ◌∙◌, ap, length, map, slice_range, slice_index_or, arith, Comma, length-between, filling}
use Rattle.trac_space.specs.Tags.{untagged}
use Rattle.trac_space.proofs.Filled.{along-start, along-only, along-end, commas-now, same-part, same-cell, cell-put, cell-full}
use Rattle.trac_space.proofs.filling.fill_each.Goals as goal
use Rattle.trac_space.proofs.filling.fill_each.Goals.{After-filling_of-filling}

pub loop-at-init : goal.loop-at-init
loop-at-init c =
    along-start (omega (arith, c.requires.before, c.requires.behind)) c.requires.inside c.requires.order c.requires.room

pub filling_of-filling-requires-clause-given : goal.filling_of-filling-requires-clause-given
filling_of-filling-requires-clause-given c =
    let i = c.loop-at.invariant in
    record {
      inside = omega (arith, i.size, c.requires.table.inside);
      bounded = omega (arith, i.size, c.requires.table.bounded);
      commas = commas-now i c.args.given.start (c.args.given.start + c.args.given.len) c.args.given.commas c.requires.behind c.requires.table.commas;
    }

-- the cells that are to be put are those that fill the last one
are : (c : After-filling_of-filling) → map untagged (slice_range c.loop-at.cells c.filling_of-filling.result.start (c.filling_of-filling.result.start + c.filling_of-filling.result.len)) ≡ filling (map untagged (slice_range c.args.cells.now c.args.given.start (c.args.given.start + c.args.given.len))) (slice_index_or c.args.cells.now (c.loop-at.at - 1) Comma)
are c =
    let old = c.args.cells.now in
    let i = c.loop-at.invariant in
    let part = same-part i c.args.given.start (c.args.given.start + c.args.given.len) c.requires.behind in
    let cell = same-cell i (c.loop-at.at - 1) Comma (omega (arith, c.requires.before, c.requires.behind, i.within, c.loop-at-test.true)) in
    c.filling_of-filling.ensures.cells
    ∙ ap (λ cells. filling (map untagged cells) (slice_index_or c.loop-at.cells (c.loop-at.at - 1) Comma)) part
    ∙ ap (filling (map untagged (slice_range old c.args.given.start (c.args.given.start + c.args.given.len)))) cell

long : (c : After-filling_of-filling) → length (slice_range c.loop-at.cells c.filling_of-filling.result.start (c.filling_of-filling.result.start + c.filling_of-filling.result.len)) ≡ c.filling_of-filling.result.len
long c =
    let i = c.loop-at.invariant in
    let a = c.filling_of-filling.result.start in
    let b = a + c.filling_of-filling.result.len in
    omega (arith, length-between c.loop-at.cells a b (omega (arith, c.filling_of-filling.ensures.within, c.requires.behind, c.requires.room, c.requires.inside, i.size)))

pub loop-at-preserved : goal.loop-at-preserved
loop-at-preserved c =
    let k = (goal.at.loop-at-preserved c).After-filling_of-filling in
    cell-put c.loop-at.invariant (c.loop-at.at - 1) (omega (arith, c.loop-at-test.true)) (omega (arith, c.loop-at-test.true)) _ c.filling_of-filling.result.len (long k) (are k) c.put_untagged.new.cells _ (omega (arith, c.if-filling-to.false)) (omega (arith, c.if-filling-to.false)) c.put_untagged.ensures.len c.put_untagged.ensures.front c.put_untagged.ensures.put

pub returns-then-filling-to : goal.returns-then-filling-to
returns-then-filling-to c =
    let k = (goal.at.returns-then-filling-to c).After-filling_of-filling in
    along-only c.loop-at.invariant None (cell-full c.loop-at.invariant (c.loop-at.at - 1) (omega (arith, c.loop-at-test.true)) (omega (arith, c.loop-at-test.true)) _ c.filling_of-filling.result.len (long k) (are k) (omega (arith, c.if-filling-to.true)))

pub returns : goal.returns
returns c =
    along-only c.loop-at.invariant (Some c.loop-at.to) (along-end c.loop-at.invariant (omega (arith, c.loop-at.invariant.order, c.loop-at-test.false)))
