use Rattle.trac_space.proofs.Imports.{None, Some, ℕ, ◌≡◌, ◌+◌, ◌-◌, ◌≤◌, ◌<◌, ◌∙◌, length, drop, map, slice_range, slice_index_or, sym, ap, arith, drop-drop, get_or_default, length-between, Byte, Comma, is_byte_cell, filling, part_between, ordinal_of}
use Rattle.trac_space.specs.Tags.{untagged}
use Rattle.trac_space.proofs.Filled.{FilledFrom, task, along-start, along-behind, along-only, along-end, along-rest, commas-now, same-part, same-cell, block-run, cell-put, cell-full, filling-gap, last-bytes}
use Rattle.trac_space.proofs.filling.fill_cells.Goals as goal
use Rattle.trac_space.proofs.filling.fill_cells.Goals.{After-characters_before-run, After-part_numbered-part}

-- a block is copied, whose last `r` cells are characters
ran : (c : After-characters_before-run) → (r : ℕ) → r ≤ c.characters_before-run.result → c.args.from + r ≤ c.loop-at.at → FilledFrom (task c.args.cells.now c.args.from c.args.stop c.args.low c.args.to c.args.given.start c.args.given.len) c.copy_at_once.new.cells (c.loop-at.at - r) (c.loop-at.to - r)
ran c r few order =
    let inside : 8 ≤ c.loop-at.at = omega (arith, c.loop-at-test.true) in
    let room : c.args.low + 8 ≤ c.loop-at.to = omega (arith, c.if-distance-ge-BLOCK.true, c.distance.ensures) in
    block-run c.loop-at.invariant c.copy_at_once.new.cells r inside room c.copy_at_once.ensures.after c.copy_at_once.ensures.len (omega (arith, few, c.characters_before-run.ensures.few)) order (last-bytes c.copy_at_once.new.cells c.loop-at.at c.characters_before-run.result r few (omega (arith, c.characters_before-run.ensures.few, c.loop-at-test.true)) c.characters_before-run.ensures.bytes)

pub loop-at-init : goal.loop-at-init
loop-at-init c =
    along-start (omega (arith, c.requires.before, c.requires.behind)) c.requires.inside c.requires.order c.requires.room

-- where they begin the cells, they are all that is left
ended : (c : After-characters_before-run) → c.loop-at.at - c.args.from ≤ c.characters_before-run.result → FilledFrom (task c.args.cells.now c.args.from c.args.stop c.args.low c.args.to c.args.given.start c.args.given.len) c.copy_at_once.new.cells (c.loop-at.at - (c.loop-at.at - c.args.from)) (c.loop-at.to - (c.loop-at.at - c.args.from))
ended c all = let order = c.loop-at.invariant.order in ran c (c.loop-at.at - c.args.from) all (omega (arith, order))

pub returns-then-at-from : goal.returns-then-at-from
returns-then-at-from c =
    let order = c.loop-at.invariant.order in
    let i = ended (goal.at.returns-then-at-from c).After-characters_before-run c.if-at-from.true in
    along-only i (Some (c.loop-at.to - (c.loop-at.at - c.args.from))) (along-end i (omega (arith, order)))

-- more cells are left
some : (c : After-characters_before-run) → c.characters_before-run.result < c.loop-at.at - c.args.from → FilledFrom (task c.args.cells.now c.args.from c.args.stop c.args.low c.args.to c.args.given.start c.args.given.len) c.copy_at_once.new.cells (c.loop-at.at - c.characters_before-run.result) (c.loop-at.to - c.characters_before-run.result)
some c less = ran c c.characters_before-run.result (omega arith) (omega (arith, less))

pub loop-at-preserved-then-run-eq-BLOCK : goal.loop-at-preserved-then-run-eq-BLOCK
loop-at-preserved-then-run-eq-BLOCK c = some (goal.at.loop-at-preserved-then-run-eq-BLOCK c).After-characters_before-run (omega (arith, c.if-at-from.false))

pub part_numbered-part-requires : goal.part_numbered-part-requires
part_numbered-part-requires c =
    let i = some (goal.at.part_numbered-part-requires c).After-characters_before-run (omega (arith, c.if-at-from.false)) in
    record {
      inside = omega (arith, i.size, c.requires.table.inside);
      bounded = omega (arith, i.size, c.requires.table.bounded);
      commas = commas-now i c.args.given.start (c.args.given.start + c.args.given.len) c.args.given.commas c.requires.behind c.requires.table.commas;
    }

-- the cells that are to be put are those that fill the gap before the run
are : (c : After-part_numbered-part) → (k : After-characters_before-run) → FilledFrom (task c.args.cells.now c.args.from c.args.stop c.args.low c.args.to c.args.given.start c.args.given.len) c.copy_at_once.new.cells (c.loop-at.at - c.characters_before-run.result) (c.loop-at.to - c.characters_before-run.result) → map untagged (slice_range c.copy_at_once.new.cells c.part_numbered-part.result.start (c.part_numbered-part.result.start + c.part_numbered-part.result.len)) ≡ filling (map untagged (slice_range c.args.cells.now c.args.given.start (c.args.given.start + c.args.given.len))) (slice_index_or c.args.cells.now (c.loop-at.at - c.characters_before-run.result - 1) Comma)
are c k i =
    let old = c.args.cells.now in
    let now = c.copy_at_once.new.cells in
    let at = c.loop-at.at - c.characters_before-run.result - 1 in
    let within = c.loop-at.invariant.within in
    let room = c.loop-at.invariant.room in
    let long = c.loop-at.invariant.long in
    let less : at < c.args.low = omega (arith, c.if-at-from.false, c.requires.before, c.requires.behind, within) in
    let before : c.args.stop ≤ c.args.low = omega (arith, c.requires.before, c.requires.behind) in
    let part = same-part i c.args.given.start (c.args.given.start + c.args.given.len) c.requires.behind in
    let cell = same-cell i at Comma less in
    let inside : at < length now = omega (arith, less, i.size, room, long, c.requires.inside) in
    let stop = sym (ap is_byte_cell cell) ∙ c.characters_before-run.ensures.stop (omega (arith, c.if-run-eq-BLOCK.false, c.characters_before-run.ensures.few)) in
    let number = c.ordinal_in.ensures ∙ ap ordinal_of (get_or_default now at (Byte 0) Comma inside ∙ cell) in
    c.part_numbered-part.ensures.cells
    ∙ ap (λ cells. part_between (map untagged cells) c.ordinal_in.result) part
    ∙ ap (part_between (map untagged (slice_range c.args.cells.now c.args.given.start (c.args.given.start + c.args.given.len)))) number
    ∙ sym (filling-gap (map untagged (slice_range c.args.cells.now c.args.given.start (c.args.given.start + c.args.given.len))) (slice_index_or old at Comma) stop)

long : (c : After-part_numbered-part) → length c.copy_at_once.new.cells ≡ length c.args.cells.now → length (slice_range c.copy_at_once.new.cells c.part_numbered-part.result.start (c.part_numbered-part.result.start + c.part_numbered-part.result.len)) ≡ c.part_numbered-part.result.len
long c size =
    omega (arith, length-between c.copy_at_once.new.cells c.part_numbered-part.result.start (c.part_numbered-part.result.start + c.part_numbered-part.result.len) (omega (arith, c.part_numbered-part.ensures.within, c.requires.behind, c.requires.room, c.requires.inside, size)))

pub returns-then-part-to : goal.returns-then-part-to
returns-then-part-to c =
    let at = goal.at.returns-then-part-to c in
    let k = at.After-characters_before-run in
    let i = some k (omega (arith, c.if-at-from.false)) in
    along-only i None (cell-full i (c.loop-at.at - c.characters_before-run.result - 1) (omega (arith, c.if-at-from.false)) (omega (arith, c.if-at-from.false)) _ c.part_numbered-part.result.len (long at.After-part_numbered-part i.size) (are at.After-part_numbered-part k i) (omega (arith, c.if-part-to.true)))

pub loop-at-preserved : goal.loop-at-preserved
loop-at-preserved c =
    let at = goal.at.loop-at-preserved c in
    let k = at.After-characters_before-run in
    let i = some k (omega (arith, c.if-at-from.false)) in
    cell-put i (c.loop-at.at - c.characters_before-run.result - 1) (omega (arith, c.if-at-from.false)) (omega (arith, c.if-at-from.false)) _ c.part_numbered-part.result.len (long at.After-part_numbered-part i.size) (are at.After-part_numbered-part k i) c.put_untagged.new.cells _ (omega (arith, c.if-part-to.false)) (omega (arith, c.if-part-to.false)) c.put_untagged.ensures.len c.put_untagged.ensures.front c.put_untagged.ensures.put

pub fill_each-requires : goal.fill_each-requires
fill_each-requires c =
    let i = c.loop-at.invariant in
    let order = i.order in
    let within = i.within in
    let room = i.room in
    let long = i.long in
    record {
      order = order;
      before = omega (arith, within, c.requires.before);
      behind = c.requires.behind;
      room = room;
      inside = omega (arith, long, i.size, c.requires.inside);
      table = record {
        inside = omega (arith, i.size, c.requires.table.inside);
        bounded = omega (arith, i.size, c.requires.table.bounded);
        commas = commas-now i c.args.given.start (c.args.given.start + c.args.given.len) c.args.given.commas c.requires.behind c.requires.table.commas;
      };
    }

pub returns : goal.returns
returns c =
    let i = c.loop-at.invariant in
    let new = c.fill_each.new.cells in
    let within = i.within in
    let long = i.long in
    let before : c.args.stop ≤ c.args.low = omega (arith, c.requires.before, c.requires.behind) in
    let part = same-part i c.args.given.start (c.args.given.start + c.args.given.len) c.requires.behind in
    let items = same-part i c.args.from c.loop-at.at (omega (arith, within, before)) in
    let further = c.args.to - c.loop-at.to in
    let e : c.loop-at.to + further ≡ c.args.to = omega (arith, long) in
    record {
      put = along-rest i new c.fill_each.result (rw (part, items) at c.fill_each.ensures.put);
      len = c.fill_each.ensures.len ∙ i.size;
      front = c.fill_each.ensures.front ∙ i.front;
      behind = ap (λ i. drop i new) (sym e) ∙ sym (drop-drop further c.loop-at.to new) ∙ ap (drop further) c.fill_each.ensures.behind
          ∙ drop-drop further c.loop-at.to c.loop-at.cells ∙ ap (λ i. drop i c.loop-at.cells) e ∙ along-behind i;
    }
