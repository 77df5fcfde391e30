use Rattle.trac_store.proofs.Imports.{◌≡◌, ◌+◌, ◌-◌, ◌≤◌, length, slice_range, arith, rules, length-between}
use Rattle.trac_store.proofs.ArgumentParts.{before_comma-within, before-eight}
use Rattle.trac_store.proofs.arguments.before_far_comma.Goals as goal

pub loop-i-preserved : goal.loop-i-preserved
loop-i-preserved c =
    let within : c.loop-i.i + 8 ≤ length c.args.cells.now = omega (arith, c.loop-i-test.true) in
    let bytes = (rw c.if-are_characters.true at c.are_characters.ensures).0 (search rules) in
    record {
      none = before-eight c.args.cells.now c.loop-i.i within bytes c.loop-i.invariant.none;
      within = within;
    }

pub overflow_add-result : goal.overflow_add-result
overflow_add-result c =
    let cells = c.args.cells.now in
    let i = c.loop-i.i in
    let rest = slice_range cells i (length cells) in
    let long : length rest ≡ length cells - i = length-between cells i (length cells) (omega arith) in
    omega (arith, c.requires, before_comma-within rest, long, c.before_near_comma.ensures, c.loop-i.invariant.within)
