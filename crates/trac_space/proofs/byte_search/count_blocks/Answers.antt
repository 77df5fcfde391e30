use Rattle.trac_space.proofs.Imports.{◌+◌, sym, ◌∙◌, arith}
use Rattle.trac_space.proofs.Stops.{none-next, none-twice}
use Rattle.trac_space.proofs.byte_search.count_blocks.Goals as goal

pub loop-done-preserved : goal.loop-done-preserved
loop-done-preserved c =
    let done = c.loop-done.done in
    record {
      within = omega (arith, c.loop-done-test.true);
      none = none-twice _ c.args.text.now done (done + 16) (done + 32) (omega arith) (omega arith) c.loop-done.invariant.none (rw (c.has_byte-first.ensures, c.has_byte-second.ensures) at c.if-first-second.false);
    }

pub returns-else-first-clause-before : goal.returns-else-first-clause-before
returns-else-first-clause-before c =
    let done = c.loop-done.done in
    none-next _ c.args.text.now done (done + 16) (omega arith) c.loop-done.invariant.none (sym c.has_byte-first.ensures ∙ c.if-first.false)

pub returns-then-not-has_byte-clause-before : goal.returns-then-not-has_byte-clause-before
returns-then-not-has_byte-clause-before c =
    let done = c.loop-done.done in
    none-next _ c.args.text.now done (done + 16) (omega arith) c.loop-done.invariant.none (sym c.has_byte.ensures ∙ c.if-not-has_byte.true)
