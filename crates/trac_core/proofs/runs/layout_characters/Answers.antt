use Rattle.trac_core.proofs.Imports.{sym, ◌∙◌, IsLayout}
use Rattle.trac_core.proofs.OrdinaryBlocks.{one-more}
use Rattle.trac_core.proofs.runs.layout_characters.Goals as goal

pub loop-i-preserved : goal.loop-i-preserved
loop-i-preserved c = one-more IsLayout c.args.cells.now c.loop-i.i c.byte_in.result c.loop-i-test.true c.byte_in.ensures (sym c.is_layout.ensures ∙ c.if-not-is_layout.false) c.loop-i.invariant
