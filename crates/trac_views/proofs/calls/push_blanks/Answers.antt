use Rattle.trac_views.proofs.ShownTexts.{indent_step}
use Rattle.trac_views.proofs.calls.push_blanks.Goals as goal

pub loop-around-preserved : goal.loop-around-preserved
loop-around-preserved g c =
    indent_step c.args.line.now.items c.loop-around.line.items c.push.new.line.items c.args.depth c.loop-around._around c.loop-around-test.true
    c.loop-around.invariant c.in_ok-push.ensures
