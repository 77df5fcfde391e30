use Rattle.trac_functions.proofs.Imports.{arith, body_at}
use Rattle.trac_functions.proofs.TakenItems.{backward-none, backward-more, backward-last}
use Rattle.trac_functions.proofs.form_parts.place_before.Goals as goal

pub loop-taken-init : goal.loop-taken-init
loop-taken-init c = backward-none (body_at c.args.work.now.forms c.args.form.0) c.args.to

pub returns-in-None : goal.returns-in-None
returns-in-None c =
    backward-last _ _ _ _ c.requires.within c.loop-taken.invariant c.args.count (omega arith) c.in-None.ensures

pub loop-taken-preserved : goal.loop-taken-preserved
loop-taken-preserved c =
    backward-more _ _ _ _ c.requires.within c.loop-taken.invariant c.in-Some.character c.in-Some.ensures
