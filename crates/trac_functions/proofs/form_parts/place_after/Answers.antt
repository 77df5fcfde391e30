use Rattle.trac_functions.proofs.Imports.{arith, body_at}
use Rattle.trac_functions.proofs.TakenItems.{forward-none, forward-within, forward-more, forward-last}
use Rattle.trac_functions.proofs.form_parts.place_after.Goals as goal

pub loop-taken-init : goal.loop-taken-init
loop-taken-init c = forward-none (body_at c.args.work.now.forms c.args.form.0) c.args.from

pub next_char-requires-clause-within : goal.next_char-requires-clause-within
next_char-requires-clause-within c = forward-within _ _ _ _ c.requires.within c.loop-taken.invariant

pub returns-in-None-clause-place : goal.returns-in-None-clause-place
returns-in-None-clause-place c =
    forward-last _ _ _ _ c.requires.within c.loop-taken.invariant c.args.count (omega arith) c.in-None.ensures

pub returns-in-None-clause-end : goal.returns-in-None-clause-end
returns-in-None-clause-end c = forward-within _ _ _ _ c.requires.within c.loop-taken.invariant

pub loop-taken-preserved : goal.loop-taken-preserved
loop-taken-preserved c =
    forward-more _ _ _ _ c.requires.within c.loop-taken.invariant c.in-Some.character c.in-Some.ensures

pub returns-clause-end : goal.returns-clause-end
returns-clause-end c = forward-within _ _ _ _ c.requires.within c.loop-taken.invariant
