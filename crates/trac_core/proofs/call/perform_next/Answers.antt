use Rattle.trac_core.proofs.Imports.{subst, AsksFor}
use Rattle.trac_core.proofs.Performing.{performs-closed, function-performs}
use Rattle.trac_core.proofs.call.perform_next.Goals as goal

pub returns-in-EndOfCall-clause-source : goal.returns-in-EndOfCall-clause-source
returns-in-EndOfCall-clause-source g c =
    let asks = subst (λ front. AsksFor front c.args.work.now) c.in-EndOfCall.is c.requires.asks in
    let p = performs-closed c.args.work.now c.drop_active.new.self c.in-EndOfCall.place c.requires.sound asks.0 asks.1 c.drop_active.ensures.rest in
    rw (function-performs _ _ _ c.args.meta.now p) c.perform.ensures.source

pub returns-in-EndOfCall-clause-sink : goal.returns-in-EndOfCall-clause-sink
returns-in-EndOfCall-clause-sink g c =
    let asks = subst (λ front. AsksFor front c.args.work.now) c.in-EndOfCall.is c.requires.asks in
    let p = performs-closed c.args.work.now c.drop_active.new.self c.in-EndOfCall.place c.requires.sound asks.0 asks.1 c.drop_active.ensures.rest in
    rw (function-performs _ _ _ c.args.meta.now p) c.perform.ensures.sink
