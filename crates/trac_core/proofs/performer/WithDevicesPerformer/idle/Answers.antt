use Rattle.trac_core.proofs.Imports.{◌≡◌, ◌≢◌, ◌+◌, ◌-◌, None, arith, rules}
use Rattle.trac_core.proofs.ReadInPlace.{goes-on, ends-here}
use Rattle.trac_core.proofs.performer.WithDevicesPerformer.idle.Goals as goal

pub returns-then-is_none-clause-read : goal.returns-then-is_none-clause-read
returns-then-is_none-clause-read g c =
    let r = c.read_in_place-outcome.ensures.reads in
    let outcome = c.read_in_place-outcome.result in
    let new = c.read_in_place-outcome.new.work in
    let none : outcome.fate ≡ None = search rules in
    let long = (r.scans none).1.0 in
    let few = (r.scans none).1.1.0 in
    goes-on g.I.Source.tells g.I.Source.stream g.I.Source.failure_count g.O.Sink.tells g.O.Sink.flushed g.O.Sink.written g.O.Sink.lent g.O.Sink.failure_count
    outcome c.args.work.now new _ c.args.meta c.args.source.now c.read_in_place-outcome.new.source c.args._sink.now r
    (c.args.left.now - (c.args.left.now - (1 + c.from.result)) - 1) none (omega (arith, long, few, c.from.ensures, c.neutral_len.ensures.value, c.if-left-eq0.false))

pub returns-else-is_none-clause-read : goal.returns-else-is_none-clause-read
returns-else-is_none-clause-read g c =
    let r = c.read_in_place-outcome.ensures.reads in
    let outcome = c.read_in_place-outcome.result in
    let some : outcome.fate ≢ None = search rules in
    ends-here g.I.Source.tells g.I.Source.stream g.I.Source.failure_count g.O.Sink.tells g.O.Sink.flushed g.O.Sink.written g.O.Sink.lent g.O.Sink.failure_count
    outcome c.args.work.now c.read_in_place-outcome.new.work _ c.args.meta c.args.source.now c.read_in_place-outcome.new.source c.args._sink.now r
    (c.args.left.now - c.args.left.now - 1) (omega arith) some
