use Rattle.trac_core.proofs.Imports.{None, sym, ap, subst, arith, input_failures, output_failures, memory_of, performs, LeavesSource, LeavesSink, KeepsFormsAndMeta, counted}
use Rattle.trac_functions.proofs.FlatLemmas.{size-used}
use Rattle.trac_core.proofs.Advancing.{counted-memory}
use Rattle.trac_core.proofs.performer.WithDevicesPerformer.perform.Goals as goal

pub returns-clause-done : goal.returns-clause-done
returns-clause-done g c = λ m room_is memory_is allowed.
    let h = c.perform_next.ensures in
    let last = c.perform_next.result in
    let new = memory_of c.perform_next.new.meta c.perform_next.new.work in
    record {
      answers = λ tells told. h.tried tells told m room_is memory_is allowed;
      takes = λ tells. (let took = h.takes tells in (took.0, (took.1.consumed, let few = took.1.few in rw (memory_is, room_is) (omega (arith, size-used c.args.meta.now c.args.work.now)))));
      source = subst (λ memory. LeavesSource g.I.Source.tells g.I.Source.failure_count last.fate (performs memory) c.args.source.now c.perform_next.new.source) (sym memory_is) h.source;
      sink = subst (λ memory. LeavesSink g.O.Sink.tells g.O.Sink.flushed g.O.Sink.written g.O.Sink.lent g.O.Sink.failure_count last.fate (performs memory) c.args.sink.now c.perform_next.new.sink) (sym memory_is) h.sink;
      unspent = h.unspent;
      keeps = λ some. subst (λ old. KeepsFormsAndMeta old (counted m new last.need last.fate).memory) (sym memory_is)
          (subst (KeepsFormsAndMeta (memory_of c.args.meta.now c.args.work.now)) (sym (counted-memory m new last.need last.fate)) (h.stay some));
    }

pub returns-clause-ready : goal.returns-clause-ready
returns-clause-ready g c = λ none.
    let h = c.perform_next.ensures in
    let inputs = ap (input_failures None) none in
    let outputs = ap (output_failures None) none in
    (omega (arith, c.requires.ready.0, h.source.1, inputs), omega (arith, c.requires.ready.1, h.sink.1, outputs))
