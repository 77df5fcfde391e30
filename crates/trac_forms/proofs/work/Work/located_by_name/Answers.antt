use Rattle.trac_forms.proofs.Imports.{◌<◌, length, arith, both_ways}
use Rattle.trac_store.proofs.DistinctForms.{NoneNamed-more}
use Rattle.trac_forms.proofs.work.Work.located_by_name.Goals as goal

pub loop-number-preserved : goal.loop-number-preserved
loop-number-preserved c =
    let forms = c.args.self.now.forms in
    let within : c.loop-number.number < length forms = rw (← c.self.view_is) (omega (arith, c.self.invariant.count_is, c.loop-number-test.true)) in
    record {
      begins = rw (← c.self.view_is) c.end_of-start.ensures.next;
      none = NoneNamed-more c.args.name.now forms c.loop-number.number within c.loop-number.invariant.none (λ same. both_ways c.is_named.result c.if-is_named.false (c.is_named.ensures.1 same));
    }
