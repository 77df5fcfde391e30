use Rattle.trac_forms.proofs.Imports.{ap, length, arith}
use Rattle.trac_forms.proofs.ListedForms.{first-listed}
use Rattle.trac_forms.proofs.listed.FormsIterator.next.Goals as goal

pub invariant_of-self : goal.invariant_of-self
invariant_of-self c =
    (first-listed c.self.inside.cells.now c.self.inside.count c.number_in_head.result c.number_in_head-2.result c.number_in_head-3.result c.self.invariant c.if-self-eq0.false c.number_in_head.ensures c.number_in_head-2.ensures c.number_in_head-3.ensures).rest

pub returns-clause-steps : goal.returns-clause-steps
returns-clause-steps c =
    rw (← c.self.view_is)
    (first-listed c.self.inside.cells.now c.self.inside.count c.number_in_head.result c.number_in_head-2.result c.number_in_head-3.result c.self.invariant c.if-self-eq0.false c.number_in_head.ensures c.number_in_head-2.ensures c.number_in_head-3.ensures).forms

pub returns-clause-goes : goal.returns-clause-goes
returns-clause-goes c =
    let first = (first-listed c.self.inside.cells.now c.self.inside.count c.number_in_head.result c.number_in_head-2.result c.number_in_head-3.result c.self.invariant c.if-self-eq0.false c.number_in_head.ensures c.number_in_head-2.ensures c.number_in_head-3.ensures).forms in
    record {
      on = λ finite. (tt, tt, omega (arith, ap length c.self.view_is, ap length first));
      keeps = tt;
      rests = λ finite. tt;
    }
