use Rattle.trac_forms.proofs.Imports.{texts_between}
use Rattle.trac_forms.proofs.Removed.{formed, none-marked, marks-forms, marks-count, removed-shown, removed-stored}
use Rattle.trac_forms.proofs.work.Work.delete_named.Goals as goal

pub mark_all-first-requires-clause-formed : goal.mark_all-first-requires-clause-formed
mark_all-first-requires-clause-formed c =
    formed c.self.inside.space c.self.inside.count c.self.inside.last.number c.self.inside.last.start c.self.invariant

pub take_out_marked-self-inside-requires-clause-forms :
    goal.take_out_marked-self-inside-requires-clause-forms
take_out_marked-self-inside-requires-clause-forms c =
    let names = texts_between c.self.inside.space.neutral c.args.from c.args.end in
    record {
      forms = marks-forms names c.self.invariant c.mark_all-first.ensures.marked;
      count_is = marks-count names c.self.invariant c.mark_all-first.ensures.marked;
      index = c.mark_all-first.ensures.index;
    }

pub invariant_of-self : goal.invariant_of-self
invariant_of-self c =
    let gone = c.take_out_marked-self-inside.ensures in
    removed-stored (texts_between c.self.inside.space.neutral c.args.from c.args.end) c.self.invariant c.mark_all-first.ensures.marked c.take_out_marked-self-inside.new.space gone.gone c.take_out_marked-self-inside.result gone.count gone.index

pub returns-clause-gone : goal.returns-clause-gone
returns-clause-gone c =
    rw (← c.self.view_is) (removed-shown (texts_between c.self.inside.space.neutral c.args.from c.args.end) c.self.invariant c.mark_all-first.ensures.marked c.take_out_marked-self-inside.new.space c.take_out_marked-self-inside.ensures.gone)

pub returns-clause-sound : goal.returns-clause-sound
returns-clause-sound c = (invariant_of-self c).sound

pub mark_all-first-requires-clause-none_before : goal.mark_all-first-requires-clause-none_before
mark_all-first-requires-clause-none_before c =
    none-marked c.self.inside.space c.self.inside.count c.self.inside.last.number c.self.inside.last.start c.self.invariant
