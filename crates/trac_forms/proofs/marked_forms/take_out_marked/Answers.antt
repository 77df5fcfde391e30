use Rattle.trac_forms.proofs.Imports.{◌≡◌, length, take, sym, ap, ◌∙◌, subst, arith, Lists, IsIndexed, unmarked, forms_in, IsPlace}
use Rattle.trac_forms.proofs.Removals.{unmarked-read, unmarked-forms}
use Rattle.trac_forms.proofs.Sweeping.{first-stay, place-stays}
use Rattle.trac_forms.proofs.marked_forms.take_out_marked.Goals as goal

pub index_from-requires-clause-count_is : goal.index_from-requires-clause-count_is
index_from-requires-clause-count_is c =
    let read = unmarked-read c.args.space.now _ _ c.unindex_from.ensures.same c.remove_marked-count.ensures.gone in
    let forms = ap (λ (w : Lists). length (unmarked (forms_in w.store))) c.unindex_from.ensures.same in
    omega (arith, ap length read, forms, c.remove_marked-count.ensures.count)

pub returns-clause-index : goal.returns-clause-index
returns-clause-index c =
    subst (IsIndexed c.index_from.new.space.index_area) (unmarked-read c.args.space.now _ _ c.unindex_from.ensures.same c.remove_marked-count.ensures.gone) c.index_from.ensures.index

pub index_from-requires-clause-state : goal.index_from-requires-clause-state
index_from-requires-clause-state c =
    let s = c.args.space.now in
    let k = c.args.first.number in
    let read = unmarked-read s _ _ c.unindex_from.ensures.same c.remove_marked-count.ensures.gone in
    let front : take k (forms_in c.remove_marked-count.new.space.store) ≡ take k (forms_in s.store) = ap (take k) read ∙ first-stay (forms_in s.store) k c.args.first.start c.requires.first in
    let index_area : c.remove_marked-count.new.space.index_area ≡ c.unindex_from.new.space.index_area = ap (λ (w : Lists). w.index_area) c.remove_marked-count.ensures.gone in
    record {
      forms = unmarked-forms s _ _ c.unindex_from.ensures.same c.remove_marked-count.ensures.gone c.requires.forms.forms;
      place = subst (λ fs. IsPlace fs k c.args.first.start) (sym read) (place-stays (forms_in s.store) k c.args.first.start c.requires.first);
      index = subst (λ l. IsIndexed l (take k (forms_in c.remove_marked-count.new.space.store))) (sym index_area) (subst (IsIndexed c.unindex_from.new.space.index_area) (sym front) c.unindex_from.ensures.index);
    }
