use Rattle.trac_forms.proofs.Imports.{◌≡◌, ◌+◌, ◌-◌, length, take, sym, ap, ◌∙◌, subst, arith, length-set, Comma, Lists, forms_in, IsIndex, buried, home_in}
use Rattle.trac_forms.proofs.FormTables.{index-cut}
use Rattle.trac_forms.proofs.index.unindex_from.Goals as goal

pub loop-left-preserved : goal.loop-left-preserved
loop-left-preserved c =
    let forms = forms_in c.args.space.now.store in
    let i = c.loop-left.invariant in
    let k = c.loop-left.left - 1 in
    let was = c.loop-left.space.index_area in
    let e : c.loop-left.left ≡ k + 1 = omega (arith, c.loop-left-test.true) in
    let is : c.bury.new.space.index_area ≡ buried was k = ap (λ (w : Lists). w.index_area) c.bury.ensures in
    let table = index-cut was forms k (omega (arith, i.more, e)) (subst (λ n. IsIndex was (take n forms)) e (i.index i.some)) in
    record {
      same = c.bury.ensures ∙ ap (λ (w : Lists). record w { index_area = buried was k }) i.same ∙ ap (λ t. record c.args.space.now { index_area = t }) (sym is);
      some = omega (arith, i.some, ap length is, length-set was (home_in was k) Comma);
      more = omega (arith, i.more);
      order = omega (arith, c.loop-left-test.true);
      index = λ _. subst (λ t. IsIndex t (take k forms)) (sym is) table;
    }
