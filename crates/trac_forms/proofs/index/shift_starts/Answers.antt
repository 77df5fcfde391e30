use Rattle.trac_forms.proofs.Imports.{◌≡◌, ◌+◌, ◌-◌, ◌<◌, length, sym, ap, ◌∙◌, subst, refl, arith, length-set, Head, Lists, IsIndexBut, start_place, start_in, earlier, started}
use Rattle.trac_forms.proofs.FormTables.{index-started, start-there, index-earlier, index-unmoved}
use Rattle.trac_forms.proofs.index.shift_starts.Goals as goal

pub loop-next-init : goal.loop-next-init
loop-next-init c = record {
  same = refl;
  len = refl;
  index = λ name start index. index-started c.args.k c.args.count c.args.cells name start c.args.space.now.index_area index;
}

pub start_earlier-requires-clause-cells : goal.start_earlier-requires-clause-cells
start_earlier-requires-clause-cells c =
    let h = c.requires (omega (arith, c.index_area_len.ensures.value, c.if-index_area_len-eq0.false)) in
    let index = c.loop-next.invariant.index h.0 h.1.0 h.1.1.index in
    let next = c.loop-next.next in
    let behind : c.args.k < next = omega (arith, c.loop-next.auto.next) in
    omega (arith, start-there c.args.k c.args.count c.args.cells h.0 h.1.0 c.loop-next.space.index_area next behind c.loop-next-test.true index, h.1.1.front next behind c.loop-next-test.true)

pub loop-next-preserved : goal.loop-next-preserved
loop-next-preserved c =
    let index_area = c.loop-next.space.index_area in
    let next = c.loop-next.next in
    let behind : c.args.k < next = omega (arith, c.loop-next.auto.next) in
    let is : c.start_earlier.new.space.index_area ≡ earlier index_area next c.args.cells = ap (λ (w : Lists). w.index_area) c.start_earlier.ensures in
    record {
      same = c.start_earlier.ensures ∙ ap (λ (w : Lists). record w { index_area = earlier index_area next c.args.cells }) c.loop-next.invariant.same ∙ ap (λ t. record c.args.space.now { index_area = t }) (sym is);
      len = ap length is ∙ length-set index_area (start_place index_area next) (Head (start_in index_area next - c.args.cells)) ∙ c.loop-next.invariant.len;
      index = λ name start index. subst (λ t. IsIndexBut t c.args.count c.args.count name (started c.args.k (next + 1) c.args.cells start)) (sym is) (index-earlier c.args.k c.args.count c.args.cells name start index_area next behind c.loop-next-test.true (c.loop-next.invariant.index name start index));
    }

pub returns-clause-index : goal.returns-clause-index
returns-clause-index c = λ name start index.
    let h = c.requires (omega (arith, c.index_area_len.ensures.value, c.if-index_area_len-eq0.false)) in
    let all : c.loop-next.next ≡ c.args.count = omega (arith, c.loop-next.auto.next, c.loop-next.auto.next-end, c.loop-next-test.false, h.1.1.within) in
    subst (λ n. IsIndexBut c.loop-next.space.index_area c.args.count c.args.count name (started c.args.k n c.args.cells start)) all (c.loop-next.invariant.index name start index)

pub returns-then-cells-eq0-clause-index : goal.returns-then-cells-eq0-clause-index
returns-then-cells-eq0-clause-index c = λ name start index. index-unmoved c.args.k c.args.count c.args.cells name start c.args.space.now.index_area c.if-cells-eq0.true index
