use Rattle.trac_forms.proofs.Imports.{◌≡◌, ◌+◌, ◌-◌, ◌<◌, length, sym, ap, ◌∙◌, subst, arith, Lists, name_at, forms_in, start_of, IsIndexBut, buried, forward, start_in, home_in, slots}
use Rattle.trac_store.proofs.Places.{stands}
use Rattle.trac_forms.proofs.FormTables.{names_now, starts_now, home-within, index-buried, index-gap, next-home, next-start, index-forward, index-removed}
use Rattle.trac_forms.proofs.index.unindex.Goals as goal

pub bury-requires : goal.bury-requires
bury-requires c =
    let forms = forms_in c.args.space.now.store in
    let index = c.requires.forms.index (omega (arith, c.index_area_len.ensures.value, c.if-index_area_len-eq0.false)) in
    record {
      place = omega (arith, index.overflow, c.requires.form.within);
      home = home-within c.args.space.now.index_area (length forms) c.args.form.number (name_at forms) (start_of forms) index c.requires.form.within;
    }

pub loop-next-init : goal.loop-next-init
loop-next-init c =
    let s = c.args.space.now in
    let forms = forms_in s.store in
    let k = c.args.form.number in
    let within : k < length forms = c.requires.form.within in
    let index = c.requires.forms.index (omega (arith, c.index_area_len.ensures.value, c.if-index_area_len-eq0.false)) in
    let index_area = c.bury.new.space.index_area in
    let is : index_area ≡ buried s.index_area k = ap (λ (w : Lists). w.index_area) c.bury.ensures in
    let gap = index-gap forms k within (buried s.index_area k) (index-buried s.index_area (length forms) k (name_at forms) (start_of forms) index within) in
    let e : k + 1 - 1 ≡ k = omega arith in
    record {
      same = c.bury.ensures ∙ ap (λ t. record s { index_area = t }) (sym is);
      index = subst (λ g. IsIndexBut index_area (length forms) g (names_now forms k g) (starts_now forms k g)) (sym e) (subst (λ t. IsIndexBut t (length forms) k (names_now forms k k) (starts_now forms k k)) (sym is) gap);
    }

pub bring_forward-requires-clause-home : goal.bring_forward-requires-clause-home
bring_forward-requires-clause-home c =
    let forms = forms_in c.args.space.now.store in
    let index_area = c.loop-next.space.index_area in
    let next = c.loop-next.next in
    let e : next - 1 + 1 ≡ next = omega (arith, c.loop-next.auto.next) in
    let less = next-home forms c.args.form.number c.requires.form.within index_area (next - 1) (omega (arith, e, c.loop-next-test.true, c.requires.forms.count_is)) c.loop-next.invariant.index in
    record {
      place = omega (arith, c.loop-next.invariant.index.overflow, c.loop-next-test.true, c.requires.forms.count_is);
      home = subst (λ n. home_in index_area n < slots index_area) e less;
    }

-- the cells of the form that leaves
pub bring_forward-requires-clause-cells : goal.bring_forward-requires-clause-cells
bring_forward-requires-clause-cells c =
    let forms = forms_in c.args.space.now.store in
    let index_area = c.loop-next.space.index_area in
    let next = c.loop-next.next in
    let within : c.args.form.number < length forms = c.requires.form.within in
    let f = stands forms c.args.space.now.store c.args.form.number c.args.form.start c.requires.forms.forms.whole within c.requires.form.start_is in
    let e : next - 1 + 1 ≡ next = omega (arith, c.loop-next.auto.next) in
    let there = next-start forms c.args.form.number within index_area (next - 1) (omega (arith, c.loop-next.auto.next)) (omega (arith, e, c.loop-next-test.true, c.requires.forms.count_is)) c.loop-next.invariant.index in
    omega (arith, there, ap (start_in index_area) e, f.next, c.end_of.ensures.next)

pub loop-next-preserved : goal.loop-next-preserved
loop-next-preserved c =
    let s = c.args.space.now in
    let forms = forms_in s.store in
    let k = c.args.form.number in
    let index_area = c.loop-next.space.index_area in
    let next = c.loop-next.next in
    let cells = c.end_of.result - c.args.form.start in
    let within : k < length forms = c.requires.form.within in
    let f = stands forms s.store k c.args.form.start c.requires.forms.forms.whole within c.requires.form.start_is in
    let e : next - 1 + 1 ≡ next = omega (arith, c.loop-next.auto.next) in
    let e2 : next ≡ next + 1 - 1 = omega arith in
    let more = index-forward forms k within index_area (next - 1) cells (omega (arith, c.loop-next.auto.next)) (omega (arith, e, c.loop-next-test.true, c.requires.forms.count_is)) (omega (arith, f.next, c.end_of.ensures.next)) c.loop-next.invariant.index in
    let here = subst (λ n. IsIndexBut (forward index_area n cells) (length forms) n (names_now forms k n) (starts_now forms k n)) e more in
    let now = c.bring_forward.new.space.index_area in
    let is : now ≡ forward index_area next cells = ap (λ (w : Lists). w.index_area) c.bring_forward.ensures in
    record {
      same = c.bring_forward.ensures ∙ ap (λ (w : Lists). record w { index_area = forward index_area next cells }) c.loop-next.invariant.same ∙ ap (λ t. record s { index_area = t }) (sym is);
      index = subst (λ g. IsIndexBut now (length forms) g (names_now forms k g) (starts_now forms k g)) e2 (subst (λ t. IsIndexBut t (length forms) next (names_now forms k next) (starts_now forms k next)) (sym is) here);
    }

pub returns-clause-index : goal.returns-clause-index
returns-clause-index c =
    let forms = forms_in c.args.space.now.store in
    λ _. index-removed forms c.args.form.number c.requires.form.within c.loop-next.space.index_area (c.loop-next.next - 1) (omega (arith, c.loop-next.auto.next, c.loop-next.auto.next-end, c.loop-next-test.false, c.requires.form.within, c.requires.forms.count_is)) c.loop-next.invariant.index
