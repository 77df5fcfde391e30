use Rattle.trac_forms.proofs.Imports.{◌≡◌, ◌+◌, slice_range, sym, ap, ◌∙◌, subst, arith, Lists, before_comma, texts_between, AreParted, IsTextPart, part_texts, flat_forms, with_marks, forms_in}
use Rattle.trac_store.proofs.ArgumentParts.{found-comma, parts-none, shown-fits}
use Rattle.trac_forms.proofs.Removals.{marks-none, first-part, left-parted, marked-first, marked-alone}
use Rattle.trac_forms.proofs.marked_forms.mark_all.Goals as goal

pub overflow_add-to : goal.overflow_add-to
overflow_add-to c =
    let left = c.loop-from.invariant.left in
    omega (arith, shown-fits c.loop-from.space.neutral _ c.loop-from.from c.args.names.to _ c.loop-from-test.true left.within c.neutral_part.ensures c.before_comma.ensures, left.bounded)

pub mark_named-places-requires-clause-name_part : goal.mark_named-places-requires-clause-name_part
mark_named-places-requires-clause-name_part c =
    let from = c.loop-from.from in
    let comma = found-comma c.neutral_part.result.now (slice_range c.loop-from.space.neutral from c.args.names.to) c.before_comma.result c.neutral_part.ensures c.before_comma.ensures in
    let part = first-part c.loop-from.space.neutral from c.args.names.to c.before_comma.result c.loop-from.invariant.left c.loop-from-test.true comma in
    subst (λ cells. IsTextPart cells from (from + c.before_comma.result)) (sym (ap (λ (w : Lists). w.neutral) c.keep_index.ensures.same)) part

pub overflow_add-from : goal.overflow_add-from
overflow_add-from c =
    let left = c.loop-from.invariant.left in
    omega (arith, shown-fits c.loop-from.space.neutral _ c.loop-from.from c.args.names.to _ c.loop-from-test.true left.within c.neutral_part.ensures c.before_comma.ensures, left.bounded)

pub loop-from-preserved : goal.loop-from-preserved
loop-from-preserved c =
    let s = c.loop-from.space in
    let t = c.keep_index.new.space in
    let u = c.mark_named-places.new.space in
    let from = c.loop-from.from in
    let end = c.args.names.to in
    let n = c.before_comma.result in
    let i = c.loop-from.invariant in
    let comma = found-comma c.neutral_part.result.now (slice_range s.neutral from end) n c.neutral_part.ensures c.before_comma.ensures in
    let le = c.loop-from-test.true in
    let same = c.keep_index.ensures.same in
    let kept : t.neutral ≡ s.neutral = ap (λ (w : Lists). w.neutral) same in
    let stored : t.store ≡ s.store = ap (λ (w : Lists). w.store) same in
    let marked = c.mark_named-places.ensures.marked in
    let neutral : u.neutral ≡ s.neutral = ap (λ (w : Lists). w.neutral) marked ∙ kept in
    let parted : AreParted t.neutral from end = rw kept i.left in
    let comma_there : n ≡ before_comma (slice_range t.neutral from end) = comma ∙ ap (λ cells. before_comma (slice_range cells from end)) (sym kept) in
    record {
      left = rw neutral (left-parted s.neutral from end n i.left le comma);
      marking = c.mark_named-places.ensures.marking;
      same = marked-alone c.args.space.now s t u _ i.same same marked;
      marks = ap (λ cells. with_marks (texts_between cells (from + n + 1) end) (forms_in u.store)) (ap (λ (w : Lists). w.neutral) marked)
          ∙ marked-first t.neutral from end n parted le comma_there t u marked
          ∙ ap (λ cells. with_marks (texts_between cells from end) (forms_in t.store)) kept
          ∙ ap (λ cells. with_marks (texts_between s.neutral from end) (forms_in cells)) stored
          ∙ i.marks;
    }

pub returns-clause-marked : goal.returns-clause-marked
returns-clause-marked c =
    let s = c.loop-from.space in
    let i = c.loop-from.invariant in
    let old = c.args.space.now in
    let none = ap (part_texts s.neutral) (parts-none s.neutral c.loop-from.from c.args.names.to (omega (arith, c.loop-from-test.false))) in
    let forms : forms_in s.store ≡ with_marks (texts_between old.neutral c.args.names.from c.args.names.to) (forms_in old.store) =
    sym (ap (λ texts. with_marks texts (forms_in s.store)) none ∙ marks-none (forms_in s.store)) ∙ i.marks in
    i.same ∙ ap (λ cells. record old { store = cells; index_area = s.index_area }) (sym i.marking.formed.kept.has.forms.whole ∙ ap flat_forms forms)
