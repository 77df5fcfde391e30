use Rattle.trac_forms.proofs.Imports.{◌≡◌, ◌+◌, ◌/◌, ◌<◌, length, take, sym, ap, ◌∙◌, subst, arith, Lists, text_of_cells, name_at, forms_in, hash, IsIndex, IsOpenFor}
use Rattle.trac_store.proofs.Finding.{shown-bytes, shown-text}
use Rattle.trac_forms.proofs.FormTables.{index-next}
use Rattle.trac_forms.proofs.index.index_form.Goals as goal

pub returns-else-not-add-clause-index : goal.returns-else-not-add-clause-index
returns-else-not-add-clause-index c =
    let s = c.args.space.now in
    let forms = forms_in s.store in
    let k = c.args.form.number in
    let name : text_of_cells c.store_part.result.now ≡ name_at forms k = shown-text _ _ (c.store_part.ensures ∙ c.heads_of-heads.ensures.name_cells) in
    let number : c.hash-first.result ≡ hash (name_at forms k) = c.hash-first.ensures.value ∙ ap hash name in
    let done = c.if-not-add.ensures.done in
    let index = c.requires.state.index (omega (arith, c.index_area_len.ensures.value, c.if-index_area_len-eq0.false)) in
    let place = subst (λ n. IsOpenFor s.index_area n done.0) number done.1 in
    let overflow : k < length s.index_area / 4 = omega (arith, c.index_area_len-2.ensures.value, c.if-form-index_area_len.false) in
    let all = index-next s.index_area forms k done.0 c.args.form.start (record { within = c.requires.some; start_is = c.requires.state.place.start_is }) index overflow place in
    λ _. subst (λ t. IsIndex t (take (k + 1) forms)) (sym (ap (λ (w : Lists). w.index_area) done.2)) all

pub hash-first-requires : goal.hash-first-requires
hash-first-requires c =
    shown-bytes _ _ (c.store_part.ensures ∙ c.heads_of-heads.ensures.name_cells)
