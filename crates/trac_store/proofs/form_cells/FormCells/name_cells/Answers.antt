use Rattle.trac_store.proofs.Imports.{◌≡◌, ◌+◌, length, map, slice_range, ap, ◌∙◌, arith, seen, name_at, forms_in}
use Rattle.trac_store.proofs.Finding.{Begins, begins_at, number_is}
use Rattle.trac_store.proofs.HeadCells.{is_head}
use Rattle.trac_store.proofs.form_cells.FormCells.name_cells.Goals as goal
use Rattle.trac_store.proofs.form_cells.FormCells.name_cells.Goals.{After-self, After-number_in_head-len}

-- the form begins at the place
here : (c : After-self) → Begins c.self.inside.cells.now c.args.form.number c.args.form.start
here c = begins_at _ _ _ c.self.invariant.whole (rw (← c.self.view_is) at c.requires.form).within (rw (← c.self.view_is) at c.requires.form).start_is

pub bounds-cells-start : goal.bounds-cells-start
bounds-cells-start c = omega (arith, (here (goal.at.bounds-cells-start c).After-self).end)

pub number_in_head-len-requires : goal.number_in_head-len-requires
number_in_head-len-requires c = is_head _ _ (here (goal.at.number_in_head-len-requires c).After-self).name_len

pub slice_bounds-result-end : goal.slice_bounds-result-end
slice_bounds-result-end c =
    let b = here (goal.at.slice_bounds-result-end c).After-self in
    omega (arith, b.end, c.number_in_head-len.ensures ∙ number_is _ _ b.name_len)

pub returns : goal.returns
returns c =
    let cells = c.self.inside.cells.now in
    let from = c.args.form.start + 3 in
    let b = here (goal.at.returns c).After-self in
    let len : c.number_in_head-len.result ≡ length (name_at (forms_in (map seen cells)) c.args.form.number) = c.number_in_head-len.ensures ∙ number_is _ _ b.name_len in
    rw (← c.self.view_is) (ap (λ n. map seen (slice_range cells from (from + n))) len ∙ b.name_part)
