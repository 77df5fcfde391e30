use Rattle.trac_store.proofs.Imports.{◌≡◌, [], ◌∷◌, length, ap, refl, ◌∙◌, arith, Head, forms_in, form_at}
use Rattle.trac_store.proofs.HeadCells.{heads-shown}
use Rattle.trac_store.proofs.Places.{Stands, stands}
use Rattle.trac_store.proofs.form_heads.heads_of.Goals as goal
use Rattle.trac_store.proofs.form_heads.heads_of.Goals.{Start, After-store_part-cells}

-- where the form stands
form : (c : Start) → Stands (forms_in c.args.space.now.store) c.args.space.now.store c.args.form.number c.args.form.start
form c = stands _ _ _ _ c.requires.forms.whole c.requires.form.within c.requires.form.start_is

pub overflow_add-form : goal.overflow_add-form
overflow_add-form c = omega (arith, (form (goal.at.overflow_add-form c).Start).end, c.requires.forms.bounded)

pub store_part-cells-requires-clause-within : goal.store_part-cells-requires-clause-within
store_part-cells-requires-clause-within c = omega (arith, (form (goal.at.store_part-cells-requires-clause-within c).Start).end)

-- the slice is its three heads
three : (c : After-store_part-cells) → let form = form_at (forms_in c.args.space.now.store) c.args.form.number in c.store_part-cells.result.now ≡ Head (length form.name) ∷ Head (length form.body) ∷ Head form.pointer ∷ []
three c =
    let form = form_at (forms_in c.args.space.now.store) c.args.form.number in
    let f = stands _ _ _ _ c.requires.forms.whole c.requires.form.within c.requires.form.start_is in
    heads-shown _ (length form.name ∷ length form.body ∷ form.pointer ∷ []) (c.store_part-cells.ensures ∙ f.heads)

pub bounds-cells-0 : goal.bounds-cells-0
bounds-cells-0 c = omega (arith, ap length (three (goal.at.bounds-cells-0 c).After-store_part-cells))

pub bounds-cells-1 : goal.bounds-cells-1
bounds-cells-1 c = omega (arith, ap length (three (goal.at.bounds-cells-1 c).After-store_part-cells))

pub bounds-cells-2 : goal.bounds-cells-2
bounds-cells-2 c = omega (arith, ap length (three (goal.at.bounds-cells-2 c).After-store_part-cells))

pub number_in_head-requires : goal.number_in_head-requires
number_in_head-requires c = rw (three (goal.at.number_in_head-requires c).After-store_part-cells) refl

pub number_in_head-requires-2 : goal.number_in_head-requires-2
number_in_head-requires-2 c = rw (three (goal.at.number_in_head-requires-2 c).After-store_part-cells) refl

pub number_in_head-requires-3 : goal.number_in_head-requires-3
number_in_head-requires-3 c = rw (three (goal.at.number_in_head-requires-3 c).After-store_part-cells) refl

pub returns : goal.returns
returns c =
    let at = goal.at.returns c in
    let f = form at.Start in
    let cells = three at.After-store_part-cells in
    let name = rw cells at c.number_in_head.ensures in
    let body = rw cells at c.number_in_head-2.ensures in
    record {
      name = name;
      body = body;
      pointer = rw cells at c.number_in_head-3.ensures;
      next = omega (arith, f.next, name, body);
      within = omega (arith, f.end, name, body);
      name_cells = rw name f.name_part;
      body_cells = rw (name, body) f.body_part;
    }
