use Rattle.trac_forms.proofs.Imports.{All-map, Byte, Call, Cell, Comma, Gap, Head, IsByte, Some, ap, bytes-seen, form_named, form_named-at, form_named-none, forms_in, map, seen, sym, text_of_cells, ◌∙◌}
use Rattle.trac_forms.proofs.work.Work.stored_named.Goals as goal

byte-seen : (cell : Cell) → IsByte cell → IsByte (seen cell)
byte-seen (Byte b) h = h
byte-seen (Call mode n) h = h
byte-seen Comma h = h
byte-seen (Gap n) h = h
byte-seen (Head n) h = h

pub find_by_name-requires : goal.find_by_name-requires
find_by_name-requires c =
    All-map IsByte seen c.args.name.now (λ k d within. byte-seen _ (c.requires k d within))

pub returns-in-Some : goal.returns-in-Some
returns-in-Some c =
    let forms = forms_in c.self.inside.space.store in
    let sound = c.self.invariant.sound.forms in
    let name = ap (λ t. form_named t forms) (bytes-seen c.args.name.now) in
    let at = form_named-at (text_of_cells (map seen c.args.name.now)) forms c.in-Some.form.number sound (rw c.new-finder.ensures at c.in-Some.ensures).named in
    ap Some c.stored_at.ensures ∙ rw (← c.self.view_is) (sym at ∙ name)

pub returns-in-None : goal.returns-in-None
returns-in-None c =
    let forms = forms_in c.self.inside.space.store in
    let name = ap (λ t. form_named t forms) (bytes-seen c.args.name.now) in
    rw (← c.self.view_is) (sym (form_named-none (text_of_cells (map seen c.args.name.now)) forms (rw c.new-finder.ensures at c.in-None.ensures)) ∙ name)
