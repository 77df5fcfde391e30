use Rattle.trac_forms.proofs.Imports.{◌≡◌, ◌∷◌, drop, sym, ap, ◌∙◌, length, arith, length-drop}
use Rattle.trac_forms.proofs.GivenForms.{item-next, item-written}
use Rattle.trac_forms.proofs.form_writing.write_items.Goals as goal

pub next_item-requires : goal.next_item-requires
next_item-requires g c =
    λ none. omega (arith, ap length none, ap length c.loop-i.invariant.rest, length-drop c.loop-i.i (g.B.Body.items c.args.body.now), c.requires.len)

pub loop-i-preserved : goal.loop-i-preserved
loop-i-preserved g c =
    let s = c.args.space.now in
    let items = g.B.Body.items c.args.body.now in
    let i = c.loop-i.i in
    let rest = g.B.Body.items c.next_item.new.self in
    let next : drop i items ≡ c.next_item.result ∷ rest = sym c.loop-i.invariant.rest ∙ c.next_item.ensures in
    record {
      written = c.write_store.ensures ∙ rw (c.cell_of.ensures, c.loop-i.invariant.written) (ap (λ cells. record s { store = cells }) (item-written s.store c.args.at i items rest c.next_item.result (omega (arith, c.requires)) (omega (arith, c.requires)) next));
      rest = sym (item-next items rest i c.next_item.result (omega (arith, c.requires)) next).1;
    }
