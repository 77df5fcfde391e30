use Rattle.trac_forms.proofs.Imports.{length, map, ap, length-map, Byte, flat_item}
use Rattle.trac_store.proofs.FlatLemmas.{flat_items_of}
use Rattle.trac_forms.proofs.GivenForms.{form-written}
use Rattle.trac_forms.proofs.form_writing.write_given.Goals as goal

pub returns : goal.returns
returns g c =
    let s = c.args.space.now in
    let name = c.args.name.now in
    let items = g.B.Body.items c.args.body.now in
    let is = form-written s.store c.args.start (map Byte name) (map flat_item items) (record { name = length name; body = length items; pointer = c.args.pointer }) (length-map name Byte) (length-map items flat_item) (rw c.requires.len at c.requires.last) in
    rw (c.write_items-2.ensures, c.write_items.ensures, c.write_store-3.ensures, c.write_store-2.ensures, c.write_store.ensures, c.of.ensures, flat_items_of name, c.requires.len)
    (ap (λ cells. record s { store = cells }) is)
