use Rattle.trac_forms.proofs.Imports.{◌≡◌, length, length-map, length-between, ap, sym, ◌∙◌, arith}
use Rattle.trac_forms.proofs.ListedForms.{run-items}
use Rattle.trac_store.specs.Stored.{item_of}
use Rattle.trac_forms.proofs.listed.StoredForm.run.Goals as goal

pub returns-clause-items : goal.returns-clause-items
returns-clause-items c =
    let body = c.self.inside.body.now in
    let all : length body ≡ length c.args.self.now.body = sym (length-map body item_of) ∙ ap (λ form. length form.body) c.self.view_is in
    let size = length-between body c.args.from c.args.to (omega (arith, c.requires.within, all)) in
    let found = c.characters_from-count.ensures in
    rw (← c.self.view_is)
    (run-items body c.args.from c.args.to c.characters_from-count.result (omega (arith, found.few, c.requires.order, size)) (omega (arith, c.requires.within, all)) found.bytes)
