use Rattle.trac_devices.proofs.Imports.{◌-◌, take, drop, sym, ap, ◌∙◌, take-map, drop-map, character_of}
use Rattle.trac_devices.proofs.characters.Characters.part.Goals as goal

pub returns : goal.returns
returns c =
    let cells = c.self.inside.cells.now in
    let n = c.args.b - c.args.a in
    rw (← c.self.view_is)
    (sym (ap (take n) (drop-map character_of c.args.a cells) ∙ take-map character_of n (drop c.args.a cells)))
