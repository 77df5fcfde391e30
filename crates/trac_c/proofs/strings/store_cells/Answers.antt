use Rattle.trac_c.proofs.Imports.{◌∙◌, sym, ap, length, arith, length-map, character_of, neutral_in}
use Rattle.trac_c.proofs.Coding.{codes-size}
use Rattle.trac_c.proofs.strings.store_cells.Goals as goal

pub returns : goal.returns
returns c =
    let active = sym (length-map c.active.result.now character_of) ∙ ap (λ t. length t) c.active.ensures in
    let neutral = c.neutral_cells.ensures ∙ codes-size (neutral_in c.args.machine.now.memory) in
    omega (arith, active, neutral)
