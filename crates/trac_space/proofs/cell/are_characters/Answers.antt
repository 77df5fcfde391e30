use Rattle.trac_space.proofs.Imports.{take, drop, sym, ◌∙◌}
use Rattle.trac_space.proofs.Characters.{bytes-kinds, kinds-bytes, none-is}
use Rattle.trac_space.proofs.cell.are_characters.Goals as goal

pub returns : goal.returns
returns c =
    let cells = take 8 (drop c.args.at c.args.cells.now) in
    let is = none-is c.kinds.result in
    (λ none. bytes-kinds cells (sym c.kinds.ensures ∙ is.0 none), λ bytes. is.1 (c.kinds.ensures ∙ kinds-bytes cells bytes))
