use Rattle.trac_functions.proofs.Imports.{◌≡◌, ◌∙◌, arith, to_ascii_lowercase, get_or-map-range_with_len, character_of}
use Rattle.trac_functions.proofs.function.lower.Goals as goal

pub returns : goal.returns
returns c =
    let same : c.from.result ≡ character_of c.args.cell.now = c.from.ensures ∙ c.character_of.ensures in
    get_or-map-range_with_len to_ascii_lowercase 0 256 c.from.result (character_of c.args.cell.now) 0 (omega (arith, c.from.ensures)) (omega (arith, same))
