use Rattle.trac_core.proofs.Imports.{◌≡◌, ◌∙◌, arith, subst, sym, ◌≤◌, get_or-map-range_with_len, character_of, side_of}
use Rattle.trac_core.proofs.Matching.{side-small}
use Rattle.trac_core.proofs.runs.side.Goals as goal

pub returns-clause-side : goal.returns-clause-side
returns-clause-side c =
    let same : c.from.result ≡ character_of c.args.cell.now = c.from.ensures ∙ c.byte_in.ensures in
    get_or-map-range_with_len side_of 0 256 c.from.result (character_of c.args.cell.now) 0 (omega (arith, c.from.ensures)) (omega (arith, same))

pub returns-clause-small : goal.returns-clause-small
returns-clause-small c =
    let same : c.from.result ≡ character_of c.args.cell.now = c.from.ensures ∙ c.byte_in.ensures in
    subst (λ n. n ≤ 16) (sym (get_or-map-range_with_len side_of 0 256 c.from.result (character_of c.args.cell.now) 0 (omega (arith, c.from.ensures)) (omega (arith, same)))) (side-small (character_of c.args.cell.now))
