use Rattle.trac_core.proofs.Imports.{◌≡◌, ◌∙◌, arith, subst, sym, ◌≤◌, get_or-map-range_with_len, character_of, kind_of}
use Rattle.trac_core.proofs.OrdinaryBlocks.{kind-small}
use Rattle.trac_core.proofs.runs.kind.Goals as goal

pub returns-clause-kind : goal.returns-clause-kind
returns-clause-kind c =
    let same : c.from.result ≡ character_of c.args.cell.now = c.from.ensures ∙ c.byte_in.ensures in
    get_or-map-range_with_len kind_of 0 256 c.from.result (character_of c.args.cell.now) 0 (omega (arith, c.from.ensures)) (omega (arith, same))

pub returns-clause-small : goal.returns-clause-small
returns-clause-small c =
    let same : c.from.result ≡ character_of c.args.cell.now = c.from.ensures ∙ c.byte_in.ensures in
    subst (λ n. n ≤ 2) (sym (get_or-map-range_with_len kind_of 0 256 c.from.result (character_of c.args.cell.now) 0 (omega (arith, c.from.ensures)) (omega (arith, same)))) (kind-small (character_of c.args.cell.now))
