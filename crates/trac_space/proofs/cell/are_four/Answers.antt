use Rattle.trac_space.proofs.Imports.{◌≡◌, ◌+◌, take, drop, sym, ◌∙◌, arith, IsByte}
use Rattle.trac_space.proofs.Characters.{bytes-kinds, none-is, both-ends}
use Rattle.trac_space.proofs.cell.are_four.Goals as goal

pub returns : goal.returns
returns c = λ t.
    let cells = c.args.cells.now in
    let at = c.args.at in
    let none = (none-is (c.kinds_of_two.result + c.kinds_of_two-2.result)).0 t in
    let first : c.kinds_of_two.result ≡ 0 = omega (arith, none) in
    let second : c.kinds_of_two-2.result ≡ 0 = omega (arith, none) in
    both-ends IsByte cells at 2 2 4 (omega arith) c.requires
    (bytes-kinds (take 2 (drop at cells)) (sym c.kinds_of_two.ensures.kinds ∙ first))
    (bytes-kinds (take 2 (drop (at + 2) cells)) (sym c.kinds_of_two-2.ensures.kinds ∙ second))
