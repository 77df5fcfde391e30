use Rattle.trac_space.proofs.Imports.{arith, rules, IsByte}
use Rattle.trac_space.proofs.Characters.{both-ends}
use Rattle.trac_space.proofs.character_runs.are_few_characters.Goals as goal

pub returns-then-are_four : goal.returns-then-are_four
returns-then-are_four c = λ t.
    both-ends IsByte c.args.cells.now c.args.at 4 4 c.args.n (omega (arith, c.if-n-ge4.true)) c.requires.within
    ((rw c.if-are_four.true at c.are_four.ensures) (search rules)) (c.are_four-then-are_four.ensures t)

pub returns-then-are_two : goal.returns-then-are_two
returns-then-are_two c = λ t.
    both-ends IsByte c.args.cells.now c.args.at 2 2 c.args.n (omega (arith, c.if-n-ge2.true)) c.requires.within
    ((rw c.if-are_two.true at c.are_two.ensures) (search rules)) (c.are_two-then-are_two.ensures t)
