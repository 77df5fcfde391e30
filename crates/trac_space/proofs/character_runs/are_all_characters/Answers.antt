use Rattle.trac_space.proofs.Imports.{◌≡◌, ◌+◌, ◌-◌, arith, rules, IsByte}
use Rattle.trac_space.proofs.Characters.{both-ends}
use Rattle.trac_space.proofs.character_runs.are_all_characters.Goals as goal

pub loop-done-preserved : goal.loop-done-preserved
loop-done-preserved c =
    let done = c.loop-done.done in
    let at = c.args.at in
    let bytes = (rw c.if-not-are_characters.false at c.are_characters.ensures).0 (search rules) in
    let place : at + (done + 8 - 8) ≡ at + done = omega arith in
    record {
      within = omega arith;
      bytes = both-ends IsByte c.args.cells.now at done 8 (done + 8) (omega arith) (omega arith) c.loop-done.invariant.bytes (rw place bytes);
    }

pub returns : goal.returns
returns c = λ t.
    both-ends IsByte c.args.cells.now c.args.at c.loop-done.done 8 c.args.n (omega arith) c.requires c.loop-done.invariant.bytes (c.are_characters-2.ensures.0 t)
