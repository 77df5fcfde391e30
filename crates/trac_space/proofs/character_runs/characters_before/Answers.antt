use Rattle.trac_space.proofs.Imports.{sym, ◌∙◌}
use Rattle.trac_space.proofs.Characters.{before-next}
use Rattle.trac_space.proofs.character_runs.characters_before.Goals as goal

pub loop-count-preserved : goal.loop-count-preserved
loop-count-preserved c =
    before-next c.args.cells.now c.args.at c.loop-count.count c.requires.within c.requires.behind c.loop-count-test.true c.loop-count.invariant (sym c.is_character.ensures ∙ c.if-is_character.true)
