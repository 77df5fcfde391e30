use Rattle.trac_space.proofs.Imports.{sym, ◌∙◌}
use Rattle.trac_space.proofs.Characters.{up-to-next}
use Rattle.trac_space.proofs.character_runs.characters_each.Goals as goal

pub loop-count-preserved : goal.loop-count-preserved
loop-count-preserved c =
    up-to-next c.args.cells.now c.args.start c.args.most c.loop-count.count c.requires c.loop-count-test.true c.loop-count.invariant (sym c.is_character.ensures ∙ c.if-is_character.true)
