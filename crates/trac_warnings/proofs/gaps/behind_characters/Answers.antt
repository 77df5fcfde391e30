use Rattle.std.proofs.Common.{length}
use Rattle.trac_space.specs.Texts.{text_of_cells}
use Rattle.trac_warnings.proofs.Searched.{over_characters}
use Rattle.trac_warnings.proofs.gaps.behind_characters.Goals as goal

pub returns-clause-characters : goal.returns-clause-characters
returns-clause-characters c = λ highest.
    over_characters c.args.form.now.body c.args.place (length c.run.result.now) (text_of_cells c.run.result.now) highest c.run.ensures.items
