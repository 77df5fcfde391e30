use Rattle.trac_c.proofs.Imports.{neutral_in}
use Rattle.trac_c.proofs.Coding.{neutral-length}
use Rattle.trac_c.proofs.strings.neutral_cells.Goals as goal

pub returns : goal.returns
returns c = neutral-length c.neutral.result.now (neutral_in c.args.machine.now.memory) c.neutral.ensures
