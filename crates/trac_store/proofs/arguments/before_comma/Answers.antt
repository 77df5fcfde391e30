use Rattle.trac_store.proofs.Imports.{Byte}
use Rattle.trac_store.proofs.ArgumentParts.{first-four}
use Rattle.trac_store.proofs.arguments.before_comma.Goals as goal

pub before_far_comma-requires-clause-none : goal.before_far_comma-requires-clause-none
before_far_comma-requires-clause-none c = first-four c.args.cells.now (Byte 0) c.if-cells-lt4.false c.in_default.not-Comma c.in_default-cells.not-Comma c.in_default-cells-2.not-Comma c.in_default-cells-3.not-Comma
