use Rattle.std.proofs.Common.{◌≡◌, drop}
use Rattle.trac_space.specs.Texts.{text_of_cells}
use Rattle.trac_views.specs.CallLines.{is_argument}
use Rattle.trac_views.proofs.deleted.is_argument.Given as goal

-- the cells that are left decide
abbrev pub invariant-loop-cell : goal.invariant-loop-cell
invariant-loop-cell l =
    record {
      rest : l.rest ≡ drop l.cell-index l.arguments;
      same : is_argument (drop l.cell-index l.arguments) (text_of_cells l.name) ≡ is_argument l.arguments (text_of_cells l.name);
    }
