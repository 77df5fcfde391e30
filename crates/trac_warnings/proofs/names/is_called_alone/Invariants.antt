use Rattle.std.proofs.Common.{◌≡◌, ◌+◌, length}
use Rattle.trac_space.specs.Texts.{text_of_cells}
use Rattle.trac_warnings.specs.Suspicions.{is_called_alone}
use Rattle.trac_warnings.proofs.names.is_called_alone.Given as goal

-- no such call stands before what is left
abbrev pub invariant-loop : goal.invariant-loop
invariant-loop l =
    record {
      same : is_called_alone (text_of_cells l.name) l.rest ≡ is_called_alone (text_of_cells l.name) l.input;
      len : length l.rest + l.counter ≡ length l.input;
    }
