use Rattle.std.specs.Prelude.{All}
use Rattle.trac_space.specs.Texts.{IsByte}
use Rattle.trac_tests.proofs.buffers.writes_in_runs.Given as goal

-- the cells so far are characters
abbrev pub invariant-loop-byte : goal.invariant-loop-byte
invariant-loop-byte g l = All IsByte l.cells.items
