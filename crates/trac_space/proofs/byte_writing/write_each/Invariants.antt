use Rattle.trac_space.proofs.Imports.{◌≡◌, length, written_up_to}
use Rattle.trac_space.proofs.byte_writing.write_each.Given as goal

-- the bytes so far are written
abbrev pub invariant-loop-i : goal.invariant-loop-i
invariant-loop-i l = record {
  same : length l.cells ≡ length l.text;
  written : l.cells ≡ written_up_to l.i l.text l.fn.cells;
}
