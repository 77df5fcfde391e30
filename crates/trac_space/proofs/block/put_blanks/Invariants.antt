use Rattle.trac_space.proofs.Imports.{◌≡◌, replicate, ◌+◌, ◌*◌, length, Byte}
use Rattle.trac_space.proofs.block.put_blanks.Given as goal

-- what is put so far are blank cells, `_part` parts of them
abbrev pub invariant-loop-part : goal.invariant-loop-part
invariant-loop-part l =
    record {
      blank : l.block.items ≡ replicate (length l.block.items) (Byte 0);
      parts : length l.block.items ≡ length l.initial.block.items + l._part * length l.part;
    }
