use Rattle.std.proofs.Common.{◌≡◌, ◌++◌, take}
use Rattle.trac_views.specs.Lines.{bytes_text}
use Rattle.trac_views.proofs.lines.push_bytes.Given as goal

-- the bytes so far stand in the line
abbrev pub invariant-loop-byte : goal.invariant-loop-byte
invariant-loop-byte g l = l.line.items ≡ l.initial.line.items ++ bytes_text (take l.byte-index l.bytes)
