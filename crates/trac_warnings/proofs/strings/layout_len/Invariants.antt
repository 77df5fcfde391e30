use Rattle.std.proofs.Common.{◌≡◌, ◌+◌, drop}
use Rattle.trac_warnings.specs.Strings.{layout_len}
use Rattle.trac_warnings.proofs.strings.layout_len.Given as goal

-- all characters so far are layout
abbrev pub invariant-loop-i : goal.invariant-loop-i
invariant-loop-i l = layout_len l.text ≡ l.i + layout_len (drop l.i l.text)
