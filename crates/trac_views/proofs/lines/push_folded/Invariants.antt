use Rattle.std.proofs.Common.{◌≡◌, ◌++◌, drop}
use Rattle.trac_views.specs.Lines.{folded_text}
use Rattle.trac_views.proofs.lines.push_folded.Given as goal

-- the lines so far, and what is left of the text, are the whole
abbrev pub invariant-loop-byte : goal.invariant-loop-byte
invariant-loop-byte g l =
    l.lines.items ++ folded_text l.columns l.at (drop l.byte-index l.text)
    ≡ l.initial.lines.items ++ folded_text l.columns 0 l.text
