use Rattle.std.proofs.Common.{◌≡◌, ◌+◌, drop}
use Rattle.trac_events.specs.ByteSearch.{len_before}
use Rattle.trac_events.proofs.byte_search.count_each.Given as goal

-- none of the bytes so far is looked for
abbrev pub invariant-loop-i : goal.invariant-loop-i
invariant-loop-i g l =
    len_before (g.S.Sought.seeks l.sought) l.text ≡ l.i + len_before (g.S.Sought.seeks l.sought) (drop l.i l.text)
