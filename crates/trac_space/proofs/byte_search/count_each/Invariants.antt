use Rattle.trac_space.proofs.Imports.{◌≡◌, take, false, ◌==◌, list_any}
use Rattle.trac_space.proofs.byte_search.count_each.Given as goal

-- `stop` doesn't stand among the bytes so far
abbrev pub invariant-loop-i : goal.invariant-loop-i
invariant-loop-i l = list_any (λ b. b == l.stop) (take l.i l.text) ≡ false
