use Rattle.trac_c.proofs.Imports.{◌≡◌, ◌+◌, ◌≤◌, drop, length, take, neutral_of, laid, codes_of_neutral, has_call}
use Rattle.trac_c.proofs.strings.lay_marks.Given as goal

-- the codes of the cells from the first place up to another are put
abbrev pub invariant-loop-i : goal.invariant-loop-i
invariant-loop-i l =
    record {
      laid : l.room ≡ laid (drop l.from (codes_of_neutral (neutral_of (take (l.from + l.i) l.cells)))) l.initial.room;
      in_call : l.in_call ≡ has_call (neutral_of (take (l.from + l.i) l.cells)).calls;
      within : l.from + l.i ≤ length l.cells;
    }
