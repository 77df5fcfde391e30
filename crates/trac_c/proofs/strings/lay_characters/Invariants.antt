use Rattle.trac_c.proofs.Imports.{◌≡◌, ◌≤◌, length, take, map, character_of, laid}
use Rattle.trac_c.proofs.strings.lay_characters.Given as goal

-- the characters up to a place are put
abbrev pub invariant-loop-i : goal.invariant-loop-i
invariant-loop-i l =
    record {
      laid : l.room ≡ laid (map character_of (take l.i l.cells)) l.initial.room;
      within : l.i ≤ length l.cells;
    }
