use Rattle.trac_c.proofs.Imports.{◌≡◌, ◌≤◌, length, take, map, laid, item_code}
use Rattle.trac_c.proofs.forms.lay_items.Given as goal

-- the codes of the items up to a place are put
abbrev pub invariant-loop-i : goal.invariant-loop-i
invariant-loop-i l =
    record {
      laid : l.room ≡ laid (map item_code (take l.i l.form.body)) l.initial.room;
      within : l.i ≤ length l.form.body;
    }
