use Rattle.trac_functions.proofs.Imports.{◌≡◌, ◌≤◌, ◌-◌, slice_range, text_of, body_at, IsSound}
use Rattle.trac_functions.proofs.PutCharacters.{with_text}
use Rattle.trac_functions.proofs.form_parts.copy_characters.Given as goal

-- the characters up to a place were copied
abbrev pub invariant-loop-place : goal.invariant-loop-place
invariant-loop-place l =
    record {
      above : l.from ≤ l.place;
      below : l.place ≤ l.to;
      sound : IsSound l.work;
      copied : l.work ≡ with_text l.initial.work (text_of (slice_range (body_at l.initial.work.forms l.form.0) l.from l.place));
    }

-- the items that are left
abbrev pub decreases-loop-place : goal.decreases-loop-place
decreases-loop-place l = l.to - l.place
