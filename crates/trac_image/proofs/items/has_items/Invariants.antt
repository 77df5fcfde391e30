use Rattle.std.proofs.Common.{◌≡◌, ◌+◌, length}
use Rattle.trac_image.specs.Items.{items_of}
use Rattle.trac_image.specs.Reading.{GapsFit, form_in, gap_count}
use Rattle.trac_image.proofs.items.has_items.Given as goal

-- what is left decides of all
abbrev pub invariant-loop : goal.invariant-loop
invariant-loop l = record {
  left : length (items_of l.items) + l.counter ≡ l.heads.body;
  gaps : l.gaps + gap_count (items_of l.items) ≡ gap_count (form_in l.text).body;
  passed : GapsFit (items_of l.items) → GapsFit (form_in l.text).body;
  whole : GapsFit (form_in l.text).body → GapsFit (items_of l.items);
}
