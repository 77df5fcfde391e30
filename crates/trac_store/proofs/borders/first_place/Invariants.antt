use Rattle.trac_store.proofs.Imports.{◌<◌, length}
use Rattle.trac_store.specs.Borders.{tagged_text}
use Rattle.trac_store.proofs.TextBorders.{Searched}
use Rattle.trac_store.proofs.borders.first_place.Given as goal

-- so much of the text stands before the place, and it stands nowhere before that
abbrev pub invariant-loop-i : goal.invariant-loop-i
invariant-loop-i l = record {
  few : l.before < length l.text;
  done : Searched (tagged_text l.text) l.cells l.from l.i l.before;
}
