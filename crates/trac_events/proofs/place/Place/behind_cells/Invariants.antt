use Rattle.trac_events.proofs.Imports.{◌≡◌, drop, text_of_cells, behind_text}
use Rattle.trac_events.proofs.place.Place.behind_cells.Given as goal

-- the cells that are left lead from here to the place wanted
abbrev pub invariant-loop-cell : goal.invariant-loop-cell
invariant-loop-cell l =
    behind_text l.place (text_of_cells (drop l.cell-index l.cells)) ≡ behind_text l.initial.place (text_of_cells l.cells)
