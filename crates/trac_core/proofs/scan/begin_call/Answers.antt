use Rattle.trac_core.proofs.Imports.{◌≡◌, ℕ, ◌<◌, ◌≤◌, ◌++◌, ◌∷◌, [], length, drop, arith, length-append, length-drop, length-map, Call, Mode, Contents, IsLastCall, Scans, character_of, text_of_cells, used}
use Rattle.trac_core.specs.Rules.{Opens}
use Rattle.trac_core.proofs.ArgumentRuns.{last-opened}
use Rattle.trac_core.proofs.Scanning.{scans-call}
use Rattle.trac_core.proofs.StepsInRow.{one-step, step-run}
use Rattle.trac_core.proofs.scan.begin_call.Goals as goal

-- the contents once a call is opened
record Opened (old new : Contents) : Type 0 where
  scans : Scans old new (used old)
  no_larger : used new ≤ used old
  shorter : length new.active < length old.active
  last : (place : ℕ) × IsLastCall new.neutral place

opened : (old new : Contents) (mode : Mode) (n : ℕ) → Opens mode n (text_of_cells old.active) → 0 < n → new ≡ record old { active = drop n old.active; neutral = old.neutral ++ Call mode 0 ∷ [] } → Opened old new
opened old new mode n opens some is =
    let within : n ≤ length old.active = omega (arith, opens.1, length-map old.active character_of) in
    let less = length-drop n old.active in
    let more = length-append old.neutral (Call mode 0 ∷ []) in
    rw is
    (record {
      scans = scans-call old mode n opens.0;
      no_larger = omega arith;
      shorter = omega arith;
      last = (_, last-opened old.neutral mode);
    })

pub returns-then-are_in_a_row-clause-passes : goal.returns-then-are_in_a_row-clause-passes
returns-then-are_in_a_row-clause-passes c =
    let o = opened c.args.work.now _ c.args.mode c.args.characters c.requires.first c.requires.one c.active_to_cell.ensures.turned in
    one-step _ _ c.args.most o.scans o.no_larger o.shorter c.requires.some

pub add_run-requires-clause-opened : goal.add_run-requires-clause-opened
add_run-requires-clause-opened c =
    let o = opened c.args.work.now _ c.args.mode c.args.characters c.requires.first c.requires.one c.active_to_cell.ensures.turned in
    o.last

pub returns-clause-passes : goal.returns-clause-passes
returns-clause-passes c =
    let o = opened c.args.work.now _ c.args.mode c.args.characters c.requires.first c.requires.one c.active_to_cell.ensures.turned in
    let run = c.add_run.ensures in
    step-run _ _ _ c.add_run.result c.args.most (one-step _ _ c.args.most o.scans o.no_larger o.shorter c.requires.some) run.passes run.few run.shorter
