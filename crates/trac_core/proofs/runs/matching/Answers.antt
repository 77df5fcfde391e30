use Rattle.trac_core.proofs.Imports.{◌≡◌, ℕ, List, ◌+◌, ◌-◌, ◌/◌, ◌%◌, ◌<◌, ◌≤◌, Option, Some, None, MatchOption, length, take, drop, arith, length-map, Cell, text_of_cells, character_of, protected, IsAt}
use Rattle.trac_core.proofs.Matching.{passes-block, passes-few, unmatched}
use Rattle.trac_core.proofs.runs.matching.Goals as goal
use Rattle.trac_core.proofs.runs.matching.Goals.{then-found-gt0, then-rights-depth+in_default, else-rights-depth, else-found-gt0}

pub overflow_sub-depth : goal.overflow_sub-depth
overflow_sub-depth c =
    let cells = c.args.cells.now in
    let i = c.loop-i.i in
    let found = c.sides-found.result in
    let at = c.loop-i.invariant.at in
    let within : i + 8 ≤ length cells = omega arith in
    elim c.if-rights-depth.branch [
      | then-rights-depth+in_default w ↦ (let more = (passes-block cells i c.loop-i.depth found c.sides-found.ensures at w.in_default.ensures).0 in omega arith)
      | else-rights-depth w ↦ omega arith
    ]

pub loop-i-preserved : goal.loop-i-preserved
loop-i-preserved c =
    let cells = c.args.cells.now in
    let i = c.loop-i.i in
    let depth = c.loop-i.depth in
    let found = c.sides-found.result in
    let is = c.sides-found.ensures in
    let at = c.loop-i.invariant.at in
    let within : i + 8 ≤ length cells = omega arith in
    elim c.if-found-gt0.branch [
      | then-found-gt0 w ↦ (
          let after : (later : ℕ) × IsAt (text_of_cells cells) (i + 8) later =
          elim w.if-rights-depth.branch [
            | then-rights-depth+in_default v ↦ v.in_default.ensures
            | else-rights-depth v ↦ passes-few cells i depth found within is at (omega arith)
          ] in
          let block = passes-block cells i depth found is at after in
          let same : c.if-found-gt0.depth ≡ depth + found % 16 - found / 16 = omega arith in
          record { at = rw same block.1; bound = omega arith; within = within })
      | else-found-gt0 w ↦ (
          let block = passes-block cells i depth found is at (passes-few cells i depth found within is at (omega arith)) in
          let same : c.if-found-gt0.depth ≡ depth + found % 16 - found / 16 = omega arith in
          record { at = rw same block.1; bound = omega arith; within = within })
    ]

-- the search among the last characters says what the whole search does
last : (cells : List Cell) (i number : ℕ) (result : Option ℕ) → i + number ≡ length cells → MatchOption result ((depth : ℕ) × IsAt (text_of_cells cells) (i + number) depth) (λ place. (place < length cells) × (protected (text_of_cells cells) ≡ Some (take place (text_of_cells cells), drop (place + 1) (text_of_cells cells)))) → MatchOption result (protected (text_of_cells cells) ≡ None) (λ place. (place < length cells) × (protected (text_of_cells cells) ≡ Some (take place (text_of_cells cells), drop (place + 1) (text_of_cells cells))))
last cells i number None all at =
    let long : length (text_of_cells cells) ≡ length cells = length-map cells character_of in
    unmatched (text_of_cells cells) (i + number) at.0 (omega arith) at.1
last cells i number (Some place) all found = found

pub returns : goal.returns
returns c =
    last c.args.cells.now c.loop-i.i _ c.matching_among-2.result (omega arith) c.matching_among-2.ensures
