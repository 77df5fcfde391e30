-- A row of steps that a machine makes at once.
use Rattle.std.specs.Prelude.{◌≡◌, ◌+◌, ℕ, List, None}
use Rattle.trac_space.specs.declared.cell.Cell.{Cell}
use Rattle.trac_functions.specs.Flat.{neutral_of}
use Rattle.trac_core.specs.Machine.{MachineState}
use Rattle.trac_core.specs.Advancing.{GoesAlone}
use Rattle.trac_core.specs.View.{neutral_in}
use Rattle.trac_warnings.specs.Rows.{FollowsRow}
use Rattle.trac_warnings.specs.declared.watch.Watch.{Watch}

-- a machine made a row of steps at which nothing is suspicious, and a watch followed them; the neutral string had
-- these cells before
pub record PassesRow {A : Type 0} (old new : MachineState) (watch after : Watch A) : Type 0 where
  pub count : ℕ
  pub cells : List Cell
  pub neutral : neutral_of cells ≡ neutral_in old.memory
  pub goes : GoesAlone count old new
  pub going : new.fate ≡ None
  pub steps : new.steps ≡ old.steps + count
  pub follows : FollowsRow count old.memory.active watch after
