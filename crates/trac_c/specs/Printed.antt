-- What C is told of a step that prints.
use Rattle.std.specs.Prelude.{◌≡◌, ◌≢◌, ◌++◌, ◌⊎◌, [], None}
use Rattle.trac_language.specs.Text.{Text}
use Rattle.trac_devices.specs.Devices.{Stream}
use Rattle.trac_core.specs.Machine.{MachineState, GoesOn, KeepsSettings, ending, moment}
use Rattle.trac_core.specs.Session.{next_printed}
use Rattle.trac_c.specs.Hosting.{Refuses, reported_step}
use Rattle.trac_c.specs.declared.report.TracReport.{TracReport}

-- what the next step prints, if there is one
abbrev pub next_text : MachineState → Text
next_text m = next_printed m (ending [])

-- the step that prints is done, over any input and behind whatever was written before: it is the definition's
pub record PrintsPast (old new : MachineState) : Type 0 where
  pub prints : next_text old ≢ []
  pub goes : (source : Stream) (written : Text) → GoesOn (moment old source written)
      (moment new source (written ++ next_printed old (ending source.bytes)))
  pub going : new.fate ≡ None

-- the next step prints nothing, and is not made; or it prints, and is made without a place for what it prints
pub record SkipsPrint (old : MachineState) (told : TracReport) (new : MachineState) : Type 0 where
  pub skips :
      ((next_text old ≡ []) × Refuses old told new)
      ⊎ ((told ≡ reported_step None new) × PrintsPast old new)
  pub settings : KeepsSettings old new
