-- The state to which steps lead.
use Rattle.std.specs.Prelude.{ℕ, zero, suc}
use Rattle.trac_language.specs.State.{State}
use Rattle.trac_language.specs.Step.{Outcome, Next, Over, step}

-- the state that follows a step's outcome; a step that ends the run leaves the state as it is
abbrev pub state_on : Outcome → State → (State → State) → State
state_on (Next next) state rest = rest next
state_on (Over fate) state rest = state

-- the state after n steps, or before the step that ends the run earlier
unfoldable pub state_after : ℕ → State → State
state_after zero state = state
state_after (suc n) state = state_on (step state) state (state_after n)
