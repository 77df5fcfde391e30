-- What a step does once more, each rule by itself.
use Rattle.std.specs.Prelude.{◌≡◌, Bool, true, false, List, [], ◌∷◌, ◌++◌, codes, ◌⊎◌}
use Rattle.trac_language.specs.declared.mode.Mode.{Mode}
use Rattle.trac_language.specs.declared.mode.Mode.TheVariants.{Active, Neutral}
use Rattle.trac_language.specs.declared.fate.Fate.{Fate}
use Rattle.trac_language.specs.Text.{Text}
use Rattle.trac_language.specs.State.{OpenCall, Memory, State, arguments}
use Rattle.trac_language.specs.Meaning.{Answer, Meaning, Gives, Ends, meaning}
use Rattle.trac_language.specs.Rule.{Rule, LoadIdling, DeleteLayout, AddProtected, ClearActive}
use Rattle.trac_language.specs.Rule.{BeginArgument, BeginCall, EndCall, AddCharacter}
use Rattle.trac_language.specs.Step.{Outcome, Next, Over, function_of, world_of}
use Rattle.trac_laws.specs.Fitting.{Fits}

-- the innermost open call is `call`, and `outer` are the calls around it
abbrev pub IsInnermost : OpenCall → List OpenCall → Memory → Type 0
IsInnermost call outer memory = memory.calls ≡ call ∷ outer

-- the text is put at the end of the last argument of the innermost call, or of the base text if no call
-- is open
abbrev pub Adds : Text → Memory → Memory → Type 0
Adds text before after =
    ((before.calls ≡ []) × (after ≡ record before { base = before.base ++ text }))
    ⊎ ((call : OpenCall) × ((outer : List OpenCall) × (IsInnermost call outer before
    × (after ≡ record before { calls = record call { last = call.last ++ text } ∷ outer }))))

-- the innermost call gets a further argument, which is null; where no call is open nothing changes
abbrev pub AddsArgument : Memory → Memory → Type 0
AddsArgument before after =
    ((before.calls ≡ []) × (after ≡ before))
    ⊎ ((call : OpenCall) × ((outer : List OpenCall) × (IsInnermost call outer before
    × (after ≡ record before {
      calls = record call { earlier = arguments call; last = [] } ∷ outer;
    }))))

-- the value of an active call, and a value that is scanned whatever the call's mode, comes before the
-- active string; the value of a neutral call is put at the end of the neutral string
abbrev pub Delivers : Mode → Bool → Text → Memory → Memory → Type 0
Delivers mode forced value before after =
    (((mode ≡ Active) ⊎ (forced ≡ true))
    × (after ≡ record before { active = value ++ before.active }))
    ⊎ ((mode ≡ Neutral) × ((forced ≡ false) × Adds value before after))

-- `after` is the state after a call with an answer
pub record IsAfter (mode : Mode) (answer : Answer) (before after : State) : Type 0 where
  pub memory : Delivers mode answer.forced answer.value
      (record before.memory { forms = answer.world.forms; meta = answer.world.meta }) after.memory
  pub input : after.input ≡ answer.world.input
  pub output : after.output ≡ before.output ++ answer.printed

-- a call that means an end of the run ends it, and one that means an answer gives the next state
abbrev pub FollowsMeaning : Mode → Meaning → State → Outcome → Type 0
FollowsMeaning mode means before outcome =
    ((fate : Fate) × ((means ≡ Ends fate) × (outcome ≡ Over fate)))
    ⊎ ((answer : Answer) × ((after : State) × ((means ≡ Gives answer)
    × ((outcome ≡ Next after) × IsAfter mode answer before after))))

-- the innermost call is open no more and is performed; with no open call nothing happens
abbrev pub EndsCall : State → Outcome → Type 0
EndsCall before outcome =
    ((before.memory.calls ≡ []) × (outcome ≡ Next before))
    ⊎ ((call : OpenCall) × ((outer : List OpenCall) × (IsInnermost call outer before.memory
    × FollowsMeaning call.mode (meaning (function_of call) (arguments call) (world_of before))
    (record before { memory = record before.memory { calls = outer } }) outcome)))

-- the state with the active string `rest`
abbrev pub rest_of : Text → State → State
rest_of rest before = record before { memory = record before.memory { active = rest } }

-- the step goes on to a state whose memory has the property P
abbrev pub GoesOn : (Memory → Type 0) → State → Outcome → Type 0
GoesOn P before outcome =
    (after : Memory) × (P after × (outcome ≡ Next (record before { memory = after })))

-- the rule makes this outcome of a state
abbrev pub Does : Rule → State → Outcome → Type 0
Does LoadIdling before outcome = outcome ≡ Next (record before {
  memory = record before.memory { active = codes "#(ps,#(rs))"; base = []; calls = [] };
})
Does (DeleteLayout rest) before outcome = outcome ≡ Next (rest_of rest before)
Does (AddProtected inside rest) before outcome =
    GoesOn (Adds inside (rest_of rest before).memory) before outcome
Does ClearActive before outcome = outcome ≡ Next (rest_of [] before)
Does (BeginArgument rest) before outcome =
    GoesOn (AddsArgument (rest_of rest before).memory) before outcome
Does (BeginCall mode rest) before outcome = outcome ≡ Next (record before {
  memory =
      record before.memory {
        active = rest;
        calls = record { mode = mode; earlier = []; last = [] } ∷ before.memory.calls;
      };
})
Does (EndCall rest) before outcome = EndsCall (rest_of rest before) outcome
Does (AddCharacter c rest) before outcome =
    GoesOn (Adds (c ∷ []) (rest_of rest before).memory) before outcome

-- a rule that fits the active string makes this outcome of a state
abbrev pub Leads : State → Outcome → Type 0
Leads before outcome = (r : Rule) × (Fits before.memory.active r × Does r before outcome)
