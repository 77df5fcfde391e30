-- Laws of whole runs.
use Rattle.std.specs.Prelude.{◌≡◌, ◌≢◌, ◌↔◌, ℕ, ◌+◌, ◌<◌, ◌≤◌, Bool, false, [], ◌∷◌}
use Rattle.std.specs.Prelude.{◌++◌, length, codes, All, Some}
use Rattle.trac_language.specs.declared.fate.Fate.TheVariants.{InputEnded, Workspace, Steps}
use Rattle.trac_language.specs.Text.{Text}
use Rattle.trac_language.specs.Store.{IsStore}
use Rattle.trac_language.specs.Protected.{protected}
use Rattle.trac_language.specs.State.{State, Input, first}
use Rattle.trac_language.specs.Step.{Outcome, step, need, Next}
use Rattle.trac_language.specs.Rule.{Rule, rule}
use Rattle.trac_language.specs.Run.{Run, run}
use Rattle.trac_laws.specs.Balance.{IsBalanced, IsProtected}
use Rattle.trac_laws.specs.Fitting.{Fits}
use Rattle.trac_laws.specs.LastRead.{reads_to_end}
use Rattle.trac_laws.specs.Stepping.{Leads}

-- the second text begins with the first
abbrev pub IsPrefix : Text → Text → Type 0
IsPrefix a b = (rest : Text) × (b ≡ a ++ rest)

-- a run whose fate isn't Workspace is the same in every larger room
abbrev pub MoreRoom : Type 0
MoreRoom =
    (input : Input) (room larger allowance : ℕ) →
    (run room allowance (first input)).fate ≢ Workspace →
    room ≤ larger →
    run larger allowance (first input) ≡ run room allowance (first input)

-- a run whose fate isn't Steps is the same with every larger allowance
abbrev pub MoreSteps : Type 0
MoreSteps =
    (input : Input) (room allowance larger : ℕ) →
    (run room allowance (first input)).fate ≢ Steps →
    allowance ≤ larger →
    run room larger (first input) ≡ run room allowance (first input)

-- a run whose fate isn't Steps has, with every allowance below its steps, the fate Steps and a prefix of the output
abbrev pub FewerSteps : Type 0
FewerSteps =
    (input : Input) (room allowance fewer : ℕ) →
    (run room allowance (first input)).fate ≢ Steps →
    fewer < (run room allowance (first input)).steps →
    ((run room fewer (first input)).fate ≡ Steps)
    × IsPrefix (run room fewer (first input)).output (run room allowance (first input)).output

-- a run whose fate isn't Workspace is the same in every room of at least its peak
abbrev pub LeastRoom : Type 0
LeastRoom =
    (input : Input) (room other allowance : ℕ) →
    (run room allowance (first input)).fate ≢ Workspace →
    (run room allowance (first input)).peak ≤ other →
    run other allowance (first input) ≡ run room allowance (first input)

-- a run whose fate isn't Workspace has, in every room below its peak, the fate Workspace and a prefix of the output
abbrev pub LessRoom : Type 0
LessRoom =
    (input : Input) (room smaller allowance : ℕ) →
    (run room allowance (first input)).fate ≢ Workspace →
    smaller < (run room allowance (first input)).peak →
    ((run smaller allowance (first input)).fate ≡ Workspace)
    × IsPrefix (run smaller allowance (first input)).output
    (run room allowance (first input)).output

-- the input `#(ps,(`, the text, `))'`, then ended
abbrev pub quoting : Text → Input
quoting text = record { text = codes "#(ps,(" ++ (text ++ codes "))'"); fails = false }

-- the run that prints a text in 25 steps
abbrev pub quoted : Text → Run
quoted text =
    record { output = text; left = []; fate = InputEnded; steps = 25; peak = 16 + length text }

-- a balanced text without an apostrophe is printed as it is
abbrev pub Quoted : Type 0
Quoted =
    (text : Text) (room allowance : ℕ) →
    IsBalanced text →
    All (λ c. c ≢ 39) text →
    16 + length text ≤ room →
    25 ≤ allowance →
    run room allowance (first (quoting text)) ≡ quoted text

-- a text has at most one protected text at its beginning, and so at most one rest behind that
abbrev pub OneProtected : Type 0
OneProtected =
    (text inside rest other behind : Text) →
    IsProtected text inside rest →
    IsProtected text other behind →
    (inside ≡ other) × (rest ≡ behind)

-- the definition of a step takes the protected text at the beginning of a text, and takes one wherever there is one
abbrev pub FindsProtected : Type 0
FindsProtected =
    (text inside rest : Text) →
    (protected text ≡ Some (inside, rest)) ↔ IsProtected (40 ∷ text) inside rest

-- a step keeps names distinct and pointers within their bodies
abbrev pub KeepsForms : Type 0
KeepsForms =
    (before after : State) →
    IsStore before.memory.forms →
    step before ≡ Next after →
    IsStore after.memory.forms

-- the state with `more` behind its input, which then fails or ends, as `fails` says
abbrev pub with_more : Text → Bool → State → State
with_more more fails s =
    record s { input = record { text = s.input.text ++ more; fails = fails } }

-- a step that doesn't read to the end of its input does what it did, and needs as much, if `more` stands
-- behind that input, however the input then ends: the step leaves `more` there
abbrev pub ReadsNoFurther : Type 0
ReadsNoFurther =
    (before after : State) (more : Text) (fails : Bool) →
    before.input.fails ≡ false →
    reads_to_end before ≡ false →
    step before ≡ Next after →
    (step (with_more more fails before) ≡ Next (with_more more fails after))
    × (need (with_more more fails before) ≡ need before)

-- the rule of a step is the one that fits, and no other does
abbrev pub RuleFits : Type 0
RuleFits = (text : Text) (r : Rule) → (rule text ≡ r) ↔ Fits text r

-- a step is what the rule that fits does
abbrev pub StepFits : Type 0
StepFits = (before : State) (outcome : Outcome) → (step before ≡ outcome) ↔ Leads before outcome
