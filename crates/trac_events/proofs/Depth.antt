-- How many calls are open after a step.
use Rattle.trac_events.proofs.Imports.{◌≡◌, ℕ, ◌-◌, List, [], ◌∷◌, length, refl, false, Mode, arith}
use Rattle.std.proofs.Common.{Bool, true, subst}
use Rattle.trac_language.specs.declared.mode.Mode.TheVariants.{Active, Neutral}
use Rattle.trac_language.specs.Text.{Text}
use Rattle.trac_language.specs.State.{Memory, OpenCall, State, add, add_to, arguments, begin_argument}
use Rattle.trac_language.specs.Meaning.{Meaning, Gives, Ends, meaning}
use Rattle.trac_language.specs.Rule.{Rule, LoadIdling, DeleteLayout, AddProtected, ClearActive, BeginArgument, BeginCall, EndCall, AddCharacter, rule}
use Rattle.trac_language.specs.Step.{Outcome, Next, Over, deliver, end_call, follow, function_of, perform, step, with_active, world_of}
use Rattle.trac_core.specs.View.{row_of}
use Rattle.trac_events.specs.Calls.{depth_after}

-- n calls are open in the next state, if there is one
abbrev LeavesOpen : ℕ → Outcome → Type 0
LeavesOpen n (Next after) = length after.memory.calls ≡ n
LeavesOpen n (Over fate) = Unit {0}

add_leaves : (text : Text) (memory : Memory) → length (add text memory).calls ≡ length memory.calls
add_leaves text memory = go memory.calls refl
  where
    go : (calls : List OpenCall) → memory.calls ≡ calls → length (add_to calls text memory).calls ≡ length memory.calls
    go [] is = refl
    go (call ∷ outer) is = rw is refl

deliver_leaves : (mode : Mode) (forced : Bool) (value : Text) (memory : Memory) → length (deliver mode forced value memory).calls ≡ length memory.calls
deliver_leaves Active forced value memory = refl
deliver_leaves Neutral true value memory = refl
deliver_leaves Neutral false value memory = add_leaves value memory

perform_leaves : (mode : Mode) (means : Meaning) (state : State) → LeavesOpen (length state.memory.calls) (perform mode means state)
perform_leaves mode (Gives answer) state = deliver_leaves mode answer.forced answer.value (record state.memory { forms = answer.world.forms; meta = answer.world.meta })
perform_leaves mode (Ends fate) state = tt

end_call_leaves : (calls : List OpenCall) (state : State) → state.memory.calls ≡ calls → LeavesOpen (length calls - 1) (end_call calls state)
end_call_leaves [] state is = rw is refl
end_call_leaves (call ∷ outer) state is =
    let one : length outer ≡ length (call ∷ outer) - 1 = omega arith in
    subst (λ n. LeavesOpen n (end_call (call ∷ outer) state)) one (perform_leaves call.mode (meaning (function_of call) (arguments call) (world_of state)) (record state { memory = record state.memory { calls = outer } }))

begin_argument_leaves : (calls : List OpenCall) → length (begin_argument calls) ≡ length calls
begin_argument_leaves [] = refl
begin_argument_leaves (call ∷ outer) = refl

character_row : (c n : ℕ) (rest : Text) → depth_after (row_of (AddCharacter c rest)) n ≡ n
character_row c n rest = grind arith

follow_leaves : (r : Rule) (state : State) → LeavesOpen (depth_after (row_of r) (length state.memory.calls)) (follow r state)
follow_leaves LoadIdling state = refl
follow_leaves (DeleteLayout rest) state = refl
follow_leaves (AddProtected inside rest) state = add_leaves inside (record state.memory { active = rest })
follow_leaves ClearActive state = refl
follow_leaves (BeginArgument rest) state = begin_argument_leaves state.memory.calls
follow_leaves (BeginCall Active rest) state = omega arith
follow_leaves (BeginCall Neutral rest) state = omega arith
follow_leaves (EndCall rest) state = end_call_leaves state.memory.calls (with_active rest state) refl
follow_leaves (AddCharacter c rest) state = rw (character_row c (length state.memory.calls) rest) (add_leaves (c ∷ []) (record state.memory { active = rest }))

-- a step leaves as many calls open as its rule tells
pub step_leaves : (before after : State) → step before ≡ Next after → length after.memory.calls ≡ depth_after (row_of (rule before.memory.active)) (length before.memory.calls)
unfolding step
step_leaves before after is = subst (LeavesOpen (depth_after (row_of (rule before.memory.active)) (length before.memory.calls))) is (follow_leaves (rule before.memory.active) before)
