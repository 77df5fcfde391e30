-- Every run keeps its forms in order: no two have one name, and each pointer is a place of its body.
use Rattle.trac_laws.proofs.Imports.{◌≡◌, ℕ, Bool, true, false, List, [], ◌∷◌, Option, Some, None, sym, subst, Mode, Active, Neutral, Function, Text, OpenCall, Memory, State, arguments, add_to, add, World, Meaning, Gives, Ends, Input, meaning, IsStore}
use Rattle.trac_laws.proofs.Imports.{Rule, AddProtected, EndCall, AddCharacter, rule, Outcome, Next, Over, function_of, world_of, deliver, perform, end_call, with_active, follow, step, Form}
use Rattle.trac_laws.proofs.Shape.{Reading, Stopped, Given, Shape, Reads, Ended, Does, shape}

-- ---- what calls leave

abbrev Keeps : Meaning → Type 0
Keeps (Gives answer) = IsStore answer.world.forms
Keeps (Ends fate) = Unit {0}

keeps_shape : (f : Function) (forms : List Form) (meta : ℕ) (m : Input → Meaning) → IsStore forms → Shape f forms meta m → (i : Input) → Keeps (m i)
keeps_shape f forms meta m h (Reads r each) i = go (each i)
  where
    go : Reading forms meta i (m i) → Keeps (m i)
    go (Stopped fate e) = subst Keeps (sym e) tt
    go (Given value left of e) = subst Keeps (sym e) h
keeps_shape f forms meta m h (Ended fate e) i = subst Keeps (sym (e i)) tt
keeps_shape f forms meta m h (Does value forced forms' meta' printed keeps quiet e) i = subst Keeps (sym (e i)) (keeps h)

meaning_keeps : (f : Option Function) (args : List Text) (world : World) → IsStore world.forms → Keeps (meaning f args world)
meaning_keeps None args world h = h
meaning_keeps (Some f) args world h = keeps_shape f world.forms world.meta _ h (shape f args world.forms world.meta) world.input

-- ---- what steps leave

abbrev KeepsStore : Outcome → Type 0
KeepsStore (Next t) = IsStore t.memory.forms
KeepsStore (Over f) = Unit {0}

add_keeps : (text : Text) (memory : Memory) → IsStore memory.forms → IsStore (add text memory).forms
add_keeps text memory h = go memory.calls
  where
    go : (calls : List OpenCall) → IsStore (add_to calls text memory).forms
    go [] = h
    go (call ∷ outer) = h

deliver_keeps : (mode : Mode) (forced : Bool) (value : Text) (memory : Memory) → IsStore memory.forms → IsStore (deliver mode forced value memory).forms
deliver_keeps Active forced value memory h = h
deliver_keeps Neutral true value memory h = h
deliver_keeps Neutral false value memory h = add_keeps value memory h

perform_keeps : (mode : Mode) (m : Meaning) (s : State) → Keeps m → KeepsStore (perform mode m s)
perform_keeps mode (Gives answer) s h = deliver_keeps mode answer.forced answer.value (record s.memory { forms = answer.world.forms; meta = answer.world.meta }) h
perform_keeps mode (Ends fate) s h = tt

end_call_keeps : (calls : List OpenCall) (s : State) → IsStore s.memory.forms → KeepsStore (end_call calls s)
end_call_keeps [] s h = h
end_call_keeps (call ∷ outer) s h = perform_keeps call.mode (meaning (function_of call) (arguments call) (world_of s)) (record s { memory = record s.memory { calls = outer } }) (meaning_keeps (function_of call) (arguments call) (world_of s) h)

follow_keeps : (r : Rule) (s : State) → IsStore s.memory.forms → KeepsStore (follow r s)
follow_keeps (AddProtected inside rest) s h = add_keeps inside (record s.memory { active = rest }) h
follow_keeps (EndCall rest) s h = end_call_keeps s.memory.calls (with_active rest s) h
follow_keeps (AddCharacter c rest) s h = add_keeps (c ∷ []) (record s.memory { active = rest }) h
follow_keeps r s h = h

-- a step keeps the forms in order
pub step_keeps : (s t : State) → IsStore s.memory.forms → step s ≡ Next t → IsStore t.memory.forms
unfolding step
step_keeps s t h e = subst KeepsStore e (follow_keeps (rule s.memory.active) s h)
