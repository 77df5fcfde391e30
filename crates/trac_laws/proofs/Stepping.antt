-- A step is what the rule that fits does.
use Rattle.trac_laws.proofs.Imports.{◌≡◌, ◌↔◌, Bool, true, false, List, [], ◌∷◌, ◌++◌, refl, sym, ap, ◌∙◌, subst, ⊎_elim, inl, inr, false≢true, Mode, Active, Neutral, Text, OpenCall, Memory, State, Input, arguments, add, add_to, begin_argument, Answer, Meaning, Gives, Ends, meaning, Rule}
use Rattle.trac_laws.proofs.Imports.{AddProtected, BeginArgument, EndCall, AddCharacter, rule, Outcome, Next, deliver, perform, end_call, follow, step, function_of, world_of, Adds, AddsArgument, Delivers, IsAfter, FollowsMeaning, EndsCall, rest_of, Does, Leads}
use Rattle.trac_laws.proofs.Fitting.{rule-fits}

adds-to : (text : Text) (m : Memory) (calls : List OpenCall) → m.calls ≡ calls → Adds text m (add_to calls text m)
adds-to text m [] e = inl (e, refl)
adds-to text m (call ∷ outer) e = inr (call, (outer, (e, refl)))

adds : (text : Text) (m : Memory) → Adds text m (add text m)
adds text m = adds-to text m m.calls refl

adds-only : (text : Text) (m after : Memory) → Adds text m after → after ≡ add text m
adds-only text m after h =
    ⊎_elim
    (λ none. none.1 ∙ sym (ap (λ calls. add_to calls text m) none.0))
    (λ some. some.1.1.1 ∙ sym (ap (λ calls. add_to calls text m) some.1.1.0)) h

arguments-to : (m : Memory) (calls : List OpenCall) → m.calls ≡ calls → AddsArgument m (record m { calls = begin_argument calls })
arguments-to m [] e = inl (e, ap (λ cs. record m { calls = cs }) (sym e))
arguments-to m (call ∷ outer) e = inr (call, (outer, (e, refl)))

arguments-only : (m after : Memory) → AddsArgument m after → after ≡ record m { calls = begin_argument m.calls }
arguments-only m after h =
    ⊎_elim
    (λ none. none.1 ∙ ap (λ cs. record m { calls = cs }) (none.0 ∙ sym (ap begin_argument none.0)))
    (λ some. some.1.1.1 ∙ sym (ap (λ cs. record m { calls = begin_argument cs }) some.1.1.0)) h

delivers : (mode : Mode) (forced : Bool) (value : Text) (m : Memory) → Delivers mode forced value m (deliver mode forced value m)
delivers Active forced value m = inl (inl refl, refl)
delivers Neutral true value m = inl (inr refl, refl)
delivers Neutral false value m = inr (refl, (refl, adds value m))

delivers-only : (mode : Mode) (forced : Bool) (value : Text) (m after : Memory) → Delivers mode forced value m after → after ≡ deliver mode forced value m
delivers-only Active forced value m after h = ⊎_elim (λ scanned. scanned.1) (λ put. (let e = put.0 in absurd cc)) h
delivers-only Neutral true value m after h = ⊎_elim (λ scanned. scanned.1) (λ put. absurd (false≢true (sym put.1.0))) h
delivers-only Neutral false value m after h =
    ⊎_elim (λ scanned. ⊎_elim (λ e. absurd cc) (λ e. absurd (false≢true e)) scanned.0) (λ put. adds-only value m after put.1.1) h

-- the state after a call
after_call : Mode → Answer → State → State
after_call mode answer s = record {
  memory = deliver mode answer.forced answer.value (record s.memory { forms = answer.world.forms; meta = answer.world.meta });
  input = answer.world.input;
  output = s.output ++ answer.printed;
}

performs : (mode : Mode) (means : Meaning) (s : State) → FollowsMeaning mode means s (perform mode means s)
unfolding after_call
performs mode (Ends fate) s = inl (fate, (refl, refl))
performs mode (Gives answer) s =
    let m = record s.memory { forms = answer.world.forms; meta = answer.world.meta } in
    let is : IsAfter mode answer s (after_call mode answer s) =
    record { memory = delivers mode answer.forced answer.value m; input = refl; output = refl } in
    inr (answer, (after_call mode answer s, (refl, (refl, is))))

is-after : (mode : Mode) (answer : Answer) (s after : State) → IsAfter mode answer s after → after ≡ after_call mode answer s
unfolding after_call
is-after mode answer s after h =
    let m = record s.memory { forms = answer.world.forms; meta = answer.world.meta } in
    ap (λ (x : Memory). record after { memory = x }) (delivers-only mode answer.forced answer.value m after.memory h.memory)
    ∙ ap (λ (x : Input). record after { memory = deliver mode answer.forced answer.value m; input = x }) h.input
    ∙ ap (λ (x : Text). record after { memory = deliver mode answer.forced answer.value m; input = answer.world.input; output = x }) h.output

performs-only : (mode : Mode) (means : Meaning) (s : State) (o : Outcome) → FollowsMeaning mode means s o → o ≡ perform mode means s
unfolding after_call
performs-only mode means s o h =
    ⊎_elim
    (λ over. over.1.1 ∙ sym (ap (λ m. perform mode m s) over.1.0))
    (λ next. next.1.1.1.0 ∙ ap Next (is-after mode next.0 s next.1.0 next.1.1.1.1) ∙ sym (ap (λ m. perform mode m s) next.1.1.0)) h

ends-to : (s : State) (calls : List OpenCall) → s.memory.calls ≡ calls → EndsCall s (end_call calls s)
ends-to s [] e = inl (e, refl)
ends-to s (call ∷ outer) e = inr (call, (outer, (e, performs call.mode (meaning (function_of call) (arguments call) (world_of s)) (record s { memory = record s.memory { calls = outer } }))))

ends-only : (s : State) (o : Outcome) → EndsCall s o → o ≡ end_call s.memory.calls s
ends-only s o h =
    ⊎_elim
    (λ none. none.1 ∙ sym (ap (λ calls. end_call calls s) none.0))
    (λ some. performs-only some.0.mode (meaning (function_of some.0) (arguments some.0) (world_of s)) (record s { memory = record s.memory { calls = some.1.0 } }) o some.1.1.1
    ∙ sym (ap (λ calls. end_call calls s) some.1.1.0)) h

does : (r : Rule) (s : State) → Does r s (follow r s)
does (AddProtected inside rest) s = (add inside (rest_of rest s).memory, (adds inside (rest_of rest s).memory, refl))
does (BeginArgument rest) s = (_, (arguments-to (rest_of rest s).memory s.memory.calls refl, refl))
does (EndCall rest) s = ends-to (rest_of rest s) s.memory.calls refl
does (AddCharacter c rest) s = (add (c ∷ []) (rest_of rest s).memory, (adds (c ∷ []) (rest_of rest s).memory, refl))
does r s = refl

does-only : (r : Rule) (s : State) (o : Outcome) → Does r s o → o ≡ follow r s
does-only (AddProtected inside rest) s o h =
    h.1.1 ∙ ap (λ m. Next (record s { memory = m })) (adds-only inside (rest_of rest s).memory h.0 h.1.0)
does-only (BeginArgument rest) s o h =
    h.1.1 ∙ ap (λ m. Next (record s { memory = m })) (arguments-only (rest_of rest s).memory h.0 h.1.0)
does-only (EndCall rest) s o h = ends-only (rest_of rest s) o h
does-only (AddCharacter c rest) s o h =
    h.1.1 ∙ ap (λ m. Next (record s { memory = m })) (adds-only (c ∷ []) (rest_of rest s).memory h.0 h.1.0)
does-only r s o e = e

pub step-fits : (s : State) (o : Outcome) → (step s ≡ o) ↔ Leads s o
unfolding step
step-fits s o = (
  (λ e. subst (Leads s) e (rule s.memory.active, ((rule-fits s.memory.active (rule s.memory.active)).0 refl, does (rule s.memory.active) s))),
  (λ h. ap (λ r. follow r s) ((rule-fits s.memory.active h.0).1 h.1.0) ∙ sym (does-only h.0 s o h.1.1)),
)
