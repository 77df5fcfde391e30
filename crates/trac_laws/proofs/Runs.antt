-- Laws of runs, from any state.
use Rattle.trac_laws.proofs.Imports.{◌≡◌, ◌≢◌, ℕ, zero, suc, ◌<◌, ◌≤◌, max, List, [], ◌∷◌, ◌++◌, refl, sym, ap, ◌∙◌, subst, ◌⊎◌, inl, inr, ⊎_elim, arith, append_assoc, append-nil, cases_lt, lt-ltb, le-ltb, Fate, Halted, Workspace, Steps, Text, OpenCall, State, first, Meaning, Gives, Ends, Rule}
use Rattle.trac_laws.proofs.Imports.{EndCall, rule, Outcome, Next, Over, perform, end_call, follow, step, need, Run, counted, stopped, one_more, go_on, within, run, IsPrefix, MoreRoom, MoreSteps, FewerSteps, LeastRoom, LessRoom}

-- an outcome is one of two
cases_outcome : (o : Outcome) → ((t : State) × (o ≡ Next t)) ⊎ ((f : Fate) × (o ≡ Over f))
cases_outcome (Next t) = inl (t, refl)
cases_outcome (Over f) = inr (f, refl)

-- a step that doesn't fit
pub run_full : (room n : ℕ) (s : State) → room < need s → run room (suc n) s ≡ stopped Workspace s
unfolding run
run_full room n s h = ap (λ b. within b s (run room n)) (lt-ltb room (need s) h)

-- a step that ends the run
pub run_over : (room n : ℕ) (s : State) (f : Fate) → need s ≤ room → step s ≡ Over f → run room (suc n) s ≡ record { output = s.output; left = s.input.text; fate = f; steps = counted f; peak = need s }
unfolding run
run_over room n s f h e = ap (λ b. within b s (run room n)) (le-ltb room (need s) h) ∙ ap (λ o. go_on (need s) o s (run room n)) e

-- a step that goes on
pub run_next : (room n : ℕ) (s t : State) → need s ≤ room → step s ≡ Next t → run room (suc n) s ≡ one_more (need s) (run room n t)
unfolding run
run_next room n s t h e = ap (λ b. within b s (run room n)) (le-ltb room (need s) h) ∙ ap (λ o. go_on (need s) o s (run room n)) e

-- no step is left
pub run_none : (room : ℕ) (s : State) → run room zero s ≡ stopped Steps s
unfolding run
run_none room s = refl

prefix_refl : (a : Text) → IsPrefix a a
prefix_refl a = ([], sym (append-nil a))

prefix_trans : (a b c : Text) → IsPrefix a b → IsPrefix b c → IsPrefix a c
prefix_trans a b c p q = (p.0 ++ q.0, q.1 ∙ ap (λ x. x ++ q.0) p.1 ∙ append_assoc a p.0 q.0)

-- the output of a next state begins with this text
abbrev Grows : Text → Outcome → Type 0
Grows output (Next t) = IsPrefix output t.output
Grows output (Over f) = Unit {0}

perform_grows : (mode : _) (m : Meaning) (s : State) → Grows s.output (perform mode m s)
perform_grows mode (Gives answer) s = (answer.printed, refl)
perform_grows mode (Ends f) s = tt

end_call_grows : (calls : List OpenCall) (s : State) → Grows s.output (end_call calls s)
end_call_grows [] s = prefix_refl s.output
end_call_grows (call ∷ outer) s = perform_grows call.mode _ _

follow_grows : (r : Rule) (s : State) → Grows s.output (follow r s)
follow_grows (EndCall rest) s = end_call_grows s.memory.calls _
follow_grows r s = prefix_refl s.output

-- a step only adds to the output
pub step_grows : (s t : State) → step s ≡ Next t → IsPrefix s.output t.output
unfolding step
step_grows s t e = subst (Grows s.output) e (follow_grows (rule s.memory.active) s)

-- a run only adds to the output
pub run_grows : (room n : ℕ) (s : State) → IsPrefix s.output (run room n s).output
run_grows room zero s = subst (λ r. IsPrefix s.output r.output) (sym (run_none room s)) (prefix_refl s.output)
run_grows room (suc n) s =
    ⊎_elim
    (λ full. subst (λ r. IsPrefix s.output r.output) (sym (run_full room n s full)) (prefix_refl s.output))
    (λ fits. ⊎_elim
    (λ next. subst (λ r. IsPrefix s.output r.output) (sym (run_next room n s next.0 fits next.1)) (prefix_trans s.output next.0.output (run room n next.0).output (step_grows s next.0 next.1) (run_grows room n next.0)))
    (λ over. subst (λ r. IsPrefix s.output r.output) (sym (run_over room n s over.0 fits over.1)) (prefix_refl s.output))
    (cases_outcome (step s)))
    (cases_lt room (need s))

-- a run whose fate isn't Workspace is the same in every larger room
pub same_in_larger : (room larger n : ℕ) (s : State) → (run room n s).fate ≢ Workspace → room ≤ larger → run larger n s ≡ run room n s
same_in_larger room larger zero s h le = run_none larger s ∙ sym (run_none room s)
same_in_larger room larger (suc n) s h le =
    ⊎_elim
    (λ full. absurd (h (ap (λ r. r.fate) (run_full room n s full))))
    (λ fits. ⊎_elim
    (λ next.
    let here = run_next room n s next.0 fits next.1 in
    let rest = same_in_larger room larger n next.0 (λ e. h (ap (λ r. r.fate) here ∙ e)) le in
    run_next larger n s next.0 (omega arith) next.1 ∙ ap (one_more (need s)) rest ∙ sym here)
    (λ over. run_over larger n s over.0 (omega arith) over.1 ∙ sym (run_over room n s over.0 fits over.1))
    (cases_outcome (step s)))
    (cases_lt room (need s))

-- a run whose fate isn't Steps is the same with every larger allowance
pub same_with_more : (room n m : ℕ) (s : State) → (run room n s).fate ≢ Steps → n ≤ m → run room m s ≡ run room n s
same_with_more room zero m s h le = absurd (h (ap (λ r. r.fate) (run_none room s)))
same_with_more room (suc n) zero s h le = absurd (omega arith)
same_with_more room (suc n) (suc m) s h le =
    ⊎_elim
    (λ full. run_full room m s full ∙ sym (run_full room n s full))
    (λ fits. ⊎_elim
    (λ next.
    let here = run_next room n s next.0 fits next.1 in
    let rest = same_with_more room n m next.0 (λ e. h (ap (λ r. r.fate) here ∙ e)) (omega arith) in
    run_next room m s next.0 fits next.1 ∙ ap (one_more (need s)) rest ∙ sym here)
    (λ over. run_over room m s over.0 fits over.1 ∙ sym (run_over room n s over.0 fits over.1))
    (cases_outcome (step s)))
    (cases_lt room (need s))

-- a run is of this fate, and its output begins that of another
pub record Begins (a b : Run) (f : Fate) : Type 0 where
  pub fate : a.fate ≡ f
  pub output : IsPrefix a.output b.output

counted-le : (f : Fate) → counted f ≤ 1
counted-le Halted = omega arith
counted-le f = omega arith

-- cut short by an allowance below its steps
pub cut_by_steps : (room n m : ℕ) (s : State) → m < (run room n s).steps → Begins (run room m s) (run room n s) Steps
cut_by_steps room n zero s lt = subst (λ r. Begins r (run room n s) Steps) (sym (run_none room s)) (record { fate = refl; output = run_grows room n s })
cut_by_steps room zero (suc m) s lt = let e : (run room zero s).steps ≡ 0 = ap (λ r. r.steps) (run_none room s) in absurd (omega arith)
cut_by_steps room (suc n) (suc m) s lt =
    ⊎_elim
    (λ full. let e : (run room (suc n) s).steps ≡ 0 = ap (λ r. r.steps) (run_full room n s full) in absurd (omega arith))
    (λ fits. ⊎_elim
    (λ next.
    let here = run_next room n s next.0 fits next.1 in
    let e : (run room (suc n) s).steps ≡ suc (run room n next.0).steps = ap (λ r. r.steps) here in
    let rest = cut_by_steps room n m next.0 (omega arith) in
    subst (λ r. Begins r (run room (suc n) s) Steps) (sym (run_next room m s next.0 fits next.1)) (subst (λ r. Begins (one_more (need s) (run room m next.0)) r Steps) (sym here) (record { fate = rest.fate; output = rest.output })))
    (λ over.
    let e : (run room (suc n) s).steps ≡ counted over.0 = ap (λ r. r.steps) (run_over room n s over.0 fits over.1) in
    let c = counted-le over.0 in
    absurd (omega arith))
    (cases_outcome (step s)))
    (cases_lt room (need s))

-- a run whose fate isn't Workspace is the same in every room of at least its peak
pub same_in_peak : (room other n : ℕ) (s : State) → (run room n s).fate ≢ Workspace → (run room n s).peak ≤ other → run other n s ≡ run room n s
same_in_peak room other zero s h le = run_none other s ∙ sym (run_none room s)
same_in_peak room other (suc n) s h le =
    ⊎_elim
    (λ full. absurd (h (ap (λ r. r.fate) (run_full room n s full))))
    (λ fits. ⊎_elim
    (λ next.
    let here = run_next room n s next.0 fits next.1 in
    let e : (run room (suc n) s).peak ≡ max (need s) (run room n next.0).peak = ap (λ r. r.peak) here in
    let rest = same_in_peak room other n next.0 (λ e. h (ap (λ r. r.fate) here ∙ e)) (omega arith) in
    run_next other n s next.0 (omega arith) next.1 ∙ ap (one_more (need s)) rest ∙ sym here)
    (λ over.
    let e : (run room (suc n) s).peak ≡ need s = ap (λ r. r.peak) (run_over room n s over.0 fits over.1) in
    run_over other n s over.0 (omega arith) over.1 ∙ sym (run_over room n s over.0 fits over.1))
    (cases_outcome (step s)))
    (cases_lt room (need s))

-- cut short by a room below its peak
pub cut_by_room : (room other n : ℕ) (s : State) → (run room n s).fate ≢ Workspace → other < (run room n s).peak → Begins (run other n s) (run room n s) Workspace
cut_by_room room other zero s h lt = let e : (run room zero s).peak ≡ 0 = ap (λ r. r.peak) (run_none room s) in absurd (omega arith)
cut_by_room room other (suc n) s h lt =
    ⊎_elim
    (λ full. absurd (h (ap (λ r. r.fate) (run_full room n s full))))
    (λ fits. ⊎_elim
    (λ small. subst (λ r. Begins r (run room (suc n) s) Workspace) (sym (run_full other n s small)) (record { fate = refl; output = run_grows room (suc n) s }))
    (λ large. ⊎_elim
    (λ next.
    let here = run_next room n s next.0 fits next.1 in
    let e : (run room (suc n) s).peak ≡ max (need s) (run room n next.0).peak = ap (λ r. r.peak) here in
    let rest = cut_by_room room other n next.0 (λ e. h (ap (λ r. r.fate) here ∙ e)) (omega arith) in
    subst (λ r. Begins r (run room (suc n) s) Workspace) (sym (run_next other n s next.0 large next.1)) (subst (λ r. Begins (one_more (need s) (run other n next.0)) r Workspace) (sym here) (record { fate = rest.fate; output = rest.output })))
    (λ over. let e : (run room (suc n) s).peak ≡ need s = ap (λ r. r.peak) (run_over room n s over.0 fits over.1) in absurd (omega arith))
    (cases_outcome (step s)))
    (cases_lt other (need s)))
    (cases_lt room (need s))

pub more_room_law : MoreRoom
more_room_law input room larger allowance h le = same_in_larger room larger allowance (first input) h le

pub more_steps_law : MoreSteps
more_steps_law input room allowance larger h le = same_with_more room allowance larger (first input) h le

pub fewer_steps_law : FewerSteps
fewer_steps_law input room allowance fewer h lt = let cut = cut_by_steps room allowance fewer (first input) lt in (cut.fate, cut.output)

pub least_room_law : LeastRoom
least_room_law input room other allowance h le = same_in_peak room other allowance (first input) h le

pub less_room_law : LessRoom
less_room_law input room smaller allowance h lt = let cut = cut_by_room room smaller allowance (first input) h lt in (cut.fate, cut.output)
