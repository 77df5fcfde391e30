-- A run prints the same after anything that was printed before it.
use Rattle.trac_core.proofs.Imports.{◌≡◌, ℕ, zero, suc, List, [], ◌∷◌, ◌++◌, Bool, true, false, refl, sym, ap, ◌∙◌, append_assoc, append-nil, nat_lt, Mode, Text, OpenCall, Memory, Input, State, Meaning, Gives, Ends, Rule, EndCall, rule, Outcome, Next, deliver, perform, end_call, with_active, follow, end_need, need_by, step, need, Run, run, state_with}
use Rattle.trac_language.specs.Step.{Over}
use Rattle.trac_language.specs.Run.{within, go_on, one_more}

module _ (before : Text) where
  -- the state after more was printed before it
  abbrev pub later_state : State → State
  later_state s = record s { output = before ++ s.output }

  abbrev pub later_outcome : Outcome → Outcome
  later_outcome (Next t) = Next (record t { output = before ++ t.output })
  later_outcome (Over f) = Over f

  abbrev pub later_run : Run → Run
  later_run r = record r { output = before ++ r.output }

  perform-later : (mode : Mode) (m : Meaning) (s : State) → perform mode m (record s { output = before ++ s.output }) ≡ later_outcome (perform mode m s)
  perform-later mode (Gives answer) s = ap (λ o. Next (record {
    memory = deliver mode answer.forced answer.value (record s.memory { forms = answer.world.forms; meta = answer.world.meta });
    input = answer.world.input;
    output = o;
  })) (append_assoc before s.output answer.printed)
  perform-later mode (Ends f) s = refl

  end_call-later : (calls : List OpenCall) (s : State) → end_call calls (record s { output = before ++ s.output }) ≡ later_outcome (end_call calls s)
  end_call-later [] s = refl
  end_call-later (call ∷ outer) s = perform-later call.mode _ (record s { memory = record s.memory { calls = outer } })

  follow-later : (r : Rule) (s : State) → follow r (record s { output = before ++ s.output }) ≡ later_outcome (follow r s)
  follow-later (EndCall rest) s = end_call-later s.memory.calls (with_active rest s)
  follow-later _ s = refl

  pub step-later : (s : State) → step (record s { output = before ++ s.output }) ≡ later_outcome (step s)
  unfolding step
  step-later s = follow-later (rule s.memory.active) s

  end_need-later : (calls : List OpenCall) (s : State) → end_need calls (record s { output = before ++ s.output }) ≡ end_need calls s
  end_need-later [] s = refl
  end_need-later (call ∷ outer) s = refl

  need_by-later : (r : Rule) (s : State) → need_by r (record s { output = before ++ s.output }) ≡ need_by r s
  need_by-later (EndCall rest) s = end_need-later s.memory.calls s
  need_by-later _ s = refl

  need-later : (s : State) → need (record s { output = before ++ s.output }) ≡ need s
  unfolding need
  need-later s = need_by-later (rule s.memory.active) s

  run-later : (room n : ℕ) (s : State) → run room n (record s { output = before ++ s.output }) ≡ later_run (run room n s)
  unfolding run
  run-later room zero s = refl
  run-later room (suc n) s =
      ap (λ k. within (nat_lt room k) (later_state s) (run room n)) (need-later s) ∙ go (nat_lt room (need s)) (run-later room n)
    where
      on : (k : ℕ) (o : Outcome) → ((t : State) → run room n (record t { output = before ++ t.output }) ≡ later_run (run room n t)) → go_on k (later_outcome o) (record s { output = before ++ s.output }) (run room n) ≡ later_run (go_on k o s (run room n))
      on k (Next t) rest = ap (one_more k) (rest t)
      on k (Over f) rest = refl

      go : (b : Bool) → ((t : State) → run room n (record t { output = before ++ t.output }) ≡ later_run (run room n t)) → within b (record s { output = before ++ s.output }) (run room n) ≡ later_run (within b s (run room n))
      go true rest = refl
      go false rest =
          ap (λ k. go_on k (step (later_state s)) (later_state s) (run room n)) (need-later s)
          ∙ ap (λ o. go_on (need s) o (later_state s) (run room n)) (step-later s)
          ∙ on (need s) (step s) rest

-- the run from a state, after this was printed
pub run-from : (room n : ℕ) (memory : Memory) (input : Input) (before : Text) → run room n (state_with memory input before) ≡ later_run before (run room n (state_with memory input []))
run-from room n memory input before = ap (λ o. run room n (state_with memory input o)) (sym (append-nil before)) ∙ run-later before room n (state_with memory input [])
