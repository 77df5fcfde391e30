-- What a loop over steps keeps: the run from the start is the run from here, after the steps done.
use Rattle.trac_laws.proofs.Imports.{◌≡◌, ℕ, zero, suc, refl, ◌+◌, ◌-◌, ◌<◌, ◌≤◌, max, ap, ◌∙◌, arith, Fate, Workspace, Steps, State, Next, Over, step, need, Run, counted, stopped, run}
use Rattle.trac_laws.proofs.Runs.{run_none, run_full, run_over, run_next}
unfoldable use Rattle.trac_laws.specs.StateAfter.{state_after}
use Rattle.trac_laws.specs.StateAfter.{state_on}

-- a run that goes on after n steps with this peak
abbrev pub later : ℕ → ℕ → Run → Run
later n peak rest = record { output = rest.output; left = rest.left; fate = rest.fate; steps = n + rest.steps; peak = max peak rest.peak }

-- from the start a run comes to s, in n steps with this peak, whatever its allowance
pub record Reached (room : ℕ) (start : State) (n peak : ℕ) (s : State) : Type 0 where
  pub is : (m : ℕ) → run room (n + m) start ≡ later n peak (run room m s)
  pub state : (m : ℕ) → state_after (n + m) start ≡ state_after m s

-- no step, one that goes on, and one that ends the run
pub state_none : (s : State) → state_after zero s ≡ s
unfolding state_after
state_none s = refl

pub state_next : (n : ℕ) (s t : State) → step s ≡ Next t → state_after (suc n) s ≡ state_after n t
unfolding state_after
state_next n s t e = ap (λ o. state_on o s (state_after n)) e

pub state_over : (n : ℕ) (s : State) (f : Fate) → step s ≡ Over f → state_after n s ≡ s
unfolding state_after
state_over zero s f e = refl
state_over (suc n) s f e = ap (λ o. state_on o s (state_after n)) e

-- a run with these numbers
abbrev with_numbers : Run → ℕ → ℕ → Run
with_numbers r steps peak = record { output = r.output; left = r.left; fate = r.fate; steps = steps; peak = peak }

later_is : (n m p q : ℕ) (r : Run) → n ≡ m → p ≡ q → with_numbers r n p ≡ with_numbers r m q
later_is n m p q r e f = ap (λ k. with_numbers r k p) e ∙ ap (with_numbers r m) f

pub reached_start : (room : ℕ) (s : State) → Reached room s 0 0 s
reached_start room s =
    record {
      is = λ m.
          let r = run room m s in
          let e : 0 + m ≡ m = omega arith in
          ap (λ n. run room n s) e ∙ later_is r.steps (0 + r.steps) r.peak (max 0 r.peak) r (omega arith) (omega arith);
      state = λ m.
          let e : 0 + m ≡ m = omega arith in
          ap (λ n. state_after n s) e;
    }

module _ (room : ℕ) (start : State) (n peak : ℕ) (s : State) (before : Reached room start n peak s) where
  pub reached_next : (t : State) → need s ≤ room → step s ≡ Next t → Reached room start (n + 1) (max peak (need s)) t
  reached_next t fits e = record {
    is = λ m.
        let r = run room m t in
        let one : n + 1 + m ≡ n + suc m = omega arith in
        ap (λ k. run room k start) one ∙ before.is (suc m) ∙ ap (later n peak) (run_next room m s t fits e) ∙ later_is (n + suc r.steps) (n + 1 + r.steps) (max peak (max (need s) r.peak)) (max (max peak (need s)) r.peak) r (omega arith) (omega arith);
    state = λ m.
        let one : n + 1 + m ≡ n + suc m = omega arith in
        ap (λ k. state_after k start) one ∙ before.state (suc m) ∙ state_next m s t e;
  }

  module _ (allowance : ℕ) where
    -- the run from s has one more step
    left : n < allowance → run room allowance start ≡ later n peak (run room (suc (allowance - (n + 1))) s)
    left h = let e : allowance ≡ n + suc (allowance - (n + 1)) = omega arith in ap (λ k. run room k start) e ∙ before.is (suc (allowance - (n + 1)))

    pub reached_over : (f : Fate) → n < allowance → need s ≤ room → step s ≡ Over f → run room allowance start ≡ record { output = s.output; left = s.input.text; fate = f; steps = n + counted f; peak = max peak (need s) }
    reached_over f h fits e = left h ∙ ap (later n peak) (run_over room (allowance - (n + 1)) s f fits e)

    pub reached_full : n < allowance → room < need s → run room allowance start ≡ record { output = s.output; left = s.input.text; fate = Workspace; steps = n; peak = peak }
    reached_full h full = left h ∙ ap (later n peak) (run_full room (allowance - (n + 1)) s full) ∙ later_is (n + 0) n (max peak 0) peak (stopped Workspace s) (omega arith) (omega arith)

  -- the run with an allowance of just these steps
  pub reached_spent : run room n start ≡ record { output = s.output; left = s.input.text; fate = Steps; steps = n; peak = peak }
  reached_spent =
      let e : n ≡ n + 0 = omega arith in
      ap (λ k. run room k start) e ∙ before.is 0 ∙ ap (later n peak) (run_none room s) ∙ later_is (n + 0) n (max peak 0) peak (stopped Steps s) (omega arith) (omega arith)

-- a step adds to the output what can't be written: the runs with an allowance up to it and past it
pub reached_unwritten : (room : ℕ) (start : State) (n peak : ℕ) (s t : State) → Reached room start n peak s → need s ≤ room → step s ≡ Next t → (run room n start ≡ record { output = s.output; left = s.input.text; fate = Steps; steps = n; peak = peak }) × (run room (n + 1) start ≡ record { output = t.output; left = t.input.text; fate = Steps; steps = n + 1; peak = max peak (need s) })
reached_unwritten room start n peak s t reached fits e = (reached_spent room start n peak s reached, reached_spent room start (n + 1) (max peak (need s)) t (reached_next room start n peak s reached t fits e))
