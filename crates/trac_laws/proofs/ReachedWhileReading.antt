-- What a loop over steps keeps while nobody knows yet how the input goes on.
use Rattle.trac_laws.proofs.Imports.{◌≡◌, ℕ, ◌+◌, ◌<◌, ◌≤◌, max, Bool, true, false, [], ◌++◌, sym, subst, append_assoc, InputFailed, Text, Memory, Next, Over, step, need, run, reads_to_end}
use Rattle.trac_laws.proofs.TakenInput.{standing, step_anywhere}
use Rattle.trac_laws.proofs.Reached.{Reached, reached_start, reached_next, reached_over}

-- n steps have taken `taken` of the input, and would have done the same however the input went on
pub record ReachedAnywhere (room : ℕ) (start : Memory) (written : Text) (taken : Text) (n peak : ℕ) (m : Memory) (out : Text) : Type 0 where
  pub is : (R : Text) (e : Bool) → Reached room (standing start (taken ++ R) e written) n peak (standing m R e out)

pub anywhere_start : (room : ℕ) (start : Memory) (written : Text) → ReachedAnywhere room start written [] 0 0 start written
anywhere_start room start written = record { is = λ R e. reached_start room (standing start R e written) }

module _ (room : ℕ) (start : Memory) (written taken : Text) (n peak : ℕ) (m : Memory) (out : Text) (before : ReachedAnywhere room start written taken n peak m out) where
  -- a step that takes g, and leaves r to come
  pub anywhere_next : (g r : Text) (m' : Memory) (out' : Text) → need (standing m (g ++ r) false out) ≤ room → reads_to_end (standing m (g ++ r) false out) ≡ false → step (standing m (g ++ r) false out) ≡ Next (standing m' r false out') → ReachedAnywhere room start written (taken ++ g) (n + 1) (max peak (need (standing m (g ++ r) false out))) m' out'
  anywhere_next g r m' out' fits more e = record {
    is = λ R f.
        let all = step_anywhere g r out out' m' m more e R f in
        let now = before.is (g ++ R) f in
        let next = reached_next room (standing start (taken ++ (g ++ R)) f written) n peak (standing m (g ++ R) f out) now (standing m' R f out') (subst (λ k. k ≤ room) (sym all.1) fits) all.0 in
        subst (λ t. Reached room (standing start t f written) (n + 1) (max peak (need (standing m (g ++ r) false out))) (standing m' R f out')) (sym (append_assoc taken g R))
        (subst (λ k. Reached room (standing start (taken ++ (g ++ R)) f written) (n + 1) (max peak k) (standing m' R f out')) all.1 next);
  }

  -- the source fails after it gave these bytes in the last step
  pub anywhere_failed : (given : Text) (allowance : ℕ) → n < allowance → need (standing m given true out) ≤ room → step (standing m given true out) ≡ Over InputFailed → run room allowance (standing start (taken ++ given) true written) ≡ record { output = out; left = given; fate = InputFailed; steps = n + 0; peak = max peak (need (standing m given true out)) }
  anywhere_failed given allowance h fits e = reached_over room (standing start (taken ++ given) true written) n peak (standing m given true out) (before.is given true) allowance InputFailed h fits e
