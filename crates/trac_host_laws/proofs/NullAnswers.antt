-- A run whose host gives the null value to each call of no function.
use Rattle.std.proofs.Common.{Bool, ap, false, refl, sym, true, zero, suc, ◌∙◌, ◌≡◌}
use Rattle.std.specs.Prelude.{nat_lt}
use Rattle.trac_language.specs.Run.{go_on, run, within}
use Rattle.trac_language.specs.State.{State}
use Rattle.trac_language.specs.Step.{need, step}
use Rattle.trac_core.specs.OpenCalls.{calls_unknown}
use Rattle.trac_core.proofs.Answering.{unknown-need, unknown-step}
use Rattle.trac_host_laws.specs.NullAnswers.{NullAnswersChangeNothing, hosted_need, hosted_need_if, hosted_run, hosted_step, hosted_step_if, hosted_within}

same-step : (b : Bool) (s : State) → calls_unknown s.memory ≡ b → hosted_step_if b s ≡ step s
same-step true s is = sym (unknown-step s is)
same-step false s is = refl

same-need : (b : Bool) (s : State) → calls_unknown s.memory ≡ b → hosted_need_if b s ≡ need s
same-need true s is = sym (unknown-need s is)
same-need false s is = refl

pub same-run : NullAnswersChangeNothing
unfolding run
same-run room zero s = refl
same-run room (suc n) s =
    let needs = same-need (calls_unknown s.memory) s refl in
    let steps = same-step (calls_unknown s.memory) s refl in
    ap (λ k. hosted_within (nat_lt room k) s (hosted_run room n)) needs
    ∙ go (nat_lt room (need s)) needs steps (λ t. same-run room n t)
  where
    go : (b : Bool) → hosted_need s ≡ need s → hosted_step s ≡ step s → ((t : State) → hosted_run room n t ≡ run room n t) → hosted_within b s (hosted_run room n) ≡ within b s (run room n)
    go true needs steps rest = refl
    go false needs steps rest = λ i. go_on (needs i) (steps i) s (λ t. rest t i)
