-- A step does the same whatever was printed before it, and whatever the peak was.
use Rattle.std.proofs.Common.{◌≡◌, ℕ, ◌<◌, ◌≤◌, max, List, [], ◌∷◌, ◌++◌, Option, Some, None, refl, sym, ap, ◌∙◌, subst, append_assoc, append-nil, arith}
use Rattle.trac_language.specs.declared.fate.Fate.{Fate}
use Rattle.trac_language.specs.declared.fate.Fate.TheVariants.{Halted, InputEnded, Workspace, Steps, InputFailed, OutputFailed}
use Rattle.trac_language.specs.Text.{Text}
use Rattle.trac_language.specs.State.{OpenCall, State}
use Rattle.trac_language.specs.Rule.{Rule, EndCall, rule}
use Rattle.trac_language.specs.Step.{Next, Over, end_need, need_by, need, step}
use Rattle.trac_laws.specs.LastRead.{reads_last_by}
use Rattle.trac_core.specs.Machine.{MachineState, Moment, moment, state_of, failing_state_of, MayStep, Counts, EndsRun, Answers}
use Rattle.trac_core.proofs.Outputs.{later_state, later_outcome, step-later}

-- a machine with another peak
abbrev pub with_peak : ℕ → MachineState → MachineState
with_peak peak m = record m { peak = peak }

-- a moment with another peak, and with more printed before it
abbrev pub framed : (out : Text) (top : ℕ) → Moment → Moment
framed out top m = moment (with_peak top m.machine) m.source (out ++ m.written)

reads-later : (out : Text) (r : Rule) (s : State) → reads_last_by r (later_state out s) ≡ reads_last_by r s
reads-later out (EndCall rest) s = refl
reads-later out _ s = refl

end_need-later : (out : Text) (calls : List OpenCall) (s : State) → end_need calls (later_state out s) ≡ end_need calls s
end_need-later out [] s = refl
end_need-later out (call ∷ outer) s = refl

need_by-later : (out : Text) (r : Rule) (s : State) → need_by r (later_state out s) ≡ need_by r s
need_by-later out (EndCall rest) s = end_need-later out s.memory.calls s
need_by-later out _ s = refl

pub need-later : (out : Text) (s : State) → need (later_state out s) ≡ need s
unfolding need
need-later out s = need_by-later out (rule s.memory.active) s

module _ (out : Text) (top : ℕ) (old new : Moment) (no_peak : old.machine.peak ≡ 0) where
  counts-so : (more needed same : ℕ) → same ≡ needed → Counts old.machine new.machine more needed → Counts (with_peak top old.machine) (with_peak (max top new.machine.peak) new.machine) more same
  counts-so more needed same e counts = record { steps = counts.steps; peak = omega (arith, counts.peak, no_peak, e) }

  may-so : (s : State) → MayStep old.machine s → MayStep (with_peak top old.machine) (later_state out s)
  may-so s may = record { allowed = may.allowed; fits = subst (λ n. n ≤ old.machine.room) (sym (need-later out s)) may.fits }

  over-so : (s : State) (fate : Fate) → step s ≡ Over fate → step (later_state out s) ≡ Over fate
  over-so s fate e = step-later out s ∙ ap (later_outcome out) e

  next-so : (s t : State) → step s ≡ Next t → step (later_state out s) ≡ Next (later_state out t)
  next-so s t e = step-later out s ∙ ap (later_outcome out) e

  ends-so : (fate : Fate) → EndsRun fate old new → EndsRun fate (framed out top old) (framed out (max top new.machine.peak) new)
  ends-so fate a =
      record {
        may = may-so (state_of old) a.may;
        ends = over-so (state_of old) fate a.ends;
        counts = counts-so 1 _ _ (need-later out (state_of old)) a.counts;
        source = a.source;
        written = ap (λ t. out ++ t) a.written;
      }

  pub answers-so : (answer : Option Fate) → Answers old answer new → Answers (framed out top old) answer (framed out (max top new.machine.peak) new)
  answers-so (Some Steps) a =
      record {
        used_up = a.used_up;
        memory = a.memory;
        counts = counts-so 0 0 0 refl a.counts;
        source = a.source;
        written = ap (λ t. out ++ t) a.written;
      }
  answers-so (Some Workspace) a =
      record {
        allowed = a.allowed;
        full = subst (λ n. old.machine.room < n) (sym (need-later out (state_of old))) a.full;
        counts = counts-so 0 0 0 refl a.counts;
        written = ap (λ t. out ++ t) a.written;
      }
  answers-so (Some InputFailed) a =
      let s = failing_state_of old a.0 in
      let stop = a.1 in (
        a.0,
        record {
          consumed = stop.consumed;
          not_ended = stop.not_ended;
          may = may-so s stop.may;
          ends = over-so s InputFailed stop.ends;
          counts = counts-so 0 _ _ (need-later out s) stop.counts;
          written = ap (λ t. out ++ t) stop.written;
        },
      )
  answers-so (Some OutputFailed) a =
      let next = a.0 in
      let put = a.1.0 in
      let rest = a.1.1.0 in
      let stop = a.1.1.1 in (
        later_state out next,
        (
          put,
          (
            rest,
            record {
              may = may-so (state_of old) stop.may;
              goes = next-so (state_of old) next stop.goes;
              prints = ap (λ t. out ++ t) stop.prints ∙ sym (append_assoc out old.written (put ++ rest));
              some = stop.some;
              counts = counts-so 0 _ _ (need-later out (state_of old)) stop.counts;
              written = ap (λ t. out ++ t) stop.written ∙ sym (append_assoc out old.written put);
            },
          ),
        ),
      )
  answers-so (Some Halted) a = ends-so Halted a
  answers-so (Some InputEnded) a = ends-so InputEnded a
  answers-so None a =
      record {
        may = may-so (state_of old) a.may;
        goes = next-so (state_of old) (state_of new) a.goes;
        counts = counts-so 1 _ _ (need-later out (state_of old)) a.counts;
        stays_ended = a.stays_ended;
        read_all = λ reads. a.read_all (sym (reads-later out (rule old.machine.memory.active) (state_of old)) ∙ reads);
      }

-- the answer of a step whose machine counted from no peak and whose sink held nothing
pub framed-answers : (out : Text) (top : ℕ) (old new : Moment) (answer : Option Fate) → old.machine.peak ≡ 0 → old.written ≡ [] → Answers old answer new → Answers (moment (with_peak top old.machine) old.source out) answer (framed out (max top new.machine.peak) new)
framed-answers out top old new answer no_peak empty a =
    subst (λ before. Answers (moment (with_peak top old.machine) old.source before) answer (framed out (max top new.machine.peak) new))
    (ap (λ t. out ++ t) empty ∙ append-nil out) (answers-so out top old new no_peak answer a)
