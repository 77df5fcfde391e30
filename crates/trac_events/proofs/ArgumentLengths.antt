-- The arguments of a call are no longer than the memory is large.
use Rattle.trac_events.proofs.Imports.{ℕ, zero, suc, ◌+◌, ◌≤◌, Bool, true, false, List, [], ◌∷◌, ◌++◌, length, get_or, arith, if◌then◌else◌, sum_by, sum_by-cons}
use Rattle.trac_language.specs.Text.{Text}
use Rattle.trac_language.specs.State.{OpenCall, argument, call_cells, size}
use Rattle.trac_language.specs.Rule.{Rule, EndCall, rule}
use Rattle.trac_core.specs.Machine.{MachineState}
use Rattle.trac_core.specs.OpenCalls.{next_texts, performed_texts, texts_performed_by}

abbrev with_comma : Text → ℕ
with_comma text = length text + 1

argument-of : (earlier : List Text) (last : Text) (k : ℕ) → length (get_or (earlier ++ last ∷ []) k []) ≤ length last + sum_by (λ text. length text + 1) earlier
argument-of [] last zero = omega arith
argument-of [] last (suc k) = omega arith
argument-of (text ∷ earlier) last zero = omega (arith, sum_by-cons with_comma text earlier)
argument-of (text ∷ earlier) last (suc k) = omega (arith, sum_by-cons with_comma text earlier, argument-of earlier last k)

argument-by : (r : Rule) (calls : List OpenCall) (k : ℕ) → length (argument (texts_performed_by r calls) k) ≤ sum_by call_cells calls
argument-by (EndCall rest) (call ∷ outer) k =
    omega (arith, argument-of call.earlier call.last k, sum_by-cons call_cells call outer)
argument-by r calls k = omega arith

-- an argument of the call that the next step performs is no longer than the memory is large
pub argument-fits : (m : MachineState) (k : ℕ) → length (argument (next_texts m) k) ≤ size m.memory
argument-fits m k = go _
  where
    go : (b : Bool) → length (argument (if b then performed_texts m.memory else []) k) ≤ size m.memory
    go true = omega (arith, argument-by (rule m.memory.active) m.memory.calls k)
    go false = omega arith
