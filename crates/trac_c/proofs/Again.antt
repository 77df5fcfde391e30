-- A turn of a machine whose run is over.
use Rattle.trac_c.proofs.Imports.{◌≡◌, ℕ, [], zero, suc, Some, refl, ap, ◌∙◌, is_none, nat_lt, ◌&&◌, if◌then◌else◌, Fate, Input, MachineState, next_printed, step_prints, last_over, told_again, turn_number, wanted_by, TracReport}

-- a machine whose run is over prints nothing
pub prints-none : (m : MachineState) (fate : Fate) (input : Input) → m.fate ≡ Some fate → next_printed m input ≡ []
prints-none m fate input over =
    ap (λ f. if is_none f && nat_lt m.steps m.allowance then step_prints m.memory input else []) over

wants-none : (most : ℕ) (fate : Fate) → wanted_by (last_over most fate) ≡ 0
wants-none zero fate = refl
wants-none (suc n) fate = refl

pub told-again : (most : ℕ) (fate : Fate) (m : MachineState) (told : TracReport) → told.fate ≡ turn_number (last_over most fate) → told.peak ≡ m.peak → told.steps ≡ m.steps → (told.written ≡ 0) × (told.consumed ≡ 0) → told.wanted ≡ wanted_by (last_over most fate) → told ≡ told_again most fate m
told-again most fate m told fated peak steps none wanted =
    λ i. record { fate = fated i; peak = peak i; steps = steps i; written = none.0 i; consumed = none.1 i; wanted = (wanted ∙ wants-none most fate) i }
