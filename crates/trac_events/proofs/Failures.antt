-- The failures of a run that was not over before its last step.
use Rattle.std.proofs.Common.{◌≡◌, Option, Some, None, refl, ◌∙◌, ap}
use Rattle.trac_language.specs.declared.fate.Fate.{Fate}
use Rattle.trac_language.specs.declared.fate.Fate.TheVariants.{Halted, InputEnded, Workspace, Steps, InputFailed, OutputFailed}
use Rattle.trac_core.specs.Machine.{input_failures, reported_input_failures}

pub last-failures : (before : Option Fate) (fate : Fate) → before ≡ None → input_failures before (Some fate) ≡ reported_input_failures fate
last-failures before fate e = ap (λ o. input_failures o (Some fate)) e ∙ go fate
  where
    go : (fate : Fate) → input_failures None (Some fate) ≡ reported_input_failures fate
    go Halted = refl
    go InputEnded = refl
    go Workspace = refl
    go Steps = refl
    go InputFailed = refl
    go OutputFailed = refl
