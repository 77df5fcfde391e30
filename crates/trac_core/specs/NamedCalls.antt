-- The innermost call by its parts.
use Rattle.std.specs.Prelude.{◌≡◌, ℕ, drop, false, IsSome}
use Rattle.trac_space.specs.Calls.{IsLastCall}
use Rattle.trac_forms.specs.Contents.{Contents, IsSound}
use Rattle.trac_functions.specs.Flat.{mode_at, is_active_mode, arguments_at}
use Rattle.trac_functions.specs.Calls.{AreArguments, texts}
use Rattle.trac_core.specs.declared.call.NamedCall.{NamedCall}
use Rattle.trac_core.specs.Performed.{calls_device}
use Rattle.trac_core.specs.StepOutcomes.{function_at}

-- `call` has the parts of the innermost call
pub record IsNamed (call : NamedCall) (w : Contents) : Type 0 where
  pub sound : IsSound w
  pub innermost : IsLastCall w.neutral call.place
  pub names : call.function ≡ function_at w.neutral call.place
  pub arguments : AreArguments w call.arguments
  pub rest : IsSome call.function →
      texts w call.arguments ≡ drop 1 (arguments_at w.neutral call.place)
  pub scanned : call.arguments.scanned ≡ is_active_mode (mode_at w.neutral call.place)

-- the call whose mark stands at `place` needs no device
abbrev pub IsAlone : Contents → ℕ → Type 0
IsAlone w place = calls_device (function_at w.neutral place) (arguments_at w.neutral place) ≡ false
