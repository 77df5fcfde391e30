-- What a step by a rule that ends no call reads, and what one that protects nothing drops.
use Rattle.std.proofs.Common.{◌≡◌, ◌∙◌, ℕ, Bool, true, false, List, [], ◌∷◌, Option, None, ap, if◌then◌else◌, refl, sym}
use Rattle.trac_language.specs.declared.function.Function.{Function}
use Rattle.trac_language.specs.declared.mode.Mode.TheVariants.{Active, Neutral}
use Rattle.trac_language.specs.State.{OpenCall}
use Rattle.trac_language.specs.Rule.{Rule, LoadIdling, DeleteLayout, AddProtected, ClearActive, BeginArgument, BeginCall, EndCall, AddCharacter, rule}
use Rattle.trac_core.specs.Machine.{MachineState}
use Rattle.trac_core.specs.Performed.{performed_by}
use Rattle.trac_core.specs.Session.{awaited, next_function}
use Rattle.trac_core.specs.View.{dropped, row_of}
use Rattle.trac_core.specs.declared.machine.session.Awaits.TheVariants.{Nothing}
use Rattle.trac_core.specs.declared.rules.ScanningRule.{ScanningRule}
use Rattle.trac_events.specs.Calls.{ends_call, protects}

nothing-performed : (r : Rule) (calls : List OpenCall) → ends_call (row_of r) ≡ false → performed_by r calls ≡ None
nothing-performed (EndCall rest) calls e = absurd cc
nothing-performed LoadIdling calls e = refl
nothing-performed (DeleteLayout rest) calls e = refl
nothing-performed (AddProtected inside rest) calls e = refl
nothing-performed ClearActive calls e = refl
nothing-performed (BeginArgument rest) calls e = refl
nothing-performed (BeginCall mode rest) calls e = refl
nothing-performed (AddCharacter c rest) calls e = refl

if-none : (b : Bool) (function : Option Function) → function ≡ None → (if b then function else None) ≡ None
if-none true function e = e
if-none false function e = refl

pub nothing_awaited : (m : MachineState) (row : ScanningRule) → row ≡ row_of (rule m.memory.active) → ends_call row ≡ false → Nothing ≡ awaited (next_function m)
nothing_awaited m row is e =
    sym (ap awaited (if-none _ (performed_by (rule m.memory.active) m.memory.calls) (nothing-performed (rule m.memory.active) m.memory.calls (ap ends_call (sym is) ∙ e))))

none-dropped : (r : Rule) (n : ℕ) → protects (row_of r) ≡ false → 0 ≡ dropped r n
none-dropped ClearActive n e = absurd cc
none-dropped LoadIdling n e = refl
none-dropped (DeleteLayout rest) n e = refl
none-dropped (AddProtected inside rest) n e = refl
none-dropped (BeginArgument rest) n e = refl
none-dropped (BeginCall mode rest) n e = refl
none-dropped (EndCall rest) n e = refl
none-dropped (AddCharacter c rest) n e = refl

pub nothing_dropped : (r : Rule) (row : ScanningRule) (n : ℕ) → row ≡ row_of r → protects row ≡ false → 0 ≡ dropped r n
nothing_dropped r row n is e = none-dropped r n (ap protects (sym is) ∙ e)
