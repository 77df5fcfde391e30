-- Texts without a number sign.
use Rattle.std.proofs.Common.{◌≡◌, ◌∙◌, ◌==◌, Bool, true, false, List, [], ◌∷◌, ap, length, take, refl}
use Rattle.std.specs.List.{list_any}
use Rattle.std.specs.Prelude.{◌&&◌, ◌||◌, not, if◌then◌else◌}
use Rattle.trac_language.specs.declared.function.Function.{Function}
use Rattle.trac_language.specs.Text.{Text}
use Rattle.trac_space.specs.Texts.{text_of_cells}
use Rattle.trac_events.specs.Calls.{argument_of}
use Rattle.trac_warnings.specs.Blanks.{trimmed}
use Rattle.trac_warnings.specs.Performed.{of_text, print_warnings, prints}
use Rattle.trac_warnings.specs.Printed.{behind_call, behind_parenthesis, behind_sign, closes_at_end, is_sign}
use Rattle.trac_warnings.specs.Spelling.{names_function}
use Rattle.trac_warnings.specs.Watched.{Said}
use Rattle.trac_warnings.specs.declared.performed.Ending.{Ending}
use Rattle.trac_warnings.specs.declared.warning.Suspicion.TheVariants.{CallPrinted}

not_here : (is_here names : Bool) (text behind later : Text) → (is_here || list_any is_sign text) ≡ false → (list_any is_sign text ≡ false → later ≡ []) → (if is_here && names then behind else later) ≡ []
not_here true names text behind later none others = absurd cc
not_here false names text behind later none others = others none

-- no call stands in a text without a number sign
pub no_call : (text : Text) → list_any is_sign text ≡ false → behind_call text ≡ []
no_call [] none = refl
no_call (c ∷ text) none =
    let behind = behind_parenthesis (behind_sign text) in
    not_here (c == 35) (names_function 41 behind) text behind (behind_call text) none (no_call text)

no_said : (b : Bool) (said : List Said) → (if b && false then said else []) ≡ []
no_said true said = refl
no_said false said = refl

-- there is no warning of a text that is printed and in which no call stands
pub no_print : (function : Function) (ending : Ending) → behind_call (text_of_cells (trimmed (argument_of ending.arguments.now 1))) ≡ [] → print_warnings function ending ≡ []
no_print function ending empty =
    ap (λ (behind : Text). if prints function && (not (length behind == 0) && closes_at_end 1 behind) then of_text CallPrinted ending.begin (take 2 behind) ∷ [] else []) empty
    ∙ no_said (prints function) (of_text CallPrinted ending.begin [] ∷ [])
