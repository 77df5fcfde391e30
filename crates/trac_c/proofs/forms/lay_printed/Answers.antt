use Rattle.std.specs.Prelude.{◌≢◌, ℕ, zero, suc, List, [], false}
use Rattle.trac_c.proofs.Imports.{◌≡◌, Text, MachineState, Option, Some, refl, sym, ap, ◌∙◌, subst, drop, ending, next_function}
use Rattle.trac_language.specs.declared.function.Function.{Function}
use Rattle.trac_language.specs.declared.function.Function.TheVariants.{PrintString, PrintForm}
use Rattle.trac_core.specs.Performed.{prints_output}
use Rattle.trac_core.proofs.Printed.{next-quiet}
use Rattle.trac_c.specs.Buffers.{Lays}
use Rattle.trac_c.specs.Printed.{next_text}
use Rattle.trac_c.proofs.NextTexts.{string-next, form-next}
use Rattle.trac_c.proofs.forms.lay_printed.Goals as goal

quiet-function : (f : Function) → f ≢ PrintString → f ≢ PrintForm → prints_output (Some f) ≡ false
quiet-function PrintString string form = absurd (string refl)
quiet-function PrintForm string form = absurd (form refl)
quiet-function _ string form = refl

none-laid : (from : ℕ) (room : List ℕ) → Lays (drop from []) 0 room room
none-laid zero room = record { length = refl; laid = refl }
none-laid (suc n) room = record { length = refl; laid = refl }

quiet-laid : (m : MachineState) (f : Option Function) (from : ℕ) (room : List ℕ) → f ≡ next_function m → prints_output f ≡ false → Lays (drop from (next_text m)) 0 room room
quiet-laid m f from room is quiet = subst (λ (text : Text). Lays (drop from text) 0 room room) (next-quiet m f (ending []) is quiet) (none-laid from room)

pub returns-in_default : goal.returns-in_default
returns-in_default c =
    quiet-laid c.args.machine.now c.next_function.result c.args.from c.args.room.now c.next_function.ensures (ap prints_output c.in_default.is)

pub returns-in-PrintString : goal.returns-in-PrintString
returns-in-PrintString c =
    subst (λ (text : Text). Lays (drop c.args.from text) c.lay_string.result c.args.room.now c.lay_string.new.room)
    (string-next c.args.machine.now (sym c.next_function.ensures ∙ c.in-Some.is ∙ ap Some c.in-PrintString.is)) c.lay_string.ensures

pub returns-in-PrintForm : goal.returns-in-PrintForm
returns-in-PrintForm c =
    subst (λ (text : Text). Lays (drop c.args.from text) c.lay_named.result c.args.room.now c.lay_named.new.room)
    (form-next c.args.machine.now (sym c.next_function.ensures ∙ c.in-Some.is ∙ ap Some c.in-PrintForm.is)) c.lay_named.ensures

pub returns-in_default-function : goal.returns-in_default-function
returns-in_default-function c =
    let d = c.in_default-function in
    quiet-laid c.args.machine.now c.next_function.result c.args.from c.args.room.now c.next_function.ensures
    (ap prints_output c.in-Some.is ∙ quiet-function c.in-Some.function d.not-PrintString d.not-PrintForm)
