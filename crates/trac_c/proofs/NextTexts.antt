-- What the next step of a machine prints, by the arguments of the call that it performs.
use Rattle.std.specs.Prelude.{◌≡◌, Bool, true, false, List, [], ◌∷◌, Option, Some, None, ◌&&◌, if◌then◌else◌, is_none, nat_lt}
use Rattle.trac_c.proofs.Imports.{refl, sym, ap, ◌∙◌, Text, MachineState, ending, next_function}
use Rattle.trac_language.specs.declared.mode.Mode.{Mode}
use Rattle.trac_language.specs.declared.function.Function.{Function}
use Rattle.trac_language.specs.declared.function.Function.TheVariants.{PrintString, PrintForm}
use Rattle.trac_language.specs.Form.{Form}
use Rattle.trac_language.specs.Store.{form_named}
use Rattle.trac_language.specs.State.{OpenCall, Memory, Input, argument, arguments}
use Rattle.trac_language.specs.Meaning.{World, on_form, printing, show_form, meaning}
unfoldable use Rattle.trac_language.specs.Meaning.{meaning_of}
use Rattle.trac_language.specs.Rule.{Rule, EndCall, rule}
use Rattle.trac_language.specs.Step.{follow, function_of, end_call, perform, with_active, world_of}
unfoldable use Rattle.trac_language.specs.Step.{step}
use Rattle.trac_core.specs.Display.{display}
use Rattle.trac_core.specs.Machine.{state_with}
use Rattle.trac_core.specs.OpenCalls.{next_texts, performed_texts, texts_performed_by}
use Rattle.trac_core.specs.Performed.{performed_by, performs}
use Rattle.trac_core.specs.Session.{output_after, step_prints}
use Rattle.trac_c.specs.Printed.{next_text}

-- ---- by `ps`

string-performed : (mode : Mode) (f : Option Function) (args : List Text) (w : World) (memory : Memory) (input : Input) → f ≡ Some PrintString → argument args 1 ≡ output_after (perform mode (meaning f args w) (state_with memory input []))
unfolding meaning_of
string-performed mode f args w memory input is = sym (ap (λ f. output_after (perform mode (meaning f args w) (state_with memory input []))) is)

string-rule : (r : Rule) (memory : Memory) (input : Input) → performed_by r memory.calls ≡ Some PrintString → argument (texts_performed_by r memory.calls) 1 ≡ output_after (follow r (state_with memory input []))
string-rule (EndCall rest) memory input e = go memory.calls e
  where
    go : (calls : List OpenCall) → performed_by (EndCall rest) calls ≡ Some PrintString → argument (texts_performed_by (EndCall rest) calls) 1 ≡ output_after (end_call calls (with_active rest (state_with memory input [])))
    go [] e = absurd cc
    go (call ∷ outer) e = string-performed call.mode (function_of call) (arguments call) (world_of (with_active rest (state_with memory input []))) (record memory { active = rest; calls = outer }) input e
string-rule _ memory input e = absurd cc

string-step : (memory : Memory) (input : Input) → performs memory ≡ Some PrintString → argument (performed_texts memory) 1 ≡ step_prints memory input
unfolding step
string-step memory input e = string-rule (rule memory.active) memory input e

pub string-next : (m : MachineState) → next_function m ≡ Some PrintString → argument (next_texts m) 1 ≡ next_text m
string-next m e = go (is_none m.fate && nat_lt m.steps m.allowance) e
  where
    go : (going : Bool) → (if going then performs m.memory else None) ≡ Some PrintString → argument (if going then performed_texts m.memory else []) 1 ≡ (if going then step_prints m.memory (ending []) else [])
    go true e = string-step m.memory (ending []) e
    go false e = absurd cc

-- ---- by `pf`

form-performed : (mode : Mode) (f : Option Function) (args : List Text) (w : World) (memory : Memory) (input : Input) → f ≡ Some PrintForm → display (form_named (argument args 1) w.forms) ≡ output_after (perform mode (meaning f args w) (state_with memory input []))
unfolding meaning_of
form-performed mode f args w memory input is = sym (ap (λ f. output_after (perform mode (meaning f args w) (state_with memory input []))) is ∙ go (form_named (argument args 1) w.forms))
  where
    go : (o : Option Form) → output_after (perform mode (on_form o (λ form. printing (show_form form) w) w) (state_with memory input [])) ≡ display o
    go None = refl
    go (Some form) = refl

form-rule : (r : Rule) (memory : Memory) (input : Input) → performed_by r memory.calls ≡ Some PrintForm → display (form_named (argument (texts_performed_by r memory.calls) 1) memory.forms) ≡ output_after (follow r (state_with memory input []))
form-rule (EndCall rest) memory input e = go memory.calls e
  where
    go : (calls : List OpenCall) → performed_by (EndCall rest) calls ≡ Some PrintForm → display (form_named (argument (texts_performed_by (EndCall rest) calls) 1) memory.forms) ≡ output_after (end_call calls (with_active rest (state_with memory input [])))
    go [] e = absurd cc
    go (call ∷ outer) e = form-performed call.mode (function_of call) (arguments call) (world_of (with_active rest (state_with memory input []))) (record memory { active = rest; calls = outer }) input e
form-rule _ memory input e = absurd cc

form-step : (memory : Memory) (input : Input) → performs memory ≡ Some PrintForm → display (form_named (argument (performed_texts memory) 1) memory.forms) ≡ step_prints memory input
unfolding step
form-step memory input e = form-rule (rule memory.active) memory input e

pub form-next : (m : MachineState) → next_function m ≡ Some PrintForm → display (form_named (argument (next_texts m) 1) m.memory.forms) ≡ next_text m
form-next m e = go (is_none m.fate && nat_lt m.steps m.allowance) e
  where
    go : (going : Bool) → (if going then performs m.memory else None) ≡ Some PrintForm → display (form_named (argument (if going then performed_texts m.memory else []) 1) m.memory.forms) ≡ (if going then step_prints m.memory (ending []) else [])
    go true e = form-step m.memory (ending []) e
    go false e = absurd cc
