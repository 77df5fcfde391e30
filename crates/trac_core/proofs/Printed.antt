-- What a step prints, and how long it is.
use Rattle.trac_functions.specs.Flat.{in_first}
use Rattle.trac_space.specs.declared.cell.Cell.{Cell}
use Rattle.trac_space.specs.declared.cell.Cell.TheVariants.{Byte as ByteCell, Call, Comma, Gap, Head}
use Rattle.trac_core.proofs.Imports.{◌≡◌, ◌≢◌, ℕ, ◌+◌, ◌<◌, Bool, true, false, List, [], ◌∷◌, ◌++◌, length, take, drop, slice_get, Option, Some, None, refl, sym, ap, ◌∙◌, subst, arith, codes, take-append-drop, Mode, Item, Function, PrintString, PrintForm, Text, Form, before_pointer, after_pointer, OpenCall, Memory, Input, arguments, argument, World, Meaning, Gives, Ends, on_form, show, show_form, meaning, meaning_of, form_of_call, Rule, EndCall, rule, function_of, world_of, perform, end_call, follow, step, with_active, IsLastCall, text_of_cells, Contents, IsSound, memory_of, mode_at, arguments_at, world, state_with, performed_by, performs, prints_output, function_at, display, printed_in, zero, suc, ◌≤◌, ◌⊎◌, inl, inr, length-drop, texts_of, Fate, Stream, ending, scene, AnswersCall, Null, true≢false}
use Rattle.std.proofs.lemmas.List.{length-append}
use Rattle.trac_core.proofs.Imports.{◌-◌, slice_range, take-length}
use Rattle.std.specs.Prelude.{◌&&◌, if◌then◌else◌, is_none, nat_lt}
use Rattle.trac_core.specs.Machine.{MachineState}
use Rattle.trac_core.specs.Session.{next_function, next_printed, output_after, step_prints}
use Rattle.trac_laws.proofs.Shape.{Reading, Stopped, Given, Shape, Reads, Ended, Does, shape}
use Rattle.trac_core.specs.Session.{call_prints}
use Rattle.trac_core.proofs.PrintCalls.{answers-print}
use Rattle.trac_core.proofs.FormDisplay.{show-append, show-split, answers-display}
use Rattle.trac_core.proofs.Performing.{closed, performs-closed, step-performs}

-- ---- how long a display is

pub length-show-on : (body : List Item) (place next : ℕ) → place ≤ next → length (show (slice_range body 0 next)) ≡ length (show (slice_range body 0 place)) + length (show (slice_range body place next))
length-show-on body place next on =
    ap length (show-split body 0 place next (omega arith) on) ∙ length-append (show (slice_range body 0 place)) (show (slice_range body place next))

-- the part of a body from its begin to its end
pub whole-body : (body : List Item) → slice_range body 0 (length body) ≡ body
whole-body body = ap (λ n. take n body) (let all : length body - 0 ≡ length body = omega arith in all) ∙ take-length body

pub length-display : (form : Form) → length (show_form form) ≡ 3 + length (show form.body)
length-display form =
    let before = show (before_pointer form) in
    let after = show (after_pointer form) in
    let parts = length-append (before ++ codes "<^>") after in
    let front = length-append before (codes "<^>") in
    let whole = ap length (sym (ap show (take-append-drop form.pointer form.body)) ∙ show-append (before_pointer form) (after_pointer form)) in
    let body = length-append before after in
    omega (arith, parts, front, whole, body)

-- ---- what a function prints

prints-shape : (f : Function) (forms : List Form) (meta : ℕ) (m : Input → Meaning) → Shape f forms meta m → (i : Input) → f ≢ PrintString → f ≢ PrintForm → printed_in (m i) ≡ []
prints-shape f forms meta m (Reads r each) i string form = go (each i)
  where
    go : Reading forms meta i (m i) → printed_in (m i) ≡ []
    go (Stopped fate e) = ap printed_in e
    go (Given value left of e) = ap printed_in e
prints-shape f forms meta m (Ended fate e) i string form = ap printed_in (e i)
prints-shape f forms meta m (Does value forced forms' meta' printed keeps quiet e) i string form = ap printed_in (e i) ∙ quiet string form

silent-prints : (f : Function) (args : List Text) (w : World) → f ≢ PrintString → f ≢ PrintForm → printed_in (meaning_of f args w) ≡ []
silent-prints f args w = prints-shape f w.forms w.meta _ (shape f args w.forms w.meta) w.input

-- a function that doesn't print, or none
pub other-prints : (f : Option Function) {g : Option Function} (args : List Text) (w : World) → f ≡ g → g ≢ Some PrintString → g ≢ Some PrintForm → [] ≡ printed_in (meaning f args w)
other-prints None args w is string form = refl
other-prints (Some f) args w is string form = sym (silent-prints f args w (λ e. string (sym is ∙ ap Some e)) (λ e. form (sym is ∙ ap Some e)))

pub string-prints : (f : Option Function) (args : List Text) (w : World) → f ≡ Some PrintString → argument args 1 ≡ printed_in (meaning f args w)
unfolding meaning_of
string-prints f args w is = sym (ap (λ f. printed_in (meaning f args w)) is)

form-printed : (o : Option Form) (w : World) → printed_in (on_form o (λ form. Gives (record { value = []; forced = false; world = w; printed = show_form form })) w) ≡ display o
form-printed None w = refl
form-printed (Some form) w = refl

pub form-prints : (f : Option Function) (args : List Text) (w : World) → f ≡ Some PrintForm → display (form_of_call args w) ≡ printed_in (meaning f args w)
unfolding meaning_of
form-prints f args w is = sym (ap (λ f. printed_in (meaning f args w)) is ∙ form-printed (form_of_call args w) w)

-- ---- what a step prints

perform-prints : (mode : Mode) (m : Meaning) (memory : Memory) (input : Input) → output_after (perform mode m (state_with memory input [])) ≡ printed_in m
perform-prints mode (Gives answer) memory input = refl
perform-prints mode (Ends fate) memory input = refl

quiet-prints : (f : Option Function) (args : List Text) (w : World) → prints_output f ≡ false → printed_in (meaning f args w) ≡ []
quiet-prints None args w quiet = refl
quiet-prints (Some f) args w quiet =
    let not = λ (g : Function) (e : f ≡ g). subst (λ f. prints_output (Some f) ≡ false) e quiet in
    silent-prints f args w (λ e. (let no = not PrintString e in cc)) (λ e. (let no = not PrintForm e in cc))

-- one that performs no call of a function that prints, prints nothing
rule-prints : (r : Rule) (memory : Memory) (input : Input) → prints_output (performed_by r memory.calls) ≡ false → output_after (follow r (state_with memory input [])) ≡ []
rule-prints (EndCall rest) memory input quiet = go memory.calls quiet
  where
    go : (calls : List OpenCall) → prints_output (performed_by (EndCall rest) calls) ≡ false → output_after (end_call calls (with_active rest (state_with memory input []))) ≡ []
    go [] quiet = refl
    go (call ∷ outer) quiet =
        let here = world_of (with_active rest (state_with memory input [])) in
        perform-prints call.mode (meaning (function_of call) (arguments call) here) (record memory { active = rest; calls = outer }) input
        ∙ quiet-prints (function_of call) (arguments call) here quiet
rule-prints _ memory input quiet = refl

pub step-prints-quiet : (memory : Memory) (input : Input) → prints_output (performs memory) ≡ false → [] ≡ step_prints memory input
unfolding step
step-prints-quiet memory input quiet = sym (rule-prints (rule memory.active) memory input quiet)

pub step-prints-none : (memory : Memory) (input : Input) → None ≡ performs memory → [] ≡ step_prints memory input
step-prints-none memory input none = step-prints-quiet memory input (ap prints_output (sym none))

pub step-prints-call : (w : Contents) (place meta : ℕ) (input : Input) → IsSound w → slice_get (text_of_cells w.active) 0 ≡ Some 41 → IsLastCall w.neutral place → step_prints (memory_of meta w) input ≡ printed_in (meaning (function_at w.neutral place) (arguments_at w.neutral place) (world w.forms meta input))
step-prints-call w place meta input sound first last =
    let after = record w { active = drop 1 w.active } in
    ap output_after (step-performs w after place (performs-closed w after place sound first last refl) (function_at w.neutral place) refl meta input [])
    ∙ perform-prints (mode_at w.neutral place) (meaning (function_at w.neutral place) (arguments_at w.neutral place) (world w.forms meta input)) (memory_of meta (closed after place)) input

-- ---- a text that is printed is no longer than the neutral string

first-within : (c n : ℕ) (texts : List Text) → ((k : ℕ) → length (argument texts k) ≤ n) → (k : ℕ) → length (argument (in_first c texts) k) ≤ suc n
first-within c n [] within zero = omega arith
first-within c n [] within (suc k) = omega arith
first-within c n (text ∷ texts) within zero = let first = within 0 in omega arith
first-within c n (text ∷ texts) within (suc k) = let later = within (suc k) in omega arith

-- each argument is no longer than the cells that it stands in
argument-within : (cells : List Cell) (k : ℕ) → length (argument (texts_of cells) k) ≤ length cells
argument-within [] zero = omega arith
argument-within [] (suc k) = omega arith
argument-within (ByteCell c ∷ cells) k = first-within c (length cells) (texts_of cells) (argument-within cells) k
argument-within (Call mode n ∷ cells) k = first-within 0 (length cells) (texts_of cells) (argument-within cells) k
argument-within (Comma ∷ cells) zero = omega arith
argument-within (Comma ∷ cells) (suc k) = let later = argument-within cells k in omega arith
argument-within (Gap n ∷ cells) k = first-within 0 (length cells) (texts_of cells) (argument-within cells) k
argument-within (Head n ∷ cells) k = first-within 0 (length cells) (texts_of cells) (argument-within cells) k

pub prints-no-more : (neutral : List Cell) (place : ℕ) (w : World) (f : Option Function) → f ≢ Some PrintForm → length (printed_in (meaning f (arguments_at neutral place) w)) ≤ length neutral
prints-no-more neutral place w None other = omega arith
prints-no-more neutral place w (Some f) other = go (cases f)
  where
    cases : (f : Function) → (f ≡ PrintString) ⊎ (f ≢ PrintString)
    cases PrintString = inl refl
    cases _ = inr (λ e. absurd cc)

    go : (f ≡ PrintString) ⊎ (f ≢ PrintString) → length (printed_in (meaning (Some f) (arguments_at neutral place) w)) ≤ length neutral
    go (inl is) =
        let one = argument-within (drop (place + 1) neutral) 1 in
        let prints = ap length (string-prints (Some f) (arguments_at neutral place) w (ap Some is)) in
        let short = length-drop (place + 1) neutral in
        omega (arith, one, prints, short)
    go (inr not_string) =
        let none = ap length (other-prints (Some f) (arguments_at neutral place) w refl (λ e. not_string cc) other) in
        omega (arith, none)

-- ---- what the next step of a machine prints, by the function that it performs

pub next-printing : (m : MachineState) (f : Option Function) → f ≡ next_function m → prints_output f ≡ true → (f ≡ performs m.memory) × ((input : Input) → step_prints m.memory input ≡ next_printed m input)
next-printing m f is prints = go (is_none m.fate && nat_lt m.steps m.allowance) is
  where
    go : (going : Bool) → f ≡ (if going then performs m.memory else None) → (f ≡ performs m.memory) × ((input : Input) → step_prints m.memory input ≡ (if going then step_prints m.memory input else []))
    go true is = (is, λ input. refl)
    go false is = absurd (let none = ap prints_output is in cc)

pub next-quiet : (m : MachineState) (f : Option Function) (input : Input) → f ≡ next_function m → prints_output f ≡ false → [] ≡ next_printed m input
next-quiet m f input is quiet = go (is_none m.fate && nat_lt m.steps m.allowance) is
  where
    go : (going : Bool) → f ≡ (if going then performs m.memory else None) → [] ≡ (if going then step_prints m.memory input else [])
    go true is = step-prints-quiet m.memory input (ap prints_output (sym is) ∙ quiet)
    go false is = refl

pub next-allowed : (m : MachineState) (f : Option Function) → f ≡ next_function m → prints_output f ≡ true → (m.fate ≡ None) × (m.steps < m.allowance)
next-allowed m f is prints = go m.fate (nat_lt m.steps m.allowance) refl refl is
  where
    go : (fate : Option Fate) (less : Bool) → m.fate ≡ fate → nat_lt m.steps m.allowance ≡ less → f ≡ (if is_none fate && less then performs m.memory else None) → (m.fate ≡ None) × (m.steps < m.allowance)
    go None true none less is = (none, grind (arith, less))
    go None false none less is = absurd (let no = ap prints_output is in cc)
    go (Some fate) less none less_is is = absurd (let no = ap prints_output is in cc)

-- ---- a call that prints, whatever is made of what it prints

pub answers-printing : (w : Contents) (place : ℕ) → IsSound w → IsLastCall w.neutral place → prints_output (function_at w.neutral place) ≡ true → (meta : ℕ) (source : Stream) (written : Text) → AnswersCall place (scene w meta source written) (Null 0) (scene w meta source (written ++ call_prints w place meta (ending source.bytes)))
answers-printing w place sound innermost prints meta source written = go (function_at w.neutral place) refl prints
  where
    go : (f : Option Function) → function_at w.neutral place ≡ f → prints_output f ≡ true → AnswersCall place (scene w meta source written) (Null 0) (scene w meta source (written ++ call_prints w place meta (ending source.bytes)))
    go None is e = absurd (true≢false (sym e))
    go (Some PrintString) is e =
        subst (λ text. AnswersCall place (scene w meta source written) (Null 0) (scene w meta source (written ++ text)))
        (string-prints (function_at w.neutral place) (arguments_at w.neutral place) (world w.forms meta (ending source.bytes)) is)
        (answers-print w place (record { sound = sound; innermost = innermost; names = is }) meta source written)
    go (Some PrintForm) is e =
        subst (λ text. AnswersCall place (scene w meta source written) (Null 0) (scene w meta source (written ++ text)))
        (form-prints (function_at w.neutral place) (arguments_at w.neutral place) (world w.forms meta (ending source.bytes)) is)
        (answers-display w place (record { sound = sound; innermost = innermost; names = is }) meta source written)
    go (Some _) is e = absurd cc
