-- The call that a step performs, and its function, by what stands in the active and in the neutral string.
use Rattle.trac_core.proofs.Imports.{◌≡◌, ◌≢◌, ℕ, Bool, true, false, [], ◌∷◌, List, drop, take, slice_get, Option, Some, None, refl, sym, ap, ◌==◌, if◌then◌else◌, bytes_eq, codes, ne_eqb, Active, Text, protected, OpenCall, DeleteLayout, BeginArgument, BeginCall, EndCall, AddCharacter, is_layout, number_sign_rule, parenthesis_rule, rule, NoCall, IsLastCall, text_of_cells, Contents, IsSound, Memory, arguments, arguments_at, memory_of, performed_by, performs, calls_device, needs_device, needs_device_by, function_at}
use Rattle.trac_language.specs.Rule.{Rule}
use Rattle.trac_language.specs.declared.mode.Mode.TheVariants.{Neutral}
use Rattle.trac_laws.proofs.Rules.{rule_end}
use Rattle.trac_functions.proofs.FlatLemmas.{call_at, calls-none, neutral_of-innermost, arguments-call_at}
use Rattle.trac_core.proofs.Performing.{performs-closed, function-performs, needs-call}
use Rattle.trac_core.specs.OpenCalls.{call_performed_by, performed_call, performed_texts, texts_performed_by}
use Rattle.trac_core.proofs.Scanning.{first-rest}

parenthesis-performs : (o : Option (Text × Text)) (calls : List OpenCall) → call_performed_by (parenthesis_rule o) calls ≡ None
parenthesis-performs None calls = refl
parenthesis-performs (Some parts) calls = refl

sign-performs : (a b : Bool) (text : Text) (calls : List OpenCall) → call_performed_by (if a then BeginCall Active (drop 1 text) else (if b then BeginCall Neutral (drop 2 text) else AddCharacter 35 text)) calls ≡ None
sign-performs true b text calls = refl
sign-performs false true text calls = refl
sign-performs false false text calls = refl

-- only a right parenthesis performs a call
first-performs : (text : Text) (calls : List OpenCall) → slice_get text 0 ≢ Some 41 → call_performed_by (rule text) calls ≡ None
unfolding rule
first-performs [] calls other = refl
first-performs (c ∷ rest) calls other = go (is_layout c) (c == 40) (c == 44) (c == 35) (c == 41) (ne_eqb c 41 (λ e. other (ap Some e)))
  where
    go : (layout opens comma sign closes : Bool) → closes ≡ false → call_performed_by (if layout then DeleteLayout rest else (if opens then parenthesis_rule (protected rest) else (if comma then BeginArgument rest else (if sign then number_sign_rule rest else (if closes then EndCall rest else AddCharacter c rest))))) calls ≡ None
    go true opens comma sign closes e = refl
    go false true comma sign closes e = parenthesis-performs (protected rest) calls
    go false false true sign closes e = refl
    go false false false true closes e = sign-performs (bytes_eq (take 1 rest) (codes "(")) (bytes_eq (take 2 rest) (codes "#(")) rest calls
    go false false false false true e = absurd cc
    go false false false false false e = refl

pub performs-other : (w : Contents) (meta : ℕ) → slice_get (text_of_cells w.active) 0 ≢ Some 41 → None ≡ performed_call (memory_of meta w)
performs-other w meta other = sym (first-performs (text_of_cells w.active) (memory_of meta w).calls other)

-- and that only where a call is open
pub performs-none : (w : Contents) (meta : ℕ) → slice_get (text_of_cells w.active) 0 ≡ Some 41 → NoCall w.neutral → None ≡ performed_call (memory_of meta w)
performs-none w meta first none =
    rw (first-rest (text_of_cells w.active) 41 first, rule_end (drop 1 (text_of_cells w.active)), calls-none w.neutral none) refl

-- a step that performs no call performs no function
no-function : (r : Rule) (calls : List OpenCall) → call_performed_by r calls ≡ None → performed_by r calls ≡ None
no-function (EndCall rest) [] e = refl
no-function (EndCall rest) (call ∷ outer) e = absurd cc
no-function _ calls e = refl

pub uncalled : (m : Memory) → performed_call m ≡ None → performs m ≡ None
uncalled m e = no-function (rule m.active) m.calls e

-- a step that performs no function needs no device
needless : (r : Rule) (calls : List OpenCall) → performed_by r calls ≡ None → needs_device_by r calls ≡ false
needless (EndCall rest) [] e = refl
needless (EndCall rest) (call ∷ outer) e = ap (λ f. calls_device f (arguments call)) e
needless _ calls e = refl

pub unperformed : (m : Memory) → performs m ≡ None → needs_device m ≡ false
unperformed m e = needless (rule m.active) m.calls e

-- the step needs a device where the call does
pub needs-innermost : (w : Contents) (place meta : ℕ) → IsSound w → slice_get (text_of_cells w.active) 0 ≡ Some 41 → IsLastCall w.neutral place → needs_device (memory_of meta w) ≡ calls_device (function_at w.neutral place) (arguments_at w.neutral place)
needs-innermost w place meta sound first last =
    let after = record w { active = drop 1 w.active } in
    needs-call w after place (performs-closed w after place sound first last refl) (function_at w.neutral place) refl meta

pub performs-innermost : (w : Contents) (place meta : ℕ) → IsSound w → slice_get (text_of_cells w.active) 0 ≡ Some 41 → IsLastCall w.neutral place → function_at w.neutral place ≡ performs (memory_of meta w)
performs-innermost w place meta sound first last =
    let after = record w { active = drop 1 w.active } in
    sym (function-performs w after place meta (performs-closed w after place sound first last refl))

-- the call that is performed
pub call-innermost : (w : Contents) (place meta : ℕ) → slice_get (text_of_cells w.active) 0 ≡ Some 41 → IsLastCall w.neutral place → performed_call (memory_of meta w) ≡ Some (call_at w.neutral place)
call-innermost w place meta first last =
    rw (first-rest (text_of_cells w.active) 41 first, rule_end (drop 1 (text_of_cells w.active)), neutral_of-innermost w.neutral place last) refl

-- a step that performs no call performs none with arguments
no-texts : (r : Rule) (calls : List OpenCall) → call_performed_by r calls ≡ None → texts_performed_by r calls ≡ []
no-texts (EndCall rest) [] e = refl
no-texts (EndCall rest) (call ∷ outer) e = absurd cc
no-texts _ calls e = refl

pub uncalled-texts : (m : Memory) → performed_call m ≡ None → performed_texts m ≡ []
uncalled-texts m e = no-texts (rule m.active) m.calls e

-- the arguments of the call that is performed stand behind its mark
pub texts-innermost : (w : Contents) (place meta : ℕ) → slice_get (text_of_cells w.active) 0 ≡ Some 41 → IsLastCall w.neutral place → performed_texts (memory_of meta w) ≡ arguments_at w.neutral place
texts-innermost w place meta first last =
    rw (first-rest (text_of_cells w.active) 41 first, rule_end (drop 1 (text_of_cells w.active)), neutral_of-innermost w.neutral place last, arguments-call_at w.neutral place last) refl
