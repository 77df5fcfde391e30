-- A turn that waits could take one more byte: the meta character behind what there is.
use Rattle.std.specs.Prelude.{true, nat_eq}
use Rattle.trac_c.proofs.Imports.{◌≡◌, ℕ, ◌+◌, ◌-◌, ◌<◌, ◌≤◌, Bool, false, not, List, [], ◌∷◌, ◌++◌, length, Option, Some, None, refl, sym, ap, ◌∙◌, arith, ◌==◌, nat_le, ◌&&◌, if◌then◌else◌, is_none, nat_lt, Text, OpenCall, arguments, size, MachineState, ending, state_with, awaited, next_function, is_short}
use Rattle.std.specs.List.{before_first, list_any}
use Rattle.std.proofs.lemmas.Bool.{true≢false, ne_eqb}
use Rattle.std.proofs.Common.{eq-eqb}
use Rattle.trac_language.specs.declared.function.Function.{Function}
use Rattle.trac_language.specs.declared.function.Function.TheVariants.{ReadString, ReadCharacter}
use Rattle.trac_language.specs.Meaning.{World, built}
unfoldable use Rattle.trac_language.specs.Meaning.{meaning_of}
use Rattle.trac_language.specs.Rule.{Rule, EndCall}
unfoldable use Rattle.trac_language.specs.Rule.{rule}
use Rattle.trac_language.specs.Step.{function_of, end_need, need_by}
unfoldable use Rattle.trac_language.specs.Step.{need}
use Rattle.trac_core.specs.declared.machine.session.Awaits.TheVariants.{Text as AwaitsText}
use Rattle.trac_core.specs.Machine.{KeepsLimits}
use Rattle.trac_core.specs.Performed.{performed_by, performs}
use Rattle.trac_core.proofs.MetaCharacters.{before-at}
use Rattle.trac_c.specs.Turns.{MayGetMore}

both : (a b : Bool) → (not a && b) ≡ true → (a ≡ false) × (b ≡ true)
both false b e = (refl, e)
both true b e = absurd (true≢false (sym e))

module _ (m : MachineState) (bytes : Text) (limits : KeepsLimits m) where
  more : Text
  more = bytes ++ m.memory.meta ∷ []

  world : World
  world = record { forms = m.memory.forms; meta = m.memory.meta; input = ending (bytes ++ m.memory.meta ∷ []) }

  string-fits : 0 < size m.memory → is_short AwaitsText m bytes ≡ true → size m.memory - 1 + length (before_first (λ c. c == m.memory.meta) (bytes ++ m.memory.meta ∷ [])) ≤ m.room
  string-fits some short =
      let is_meta = λ (c : ℕ). c == m.memory.meta in
      let parts = both (list_any is_meta bytes) (nat_le (length bytes + size m.memory) (m.room + 1)) short in
      let all = ap length (before-at is_meta bytes m.memory.meta [] parts.0 (eq-eqb m.memory.meta m.memory.meta refl)) in
      let few : length bytes + size m.memory ≤ m.room + 1 = grind (arith, parts.1) in
      omega (arith, all, few, some)

  call-fits : (f : Option Function) (args : List Text) → 0 < size m.memory → is_short (awaited f) m bytes ≡ true → size m.memory - 1 + built f args world ≤ m.room
  unfolding world meaning_of
  call-fits None args some short = absurd (true≢false (sym short))
  call-fits (Some ReadString) args some short = string-fits some short
  call-fits (Some ReadCharacter) args some short = go bytes short
    where
      go : (text : Text) → nat_eq (length text) 0 ≡ true → size m.memory - 1 + built (Some ReadCharacter) args (record { forms = m.memory.forms; meta = m.memory.meta; input = ending (text ++ m.memory.meta ∷ []) }) ≤ m.room
      go [] none = let fits = limits.cells in omega (arith, fits, some)
      go (c ∷ text) none = absurd (true≢false (sym none ∙ ne_eqb (length (c ∷ text)) 0 (λ e. omega arith)))
  call-fits (Some _) args some short = absurd (true≢false (sym short))

  rule-fits : (output : Text) (r : Rule) → 0 < size m.memory → is_short (awaited (performed_by r m.memory.calls)) m bytes ≡ true → need_by r (state_with m.memory (ending (bytes ++ m.memory.meta ∷ [])) output) ≤ m.room
  unfolding world
  rule-fits output (EndCall rest) some short = go m.memory.calls short
    where
      go : (calls : List OpenCall) → is_short (awaited (performed_by (EndCall rest) calls)) m bytes ≡ true → end_need calls (state_with m.memory (ending (bytes ++ m.memory.meta ∷ [])) output) ≤ m.room
      go [] short = absurd (true≢false (sym short))
      go (call ∷ outer) short = call-fits (function_of call) (arguments call) some short
  rule-fits output _ some short = absurd (true≢false (sym short))

  some-cells : (active : Text) → m.memory.active ≡ active → is_short (awaited (performed_by (rule active) m.memory.calls)) m bytes ≡ true → 0 < size m.memory
  unfolding rule
  some-cells [] is short = absurd (true≢false (sym short))
  some-cells (c ∷ active) is short = let long = ap length is in omega (arith, long)

  performs-fits : (output : Text) → is_short (awaited (performs m.memory)) m bytes ≡ true → need (state_with m.memory (ending (bytes ++ m.memory.meta ∷ [])) output) ≤ m.room
  unfolding need
  performs-fits output short = rule-fits output (rule m.memory.active) (some-cells m.memory.active refl short) short

  pub may-get-more : is_short (awaited (next_function m)) m bytes ≡ true → MayGetMore m bytes
  may-get-more short = λ output. go output (is_none m.fate && nat_lt m.steps m.allowance) short
    where
      go : (output : Text) (going : Bool) → is_short (awaited (if going then performs m.memory else None)) m bytes ≡ true → need (state_with m.memory (ending (bytes ++ m.memory.meta ∷ [])) output) ≤ m.room
      go output true short = performs-fits output short
      go output false short = absurd (true≢false (sym short))
