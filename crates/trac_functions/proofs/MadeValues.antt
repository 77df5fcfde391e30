-- What a function makes of a call, from what the definition says that the call means.
use Rattle.trac_functions.proofs.Imports.{◌≡◌, Bool, true, false, IsTrue, ◌↔◌, List, cond, refl, sym, ap, ◌∙◌, Some, arith, bytes_eq, if◌then◌else◌, ℤ, ◌<ℤ◌, int_lt, bytes_decides, ints, Function, Text, Form, World, meaning_of, value_length, built, world, Means, Valued}

-- a call that gives a value builds that value
pub valued-of : (f : Function) (args : List Text) (forms new : List Form) (value : Text) (forced : Bool) → Means f args forms value forced new → ((w : World) → built (Some f) args w ≡ value_length (meaning_of f args w)) → Valued f args forms value forced new
valued-of f args forms new value forced means built_is =
    record { means = means; builds = λ meta input. built_is (world forms meta input) ∙ ap value_length (means meta input) }

-- a test of two texts is that of the definition
pub same-test : (b : Bool) (x y : Text) → (IsTrue b ↔ (x ≡ y)) → b ≡ bytes_eq x y
same-test true x y tells = sym ((bytes_decides x y).1 (tells.0 refl))
same-test false x y tells = go (bytes_eq x y) refl
  where
    go : (d : Bool) → bytes_eq x y ≡ d → false ≡ d
    go true e = tells.1 ((bytes_decides x y).0 e)
    go false e = refl

-- the text that a test chooses of two
pub chosen : (b d : Bool) (u v t : Text) → b ≡ d → (b ≡ true → t ≡ u) → (b ≡ false → t ≡ v) → (if d then u else v) ≡ t
chosen true d u v t e first second = ap (λ b. cond b u v) (sym e) ∙ sym (first refl)
chosen false d u v t e first second = ap (λ b. cond b u v) (sym e) ∙ sym (second refl)

-- a test of two numbers is that of the definition
pub same-order : (b : Bool) (m n : ℤ) → (IsTrue b ↔ (m <ℤ n)) → b ≡ int_lt m n
same-order b m n tells = go b (int_lt m n) refl tells
  where
    go : (b d : Bool) → int_lt m n ≡ d → (IsTrue b ↔ (m <ℤ n)) → b ≡ d
    go true true e tells = refl
    go true false e tells = let less : m <ℤ n = tells.0 refl in absurd (omega (arith, ints))
    go false true e tells = let less : m <ℤ n = omega (arith, ints) in tells.1 less
    go false false e tells = refl
