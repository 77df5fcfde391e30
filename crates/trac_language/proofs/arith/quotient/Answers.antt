use Rattle.std.proofs.Common.{◌≡◌, ◌∙◌, ◌<◌, ◌^◌, ap, refl, zero, suc, arith, Some, None, Option}
use Rattle.std.proofs.Common.{false, ℤ, pos, of_z, to_z, FitsSigned, w64}
use Rattle.std.specs.Int.{CanDivide, w128}
use Rattle.std.specs.Prelude.{negsuc, ◌==◌, unsigned_abs, int_div, if◌then◌else◌}
use Rattle.std.specs.Option.{SomeIff}
use Rattle.std.proofs.lemmas.Bool.{ltb-true}
use Rattle.std.proofs.lemmas.Int.{to_z-of_z, fits_signed_from_abs, ints}
use Rattle.std.proofs.Math.Nat.{div-le_self}
use Rattle.trac_language.proofs.arith.quotient.Goals as goal

nonzero : (b : ℤ) → 0 < of_z w64 b → (unsigned_abs b == 0) ≡ false
nonzero (pos n) h = grind arith
nonzero (negsuc n) h = grind arith

-- a number that was narrowed is itself
narrowed : (a n : ℤ) → FitsSigned w128 a
    → FitsSigned w64 (to_z w128 (of_z w128 a)) × (n ≡ to_z w128 (of_z w128 a))
    → to_z w64 (of_z w64 n) ≡ a
narrowed a n wide got =
    let is = to_z-of_z w128 a wide in
    let fits : FitsSigned w64 a = rw is at got.0 in
    rw (got.1, is, to_z-of_z w64 a fits) refl

-- a quotient of a number in the range fits
fits_divided : (a b : ℤ) → unsigned_abs a < 2 ^ 127 → FitsSigned w128 (int_div a b)
fits_divided (pos m) (pos n) h = record { sfits = omega (arith, div-le_self m n) }
fits_divided (pos m) (negsuc n) h =
    fits_signed_from_abs w128 _ (omega (arith, ints, div-le_self m (suc n)))
fits_divided (negsuc m) (pos n) h =
    fits_signed_from_abs w128 _ (omega (arith, ints, div-le_self (suc m) n))
fits_divided (negsuc m) (negsuc n) h =
    record { sfits = omega (arith, div-le_self (suc m) (suc n)) }

divided : (a b : ℤ) (r : Option ℤ) → unsigned_abs a < 2 ^ 127 → FitsSigned w128 b
    → SomeIff r (CanDivide w128 a b) (int_div a b)
    → r ≡ (if unsigned_abs b == 0 then None else Some (int_div a b))
divided a (pos zero) None range fits e = refl
divided a (pos (suc n)) None range fits e = absurd (e (omega arith, fits_divided a _ range))
divided a (negsuc n) None range fits e = absurd (e (omega arith, fits_divided a _ range))
divided a (pos n) (Some q) range fits e = grind (arith, e.0.0, e.1)
divided a (negsuc n) (Some q) range fits e = grind (arith, e.1)

pub returns-in-Some : goal.returns-in-Some
returns-in-Some c =
    let is_a = narrowed c.args.a _ c.ranges.a c.in-Ok-Ok.ensures in
    let is_b = narrowed c.args.b _ c.ranges.b c.in-Ok-Ok.ensures' in
    let got = rw (is_a, is_b) at c.in-Some.ensures in
    let is_q : c.from.result ≡ int_div c.args.a c.args.b =
    c.from.ensures ∙ ap (λ (z : ℤ). to_z w64 (of_z w64 z)) got.1 ∙ to_z-of_z w64 _ got.0.1 in
    let no = nonzero c.args.b got.0.0 in
    rw no (ap Some (to_z-of_z w128 _ (record { sfits = c.from.type_inv }) ∙ is_q))

pub returns : goal.returns
returns c =
    let is_a = to_z-of_z w128 c.args.a c.ranges.a in
    let is_b = to_z-of_z w128 c.args.b c.ranges.b in
    divided c.args.a c.args.b c.checked_div-2.result (ltb-true _ _ c.requires.left) c.ranges.b
    (rw (is_a, is_b) at c.checked_div-2.ensures)
