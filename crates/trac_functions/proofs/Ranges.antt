-- Results of arithmetic are machine numbers.
use Rattle.trac_functions.proofs.Imports.{◌≡◌, ◌^◌, ℤ, Bool, true, false, cond, ◌&&◌, Option, Some, None, sym, ap, ◌∙◌, unsigned_abs, IfSome, IsTrue, ltb-true, to_z-of_z, fits_signed_from_abs, cond_some, Arith, exactly, if_in_range, in_range, w128, to_z, of_z}
use Rattle.trac_language.specs.Number.{arith}

-- a number in the range is kept by a machine number
kept : (n : ℤ) → in_range n ≡ true → to_z w128 (of_z w128 n) ≡ n
kept n is = to_z-of_z w128 n (fits_signed_from_abs w128 n (ltb-true (unsigned_abs n) (2 ^ 127) is))

pub arith-passed : (operation : Arith) (m n r : ℤ) → arith operation m n ≡ Some r → to_z w128 (of_z w128 r) ≡ r
arith-passed operation m n r is = go (in_range m && in_range n) (exactly operation m n) is
  where
    go : (b : Bool) (exact : Option ℤ) → cond b (if_in_range exact) None ≡ Some r → to_z w128 (of_z w128 r) ≡ r
    go true None e = absurd cc
    go true (Some z) e = let facts = cond_some (in_range z) z r e in kept r (ap in_range (sym facts.1) ∙ facts.0)
    go false exact e = absurd cc

-- a number that is there is in the range
pub ranged : (v : Option ℤ) (n : ℤ) → v ≡ if_in_range (Some n) → IfSome v (λ m. IsTrue (in_range m))
ranged None n e = tt
ranged (Some m) n e =
    let facts = cond_some (in_range n) n m (sym e) in
    ap in_range (sym facts.1) ∙ facts.0
