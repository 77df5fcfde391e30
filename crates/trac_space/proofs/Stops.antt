-- Bytes up to the first that is looked for.
use Rattle.trac_space.proofs.Imports.{◌≡◌, ℕ, ◌+◌, ◌-◌, ◌<◌, ◌≤◌, Bool, true, false, List, length, take, drop, slice_range, slice_get, Some, refl, sym, arith, rules, list_any, take-add, places, same_lists, list_any-append, elements, false≢true}
use Rattle.std.specs.Prelude.{◌||◌}

neither : (a b : Bool) → (a || b) ≡ false → (a ≡ false) × (b ≡ false)
neither true b e = absurd (false≢true (sym e))
neither false b e = (refl, e)

module _ (test : ℕ → Bool) (bytes : List ℕ) where
  -- no byte that is looked for is among the first k, if none is, nor among the n behind these
  pub none-more : (k n : ℕ) → list_any test (take k bytes) ≡ false → list_any test (take n (drop k bytes)) ≡ false → list_any test (take (k + n) bytes) ≡ false
  none-more k n first next = rw (take-add, list_any-append, first, next)

  -- no byte that is looked for stands before `e`, if none stands before k nor from there up to `e`
  pub none-next : (k e : ℕ) → k ≤ e → list_any test (take k bytes) ≡ false → list_any test (slice_range bytes k e) ≡ false → list_any test (take e bytes) ≡ false
  none-next k e order none next =
      let up_to : k + (e - k) ≡ e = omega (arith, order) in
      rw up_to at (none-more k (e - k) none next)

  -- no byte that is looked for stands before `e`, if none stands before k, from k up to m, nor from m up to `e`
  pub none-twice : (k m e : ℕ) → k ≤ m → m ≤ e → list_any test (take k bytes) ≡ false → (list_any test (slice_range bytes k m) || list_any test (slice_range bytes m e)) ≡ false → list_any test (take e bytes) ≡ false
  none-twice k m e below behind none next =
      let parts = neither (list_any test (slice_range bytes k m)) (list_any test (slice_range bytes m e)) next in
      none-next m e behind (none-next k m below none parts.0) parts.1

-- the first of a part
pub front-of_part : (bytes : List ℕ) (a b n : ℕ) → n ≤ b - a → take n (slice_range bytes a b) ≡ take n (drop a bytes)
front-of_part bytes a b n few =
    same_lists _ _ (search (rules, places)) (λ i d less. grind (arith, places))

-- what stands in a part
pub get-of_part : (bytes : List ℕ) (a b i v : ℕ) → a + i < b → b ≤ length bytes → slice_get (slice_range bytes a b) i ≡ Some v → slice_get bytes (a + i) ≡ Some v
get-of_part bytes a b i v below within is = grind (arith, elements)
