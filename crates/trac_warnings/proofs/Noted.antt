-- Keys of a set, seen by what they stand for, and how often a warning was given.
use Rattle.std.proofs.Common.{◌≡◌, ◌∙◌, ℕ, List, [], ◌∷◌, map, refl, ap, Option, Some, None, Ordering, Less, Equal, Greater}
use Rattle.std.specs.Prelude.{unwrap_or}
use Rattle.std.specs.Ordering.{match_ordering}
use Rattle.std.specs.BTreeSet.{insert_key}
use Rattle.trac_warnings.specs.Findings.{once_more}
use Rattle.trac_warnings.specs.Origins.{more}

module _ {K T : Type 0} (f : K → T) where
  map_match : (o : Ordering) (a b c : List K) → map f (match_ordering o a b c) ≡ match_ordering o (map f a) (map f b) (map f c)
  map_match Less a b c = refl
  map_match Equal a b c = refl
  map_match Greater a b c = refl

  pub map_insert : (cmp : K → K → Ordering) (to : T → T → Ordering) → ((a b : K) → cmp a b ≡ to (f a) (f b)) → (keys : List K) (key : K) → map f (insert_key cmp keys key) ≡ insert_key to (map f keys) (f key)
  map_insert cmp to same [] key = refl
  map_insert cmp to same (x ∷ keys) key =
      map_match (cmp key x) (key ∷ x ∷ keys) (x ∷ keys) (x ∷ insert_key cmp keys key)
      ∙ ap (λ o. match_ordering o (f key ∷ f x ∷ map f keys) (f x ∷ map f keys) (f x ∷ map f (insert_key cmp keys key))) (same key x)
      ∙ ap (λ t. match_ordering (to (f key) (f x)) (f key ∷ f x ∷ map f keys) (f x ∷ map f keys) (f x ∷ t)) (map_insert cmp to same keys key)

-- a warning counts once more than before, and once if it was not given before
pub with_one : (times : Option ℕ) → more (unwrap_or times 0) 1 ≡ once_more times
with_one None = refl
with_one (Some n) = refl
