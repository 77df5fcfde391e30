-- Maps in the order of their keys, seen by what the keys and the values stand for.
use Rattle.std.proofs.Common.{◌≡◌, ◌∙◌, List, [], ◌∷◌, map, refl, ap, Option, Some, None, Bool, true, false, Ordering, Less, Equal, Greater}
use Rattle.std.specs.Prelude.{cond, option_map}
use Rattle.std.specs.BTreeMap.{insert_entry, is_at}
use Rattle.std.specs.Map.{lookup}
use Rattle.std.specs.Ordering.{is_eq, match_ordering}

module _ {K T V N : Type 0} (f : K → T) (g : V → N) (cmp : K → K → Ordering) (to : T → T → Ordering) (same : (a b : K) → cmp a b ≡ to (f a) (f b)) where
  abbrev seen : List (K × V) → List (T × N)
  seen entries = map (λ entry. (f entry.0, g entry.1)) entries

  seen-match : (o : Ordering) (a b c : List (K × V)) → seen (match_ordering o a b c) ≡ match_ordering o (seen a) (seen b) (seen c)
  seen-match Less a b c = refl
  seen-match Equal a b c = refl
  seen-match Greater a b c = refl

  pub seen-insert : (entries : List (K × V)) (key : K) (v : V) → seen (insert_entry cmp entries key v) ≡ insert_entry to (seen entries) (f key) (g v)
  seen-insert [] key v = refl
  seen-insert (x ∷ entries) key v =
      seen-match (cmp key x.0) ((key, v) ∷ x ∷ entries) ((x.0, v) ∷ entries) (x ∷ insert_entry cmp entries key v)
      ∙ ap (λ o. match_ordering o ((f key, g v) ∷ (f x.0, g x.1) ∷ seen entries) ((f x.0, g v) ∷ seen entries) ((f x.0, g x.1) ∷ seen (insert_entry cmp entries key v))) (same key x.0)
      ∙ ap (λ t. match_ordering (to (f key) (f x.0)) ((f key, g v) ∷ (f x.0, g x.1) ∷ seen entries) ((f x.0, g v) ∷ seen entries) ((f x.0, g x.1) ∷ t)) (seen-insert entries key v)

  seen-cond : (is_here : Bool) (v : V) (o : Option V) → option_map g (cond is_here (Some v) o) ≡ cond is_here (Some (g v)) (option_map g o)
  seen-cond true v o = refl
  seen-cond false v o = refl

  pub seen-lookup : (entries : List (K × V)) (key : K) → option_map g (lookup (is_at (cmp key)) entries) ≡ lookup (is_at (to (f key))) (seen entries)
  seen-lookup [] key = refl
  seen-lookup (x ∷ entries) key =
      seen-cond (is_eq (cmp key x.0)) x.1 (lookup (is_at (cmp key)) entries)
      ∙ ap (λ o. cond (is_eq o) (Some (g x.1)) (option_map g (lookup (is_at (cmp key)) entries))) (same key x.0)
      ∙ ap (cond (is_eq (to (f key) (f x.0))) (Some (g x.1))) (seen-lookup entries key)

-- a value that stands for itself
pub itself : {N : Type 0} (o : Option N) → option_map (λ n. n) o ≡ o
itself None = refl
itself (Some n) = refl
