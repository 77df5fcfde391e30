-- A value that is written into a map in order, at a key that it has.
use Rattle.std.proofs.Common.{◌≡◌, ◌∙◌, List, [], ◌∷◌, ap, sym, refl, Some, None, Ordering, Less, Equal, Greater}
use Rattle.std.specs.Prelude.{cond}
use Rattle.std.specs.BTreeMap.{insert_entry, is_at}
use Rattle.std.specs.Cmp.{IsTotalOrder}
use Rattle.std.specs.List.Sorted.{IsStrictlySortedBy}
use Rattle.std.specs.Map.{keys_of, lookup, set_value}
use Rattle.std.specs.Ordering.{is_eq, match_ordering}
use Rattle.std.proofs.lemmas.Map.{lookup-none}
use Rattle.std.proofs.lemmas.Map.Entries.{none_below_head}

module _ {K V : Type 0} {R : K → K → Ordering} (o : IsTotalOrder R) (key : K) (old v : V) where
  none-there : (e : K × V) (entries : List (K × V)) → IsStrictlySortedBy R (keys_of (e ∷ entries)) → R key e.0 ≡ Less → lookup (is_at (R key)) entries ≡ None
  none-there e entries sorted less =
      sym (ap (λ r. cond (is_eq r) (Some e.1) (lookup (is_at (R key)) entries)) less)
      ∙ lookup-none (is_at (R key)) (e ∷ entries) (none_below_head o key e entries sorted less)

  at-first : (e : K × V) (entries : List (K × V)) (r : Ordering) → R key e.0 ≡ r → IsStrictlySortedBy R (keys_of (e ∷ entries)) → Some old ≡ cond (is_eq r) (Some e.1) (lookup (is_at (R key)) entries)
      → (Some old ≡ lookup (is_at (R key)) entries → set_value (is_at (R key)) entries v ≡ insert_entry R entries key v)
      → cond (is_eq r) ((e.0, v) ∷ entries) (e ∷ set_value (is_at (R key)) entries v) ≡ match_ordering r ((key, v) ∷ e ∷ entries) ((e.0, v) ∷ entries) (e ∷ insert_entry R entries key v)
  at-first e entries Less less sorted there behind = let none = there ∙ none-there e entries sorted less in absurd cc
  at-first e entries Equal same sorted there behind = refl
  at-first e entries Greater greater sorted there behind = ap (λ t. e ∷ t) (behind there)

  -- the value stands where a value for the key is put
  pub written-is-put : (entries : List (K × V)) → IsStrictlySortedBy R (keys_of entries) → Some old ≡ lookup (is_at (R key)) entries → set_value (is_at (R key)) entries v ≡ insert_entry R entries key v
  unfolding IsStrictlySortedBy
  written-is-put [] sorted there = absurd cc
  written-is-put (e ∷ entries) sorted there = at-first e entries (R key e.0) refl sorted there (written-is-put entries sorted.1)
