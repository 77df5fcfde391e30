-- The counts of calls, seen in the map by names.
use Rattle.std.proofs.Common.{◌≡◌, ◌∙◌, ℕ, List, ap, refl, Option, Some, None, Ordering}
use Rattle.std.specs.Prelude.{option_map, unwrap_or}
use Rattle.std.specs.BTreeMap.{insert_entry, is_at}
use Rattle.std.specs.Cmp.Lexicographic.{slice_cmp}
use Rattle.std.specs.Map.{lookup}
use Rattle.std.specs.Ordering.{nat_cmp}
use Rattle.std.specs.declared.vec.Vec.{Vec}
use Rattle.trac_warnings.specs.Counted.{calls_of, counts_of, with_call, with_calls, with_form}
use Rattle.trac_warnings.specs.Origins.{more}
use Rattle.trac_warnings.specs.declared.watch.DefinitionSite.{DefinitionSite}
use Rattle.trac_warnings.proofs.Seen.{seen-insert, seen-lookup}

calls-or : (new : DefinitionSite) → new.calls ≡ 0 → (o : Option DefinitionSite) → (unwrap_or o new).calls ≡ unwrap_or (option_map (λ w. w.calls) o) 0
calls-or new none None = none
calls-or new none (Some w) = refl

module _ {A : Type 0} (cmp : Vec ℕ A → Vec ℕ A → Ordering) (same : (a b : Vec ℕ A) → cmp a b ≡ slice_cmp nat_cmp a.items b.items) (entries : List (Vec ℕ A × DefinitionSite)) (name : Vec ℕ A) where
  calls-is : option_map (λ w. w.calls) (lookup (is_at (cmp name)) entries) ≡ calls_of name.items (counts_of entries)
  calls-is = seen-lookup (λ v. v.items) (λ w. w.calls) cmp (slice_cmp nat_cmp) same entries name

  -- a name was put into the map
  pub put : (w : DefinitionSite) → counts_of (insert_entry cmp entries name w) ≡ with_calls name.items w.calls (counts_of entries)
  put w = seen-insert (λ v. v.items) (λ w. w.calls) cmp (slice_cmp nat_cmp) same entries name w

  -- how often forms of a name were called, by what the map has for it
  pub known : (o : Option DefinitionSite) → o ≡ lookup (is_at (cmp name)) entries → option_map (λ w. w.calls) o ≡ calls_of name.items (counts_of entries)
  known o is = ap (option_map (λ w. w.calls)) is ∙ calls-is

  -- a call of a form that was not defined isn't counted
  pub not-defined : None ≡ lookup (is_at (cmp name)) entries → counts_of entries ≡ with_call (calls_of name.items (counts_of entries)) name.items (counts_of entries)
  not-defined is = ap (λ o. with_call o name.items (counts_of entries)) (known None is)

  -- a call of a form is counted
  pub one-more : (old w : DefinitionSite) → Some old ≡ lookup (is_at (cmp name)) entries → w.calls ≡ more old.calls 1
      → counts_of (insert_entry cmp entries name w) ≡ with_call (calls_of name.items (counts_of entries)) name.items (counts_of entries)
  one-more old w is calls =
      put w ∙ ap (λ n. with_calls name.items n (counts_of entries)) calls
      ∙ ap (λ o. with_call o name.items (counts_of entries)) (known (Some old) is)

  -- a form was defined, whose earlier calls stay counted
  pub defined : (new w : DefinitionSite) → new.calls ≡ 0 → w.calls ≡ (unwrap_or (lookup (is_at (cmp name)) entries) new).calls
      → counts_of (insert_entry cmp entries name w) ≡ with_form name.items (counts_of entries)
  defined new w none calls =
      put w
      ∙ ap (λ n. with_calls name.items n (counts_of entries)) (calls ∙ calls-or new none (lookup (is_at (cmp name)) entries) ∙ ap (λ o. unwrap_or o 0) calls-is)
