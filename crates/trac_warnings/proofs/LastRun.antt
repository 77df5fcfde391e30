-- The last of the runs, shortened where it stands.
use Rattle.std.proofs.Common.{◌≡◌, ◌<◌, ◌+◌, ◌-◌, ◌∙◌, ℕ, zero, suc, true, List, [], ◌∷◌, ◌++◌, ap, arith, get_or, length, refl, reverse, rules, subst, sym, take}
use Rattle.std.proofs.lemmas.List.{reverse-append}
use Rattle.std.specs.Prelude.{nat_lt, slice_set, if◌then◌else◌}
use Rattle.trac_warnings.specs.Origins.{shortened, taken}
use Rattle.trac_warnings.specs.declared.trail.Run.{Run}

set_last : (runs : List Run) (k : ℕ) (run : Run) → k + 1 ≡ length runs → slice_set runs k run ≡ take k runs ++ run ∷ []
set_last [] k run is = absurd (omega (arith, is))
set_last (first ∷ []) zero run is = refl
set_last (first ∷ second ∷ runs) zero run is = absurd (omega (arith, is))
set_last (first ∷ runs) (suc k) run is = ap (λ t. first ∷ t) (set_last runs k run (omega (arith, is)))

last_of : (runs : List Run) (k : ℕ) (d : Run) → k + 1 ≡ length runs → runs ≡ take k runs ++ get_or runs k d ∷ []
last_of [] k d is = absurd (omega (arith, is))
last_of (first ∷ []) zero d is = refl
last_of (first ∷ second ∷ runs) zero d is = absurd (omega (arith, is))
last_of (first ∷ runs) (suc k) d is = ap (λ t. first ∷ t) (last_of runs k d (omega (arith, is)))

same_there : (runs : List Run) (k : ℕ) (d e : Run) → k < length runs → get_or runs k d ≡ get_or runs k e
same_there [] k d e less = absurd (omega (arith, less))
same_there (first ∷ runs) zero d e less = refl
same_there (first ∷ runs) (suc k) d e less = same_there runs k d e (omega (arith, less))

-- fewer characters than the last run has are taken from it
pub last_shortened : (runs : List Run) (k count : ℕ) (d e : Run) → k + 1 ≡ length runs → count < (get_or runs k e).len
    → reverse (slice_set runs k (shortened count (get_or runs k d))) ≡ taken count (reverse runs)
last_shortened runs k count d e is less =
    let run = get_or runs k d in
    let rest = reverse (take k runs) in
    let there : count < run.len = subst (λ (r : Run). count < r.len) (same_there runs k e d (omega (arith, is))) less in
    let fewer : nat_lt count run.len ≡ true = search (arith, rules, there) in
    ap reverse (set_last runs k (shortened count run) is) ∙ reverse-append (take k runs) (shortened count run ∷ [])
    ∙ sym (ap (λ b. if b then shortened count run ∷ rest else taken (count - run.len) rest) fewer)
    ∙ sym (ap (taken count) (ap reverse (last_of runs k d is) ∙ reverse-append (take k runs) (run ∷ [])))
