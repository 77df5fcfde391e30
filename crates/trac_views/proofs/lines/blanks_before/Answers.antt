use Rattle.std.proofs.Common.{◌≡◌, ◌∙◌, ◌-◌, ℕ, zero, suc, min, take, drop, codes, ap, sym, arith, refl}
use Rattle.trac_views.proofs.lines.blanks_before.Goals as goal

-- as many blanks from the front are the same as those behind the others
same : (n : ℕ) → take (6 - min n 6) (codes "      ") ≡ drop (min n 6) (codes "      ")
same zero = refl
same (suc zero) = refl
same (suc (suc zero)) = refl
same (suc (suc (suc zero))) = refl
same (suc (suc (suc (suc zero)))) = refl
same (suc (suc (suc (suc (suc zero))))) = refl
same (suc (suc (suc (suc (suc (suc zero)))))) = refl
same (suc (suc (suc (suc (suc (suc (suc n))))))) =
    let all : min (suc (suc (suc (suc (suc (suc (suc n))))))) 6 ≡ 6 = omega arith in
    ap (λ k. take (6 - k) (codes "      ")) all ∙ sym (ap (λ k. drop k (codes "      ")) all)

pub returns : goal.returns
returns c =
    let count = c.min.ensures in
    ap (λ k. take (6 - k) (codes "      ")) count ∙ same c.args.len
