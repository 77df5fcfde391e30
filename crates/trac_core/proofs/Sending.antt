-- What was put into a sink was sent on.
use Rattle.trac_core.proofs.Imports.{sym, subst, inr, ⊎_elim, arith, Text, Sent}

module _ {S : Type 0} (tells flushed : S → Type 0) (written : S → Text) where
  -- one step after others
  pub sent-more : (old mid new : S) → (tells old → tells mid) → Sent tells flushed written old mid → Sent tells flushed written mid new → Sent tells flushed written old new
  sent-more old mid new told first then_ =
      ⊎_elim
      (λ same. subst (λ s. Sent tells flushed written s new) same then_)
      (λ put. ⊎_elim
      (λ same. subst (λ s. Sent tells flushed written old s) (sym same) first)
      (λ more. inr (
        more.0,
        λ tells_old.
            let a = put.1 tells_old in
            let b = more.1 (told tells_old) in
            omega (arith, a, b),
      ))
      then_)
      first
