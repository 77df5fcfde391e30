-- The two cases of what `take` gave, and units as room for a type. Assumes `Logic`.
use Rattle.std.proofs.Common.{◌≡◌, ℕ, ◌-◌, ◌+◌, ◌*◌, ◌/◌, ◌%◌, ◌^◌, ◌<◌, ◌≤◌, List, [], ◌∷◌, ◌++◌, IfSome, None, Some, refl, sym, ap, subst, ◌∙◌, arith}
use seplogic.Ra.Ura.{Ura}
use mir.Syntax.{Ty, Width, w8, w16, w32, w64, w128, ty_int}
use mir.Val.{Val, vcons, vnil, of_list, bytes}
use base.Logic.{ent, wand, never_e}
use prog.Memory.{size, capped}
use prog.Align.{Dv, align_w, align-bytes}
use prog.Capped.{capped_is, capped_small}
use types.Logic.{Logic, sem}
use types.Kit.{Item, Goal, Seq, ‵, raw, ◌⊛◌, ◌$◌, ◌∵◌, !, qed, keep, move, drop, use1, split, rewrite, fsplit, fpick, feq_l, done}
use types.Match.{live}
use denote.RattleType.{RattleType}
use denote.RawPtr.{Ptr, block_ptr, in_a_block}
use denote.RawPtr.Room.{room_cut, past}
use denote.Shadow.{pure_l}
use denote.Steps.{only}
use Rattle.std.specs.contracts.option.Option as option
use Rattle.bumpalo.proofs.Values.{loan_val, loan_own, loan_told}
use Rattle.trac_lent.specs.Units.{units, units_at}
use Rattle.trac_lent.specs.contracts.units.Units as owner

abbrev pub Taken : RattleType
Taken = option.the_row owner.the_row

abbrev pub Told : ℕ → Taken.Denot → Type 0
Told n x = IfSome x (λ u. (n ≤ u.count * 16) × (n % 16 ≡ 0) × (n < 2 ^ 63))

divides_16 : (w : Width) → Dv (bytes w) 16
divides_16 w8 = tt
divides_16 w16 = tt
divides_16 w32 = tt
divides_16 w64 = tt
divides_16 w128 = tt

-- n bytes are whole units, no more than `count`
pub record AreUnits (count n : ℕ) : Type 0 where
  pub fits : n ≤ count * 16
  pub whole : n % 16 ≡ 0
  pub small : n < 2 ^ 63

-- the first units are room for a type of their size
pub hands_out : {M : Type 1} {𝓤 : Ura M} (𝓛 : Logic 𝓤) (τ : Ty) (count n b o : ℕ) → capped (size τ) ≡ n → AreUnits count n
    → ent 𝓤 (sem 𝓛 (units_at count (block_ptr b o))) (𝓛.H.room τ b o)
hands_out {𝓤 = 𝓤} 𝓛 τ count n b o sized are =
    let fits = are.fits in
    let whole = are.whole in
    let small = are.small in
    let H = 𝓛.H in
    let short : size τ < 2 ^ 63 = capped_small (size τ) (omega arith) in
    let same : n ≡ size τ = sym sized ∙ capped_is (size τ) (omega arith) in
    let k = n / 16 in
    let parts : count ≡ k + (count - k) = omega arith in
    let sized_as : size τ ≡ size (units k) = omega arith in
    qed 𝓛 (raw (H.room (units count) b o) ∷ []) ∵ rewrite ! 0 (λ (j : ℕ). raw (H.room (units j) b o)) parts refl $
    use1 𝓛 (raw (H.room (units k) b o) ⊛ raw (H.room (units (count - k)) b (past (ty_int w128) k o))) (room_cut 𝓛 (ty_int w128) k (count - k) b o) $ split ! $
    use1 𝓛 (raw (H.room τ b o) ⊛ raw (wand 𝓤 (H.room τ b o) (H.room (units k) b o)))
    (𝓛.laws.room_as (units k) τ b o sized_as (subst (λ (j : ℕ). Dv j 16) (sym (align-bytes τ)) (divides_16 (align_w τ)))) $ split ! $
    keep ! (0 ∷ []) $ done !

module _ {M : Type 1} {𝓤 : Ura M} {𝓛 : Logic 𝓤} {K : Type 0} {Γ : List (Item 𝓤)} {G : Goal 𝓤 𝓛.H} where
  pub taken : K → (n : ℕ) (x : Taken.Denot) (v : Val) → Told n x
      → ((count b o : ℕ) → AreUnits count n → v ≡ live 1 (vcons (loan_val (block_ptr b o)) vnil)
      → Seq K 𝓛 (‵ (units_at count (block_ptr b o)) ∷ Γ) G) → (v ≡ live 0 vnil → Seq K 𝓛 Γ G) → Seq K 𝓛 (‵ (Taken.own_val x (v ∷ [])) ∷ Γ) G
  taken t n None v told some none =
      fpick t (λ us. fsplit t $ feq_l t (λ is. fpick t (λ vss. fsplit t $ feq_l t (λ is'. drop t $ none (ap only is ∙ ap (λ (ws : List Val). live 0 (of_list ws)) is')))))
  taken t n (Some w) v told some none =
      fpick t (λ us. fsplit t $ feq_l t (λ is. fpick t (λ vss. fsplit t $ feq_l t (λ is'. fsplit t $ move t (1 ∷ []) $ drop t $ fsplit t $ pure_l t (loan_own w.ptr vss.0) (λ s.
      let parts = loan_told w.ptr vss.0 s in
      in_a_block t w.ptr (λ p. units_at w.count p) (never_e 𝓤 _) (λ b o lies.
      some w.count b o (record { fits = told.0; whole = told.1; small = told.2 })
      (ap only is ∙ ap (λ (xs : List Val). live 1 (of_list xs)) (is' ∙ ap (λ (xs : List Val). xs ++ []) parts.0) ∙ ap (λ (p : Ptr). live 1 (vcons (loan_val p) vnil)) lies)))))))
