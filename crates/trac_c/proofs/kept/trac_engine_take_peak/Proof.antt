-- `trac_engine_take_peak` lends the machine for the call. Assumes `Logic`.
use Rattle.trac_c.proofs.Walking.{◌≡◌, refl, [], ◌∷◌, ftrue, full_share, id⊢, tables, UInt, uint_Lawful, block_ptr, lies_at, triple_of, framed, says, w32, vptr, alloc_all, pass_all, free_all, look_at, get, sets, lands_as, through, ‵, ◌$◌, ◌∵◌, !, qed, rewrite, done, stop, addr, no_more, and_then, returns, enter, of_opd, MachineState, machine, behind, lent_as, meets_holding, gives, lends}
use Rattle.trac_c.specs.contracts.kept.take_peak as on
use Rattle.trac_c.proofs.kept.take_peak.Met as on_thm
use Rattle.trac_c.specs.contracts.kept.trac_engine_take_peak as f
use Rattle.trac_c.proofs.kept.trac_engine_take_peak.Statement.{statement}
use Rattle.trac_c.proofs.kept.trac_engine_take_peak.Code as code

pub trac_engine_take_peak_spec : {M : Type 1} → statement M
trac_engine_take_peak_spec 𝓤 𝓛 𝓜 𝓡 wired =
    let c = f.clauses 𝓛 𝓜.mem 𝓡.returns in
    meets_holding 𝓛 _ (behind f.signature.params) f.ended.kept.1 f.signature.result 𝓜 𝓡 (λ κs a. (c κs a).ensures) f.Key.name code.function (code.unfolded 𝓤 𝓛.H 𝓜 𝓡 wired) (λ κs. tt) (λ κs. tt)
    (λ κs qs a m are b o.
    enter ! _ _ _ _ _ $ alloc_all ! (λ l. pass_all ! refl ((tt, tt), tt) $
    sets ! (of_opd ! (get ! refl)) refl (tt, tt) $ sets ! (addr ! (through ! refl (stop !))) refl (tt, tt) $
    lends ! (framed 𝓤 𝓛.H 𝓜 (tables 𝓤 𝓛.H 𝓜 𝓡 𝓡.env)) b o m _ _ (UInt w32) (uint_Lawful 𝓛 w32) (Unit {0}) (λ z. ftrue) (λ r after z. (r ≡ m.peak) × (after ≡ record m { peak = 0 }))
    (triple_of 𝓛 on.signature (on.spec 𝓛 𝓜.mem 𝓡.returns)) (on_thm.met 𝓤 𝓛 𝓜 𝓡 (code.calls-trac_c::kept::take_peak 𝓡.env wired))
    (λ α γ. (((α ∷ [], tt), (full_share, tt), tt, (lent_as b o γ m, tt), (vptr b o ∷ [], tt)), tt))
    (λ α γ. id⊢ 𝓤 _) (λ α γ v. id⊢ 𝓤 _) (λ α γ. and_then ! (get ! refl) (no_more !)) (λ v r after z told is typed.
    lands_as ! refl refl typed.0 $ returns ! (look_at ! 0 refl) $ free_all ! refl $
    gives ! f.ended c κs qs (block_ptr b o, a) m v r (tt, z) (qed 𝓛 (‵ (lies_at machine full_share (block_ptr b o) after) ∷ []) ∵
    rewrite ! 0 (λ (m' : MachineState). ‵ (lies_at machine full_share (block_ptr b o) m')) told.1 refl $ says ! told.0 $ done !))))
