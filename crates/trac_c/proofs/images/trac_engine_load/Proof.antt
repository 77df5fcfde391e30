-- `trac_engine_load` lends the machine for the call. Assumes `Logic`.
use Rattle.trac_c.proofs.Walking.{ℕ, refl, List, [], ◌∷◌, full_share, id⊢, ex_i, tables, u8, u32, uint_Lawful, block_ptr, lies_at, Bor, shr_slice_vals, shr_slice_Tells, lasts_of, triple_of, framed, w32, named, vptr, alloc_all, pass_all, free_all, look_at, get, sets, lands_as, through, ◌$◌, !, sem, stop, addr, no_more, and_then, returns, enter, of_opd, MachineState, machine, behind, lent_as, meets_holding, gives, lends}
use Rattle.trac_c.specs.Images.{Loaded}
use Rattle.trac_c.specs.contracts.images.take_image as on
use Rattle.trac_c.proofs.images.take_image.Met as on_thm
use Rattle.trac_c.specs.contracts.images.trac_engine_load as f
use Rattle.trac_c.proofs.images.trac_engine_load.Statement.{statement}
use Rattle.trac_c.proofs.images.trac_engine_load.Code as code

pub trac_engine_load_spec : {M : Type 1} → statement M
trac_engine_load_spec 𝓤 𝓛 𝓜 𝓡 wired =
    let c = f.clauses 𝓛 𝓜.mem 𝓡.returns in
    meets_holding 𝓛 _ (behind f.signature.params) f.ended.kept.1 f.signature.result 𝓜 𝓡 (λ κs a. (c κs a).ensures) f.Key.name code.function (code.unfolded 𝓤 𝓛.H 𝓜 𝓡 wired)
    (λ κs. (shr_slice_vals, tt))
    (λ κs. (shr_slice_Tells (named 0) κs.0 u8, tt))
    (λ κs qs a m are b o.
    let image : Bor (List ℕ) = a.0 in
    enter ! _ _ _ _ _ $
    alloc_all ! (λ l. pass_all ! refl ((tt, tt), ((tt, (tt, (record { fits = are.0.0.1.0 }, tt))), tt)) $
    sets ! (of_opd ! (get ! refl)) refl (tt, tt) $ sets ! (addr ! (through ! refl (stop !))) refl (tt, tt) $
    lends ! (framed 𝓤 𝓛.H 𝓜 (tables 𝓤 𝓛.H 𝓜 𝓡 𝓡.env)) b o m _ _ u32 (uint_Lawful 𝓛 w32) (Unit {0} × Unit {0})
    (lasts_of κs (behind f.signature.params) f.ended.kept.1 a) (λ r after z. Loaded image.now m r after)
    (triple_of 𝓛 on.signature (on.spec 𝓛 𝓜.mem 𝓡.returns)) (on_thm.met 𝓤 𝓛 𝓜 𝓡 (code.calls-trac_c::images::take_image 𝓡.env wired))
    (λ α γ. (((α ∷ [], κs), (full_share, qs), tt, (lent_as b o γ m, a), (vptr b o ∷ [], (shr_slice_vals image, tt))), tt))
    (λ α γ. id⊢ 𝓤 _) (λ α γ v. id⊢ 𝓤 _)
    (λ α γ. and_then ! (get ! refl) (and_then ! (get ! refl) (no_more !))) (λ v r after z told is typed.
    lands_as ! refl refl typed.0 $ returns ! (look_at ! 0 refl) $ free_all ! refl $
    gives ! f.ended c κs qs (block_ptr b o, a) m v r (tt, z) (ex_i 𝓤 (λ (t : (m' : MachineState) × Loaded image.now m r m'). sem 𝓛 (lies_at machine full_share (block_ptr b o) t.0)) (after, told)))))
