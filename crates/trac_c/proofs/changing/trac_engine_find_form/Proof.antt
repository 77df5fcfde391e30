-- `trac_engine_find_form` looks at the machine. Assumes `Logic`.
use Rattle.trac_c.proofs.Walking.{ℕ, refl, List, [], ◌∷◌, full_share, id⊢, tables, u8, usize, uint_Lawful, block_ptr, lies_at, Bor, shr_slice_vals, shr_slice_Tells, lasts_of, triple_of, framed, says, w64, named, vptr, alloc_all, pass_all, free_all, look_at, get, sets, lands_as, through, ‵, ◌$◌, ◌∵◌, !, qed, done, stop, addr, no_more, and_then, returns, enter, of_opd, machine, behind, shown_as, meets_holding, gives, shows_to}
use Rattle.trac_c.specs.Changes.{IsNumberOf}
use Rattle.trac_c.specs.contracts.changing.find as on
use Rattle.trac_c.proofs.changing.find.Met as on_thm
use Rattle.trac_c.specs.contracts.changing.trac_engine_find_form as f
use Rattle.trac_c.proofs.changing.trac_engine_find_form.Statement.{statement}
use Rattle.trac_c.proofs.changing.trac_engine_find_form.Code as code

pub trac_engine_find_form_spec : {M : Type 1} → statement M
trac_engine_find_form_spec 𝓤 𝓛 𝓜 𝓡 wired =
    let c = f.clauses 𝓛 𝓜.mem 𝓡.returns in
    meets_holding 𝓛 _ (behind f.signature.params) f.ended.kept.1 f.signature.result 𝓜 𝓡 (λ κs a. (c κs a).ensures) f.Key.name code.function (code.unfolded 𝓤 𝓛.H 𝓜 𝓡 wired)
    (λ κs. (shr_slice_vals, tt))
    (λ κs. (shr_slice_Tells (named 0) κs.0 u8, tt))
    (λ κs qs a m are b o.
    let name : Bor (List ℕ) = a.0 in
    enter ! _ _ _ _ _ $
    alloc_all ! (λ l. pass_all ! refl ((tt, tt), ((tt, (tt, (record { fits = are.0.0.1.0 }, tt))), tt)) $
    sets ! (of_opd ! (get ! refl)) refl (tt, tt) $ sets ! (addr ! (through ! refl (stop !))) refl (tt, tt) $
    shows_to ! (framed 𝓤 𝓛.H 𝓜 (tables 𝓤 𝓛.H 𝓜 𝓡 𝓡.env)) b o m _ _ usize (uint_Lawful 𝓛 w64) (Unit {0} × Unit {0})
    (lasts_of κs (behind f.signature.params) f.ended.kept.1 a) (λ r z. IsNumberOf name.now m.memory.forms r)
    (triple_of 𝓛 on.signature (on.spec 𝓛 𝓜.mem 𝓡.returns)) (on_thm.met 𝓤 𝓛 𝓜 𝓡 (code.calls-trac_c::changing::find 𝓡.env wired))
    (λ α. (((α ∷ [], κs), (full_share, qs), tt, (shown_as b o m, a), (vptr b o ∷ [], (shr_slice_vals name, tt))), tt))
    (λ α. id⊢ 𝓤 _) (λ α v. id⊢ 𝓤 _)
    (λ α. and_then ! (get ! refl) (and_then ! (get ! refl) (no_more !))) (λ v r z told is typed.
    lands_as ! refl refl typed.0 $ returns ! (look_at ! 0 refl) $ free_all ! refl $
    gives ! f.ended c κs qs (block_ptr b o, a) m v r (tt, z) (qed 𝓛 (‵ (lies_at machine full_share (block_ptr b o) m) ∷ []) ∵ says ! told $ done !))))
