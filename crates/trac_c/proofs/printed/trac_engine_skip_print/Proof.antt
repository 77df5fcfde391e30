-- `trac_engine_skip_print` lends the machine for the call. Assumes `Logic`.
use Rattle.trac_c.proofs.Walking.{refl, [], ◌∷◌, full_share, id⊢, ex_i, tables, block_ptr, lies_at, lasts_of, triple_of, framed, vptr, alloc_all, pass_all, free_all, look_at, get, sets, lands_as, through, ◌$◌, !, sem, stop, addr, no_more, and_then, returns, enter, of_opd, MachineState, machine, behind, lent_as, meets_holding, gives, lends}
use Rattle.trac_c.specs.Printed.{SkipsPrint}
use Rattle.trac_c.specs.contracts.report.TracReport as T
use Rattle.trac_c.proofs.report.TracReport.TheLaws as T'
use Rattle.trac_c.specs.contracts.printed.skip_print as on
use Rattle.trac_c.proofs.printed.skip_print.Met as on_thm
use Rattle.trac_c.specs.contracts.printed.trac_engine_skip_print as f
use Rattle.trac_c.proofs.printed.trac_engine_skip_print.Statement.{statement}
use Rattle.trac_c.proofs.printed.trac_engine_skip_print.Code as code

pub trac_engine_skip_print_spec : {M : Type 1} → statement M
trac_engine_skip_print_spec 𝓤 𝓛 𝓜 𝓡 wired =
    let c = f.clauses 𝓛 𝓜.mem 𝓡.returns in
    meets_holding 𝓛 _ (behind f.signature.params) f.ended.kept.1 f.signature.result 𝓜 𝓡 (λ κs a. (c κs a).ensures) f.Key.name code.function (code.unfolded 𝓤 𝓛.H 𝓜 𝓡 wired)
    (λ κs. tt)
    (λ κs. tt)
    (λ κs qs a m are b o.
    enter ! _ _ _ _ _ $
    alloc_all ! (λ l. pass_all ! refl ((tt, tt), tt) $
    sets ! (of_opd ! (get ! refl)) refl (tt, tt) $ sets ! (addr ! (through ! refl (stop !))) refl (tt, tt) $
    lends ! (framed 𝓤 𝓛.H 𝓜 (tables 𝓤 𝓛.H 𝓜 𝓡 𝓡.env)) b o m _ _ T.the_row (T'.the_row_laws.lawful 𝓛) (Unit {0})
    (lasts_of κs (behind f.signature.params) f.ended.kept.1 a) (λ r after z. SkipsPrint m r after)
    (triple_of 𝓛 on.signature (on.spec 𝓛 𝓜.mem 𝓡.returns)) (on_thm.met 𝓤 𝓛 𝓜 𝓡 (code.calls-trac_c::printed::skip_print 𝓡.env wired))
    (λ α γ. (((α ∷ [], tt), (full_share, tt), tt, (lent_as b o γ m, a), (vptr b o ∷ [], tt)), tt))
    (λ α γ. id⊢ 𝓤 _) (λ α γ v. id⊢ 𝓤 _)
    (λ α γ. and_then ! (get ! refl) (no_more !)) (λ v r after z told is typed.
    lands_as ! refl refl typed.0 $ returns ! (look_at ! 0 refl) $ free_all ! refl $
    gives ! f.ended c κs qs (block_ptr b o, a) m v r (tt, z) (ex_i 𝓤 (λ (t : (m' : MachineState) × SkipsPrint m r m'). sem 𝓛 (lies_at machine full_share (block_ptr b o) t.0)) (after, told)))))
