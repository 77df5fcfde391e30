-- `trac_engine_trace_step` takes the memory over, and lends the machine for the step. Assumes `Logic`.
use Rattle.trac_c.proofs.Walking.{Lfts, flft, mean, MutRef, MutSlice, ShrSlice, u32, ℕ, ◌<◌, ◌^◌, ◌≡◌, refl, List, [], ◌∷◌, ◌++◌, ftrue, fsep, full_share, id⊢, ex_i, fact, fact_i, tables, usize, u8, Is, shows, uint_vals, uint_Tells, uint_Makes, Ptr, RawPtr, block_ptr, rawptr_vals, rawptr_Tells, in_a_block, lies_at, Bor, MutBor, mut_slice_vals, mut_slice_Tells, shr_slice_vals, shr_slice_Tells, nothing, owned, peeks, heard, calls_at, lasts, lasts_of, alive, triple_of, framed, w32, w64, named, Val, vptr, WpFn, alloc_all, pass_all, free_all, look_at, look_in_at, get, get_in, sets, lands_as, through, ‵, raw, ◌⊛◌, some, later, prop, ◌$◌, ◌∵◌, !, qed, move, drop, use1, join, split, pick, await, regoal, fsplit, fjoin, feq_i, sem, agg, whole, sub, stop, fld, hop, from, addr, no_more, and_then, returns, enter, of_opd, MachineState, machine, behind, lent_as, meets_by, gives, lends, Owed}
use base.Logic.{mono_r}
use denote.Ref.{mut_vals, mut_Tells}
use mathlib.Core.Path.{sym}
use Rattle.trac_lent.specs.Units.{units_at}
use Rattle.trac_lent.specs.contracts.units.Units as U
use Rattle.trac_lent.proofs.units.Units.TheLaws as U'
use Rattle.trac_lent.specs.contracts.units.Units.from_raw as owner
use Rattle.trac_lent.proofs.units.Units.from_raw.Met as owner_thm
use Rattle.trac_c.specs.Traced.{Traced}
use Rattle.trac_c.specs.declared.trace.TracTrace.{TracTrace}
use Rattle.trac_c.specs.contracts.trace.TracTrace as Tr
use Rattle.trac_c.specs.contracts.report.TracReport as T
use Rattle.trac_c.proofs.report.TracReport.TheLaws as T'
use Rattle.trac_c.specs.contracts.trace.show_step as on
use Rattle.trac_c.proofs.trace.show_step.Met as on_thm
use Rattle.trac_c.specs.contracts.trace.trac_engine_trace_step as f
use Rattle.trac_c.proofs.trace.trac_engine_trace_step.Statement.{statement}
use Rattle.trac_c.proofs.trace.trac_engine_trace_step.Code as code

pub trac_engine_trace_step_spec : {M : Type 1} → statement M
trac_engine_trace_step_spec 𝓤 𝓛 𝓜 𝓡 wired =
    let c = f.clauses 𝓛 𝓜.mem 𝓡.returns in let 𝓣 = tables 𝓤 𝓛.H 𝓜 𝓡 𝓡.env in
    meets_by 𝓛 𝓜 𝓡 f.ended c f.Key.name code.function (code.unfolded 𝓤 𝓛.H 𝓜 𝓡 wired)
    (λ κs. (rawptr_vals, (mut_vals, (shr_slice_vals, (mut_slice_vals, (uint_vals w32, (rawptr_vals, (uint_vals w64, (mut_slice_vals, tt)))))))))
    (λ κs. (rawptr_Tells, (mut_Tells (named 0) κs.0 Tr.the_row, (shr_slice_Tells (named 1) κs.1.0 u8, (mut_slice_Tells (named 2) κs.1.1.0 u8, (uint_Tells w32, (rawptr_Tells, (uint_Tells w64, (mut_slice_Tells (named 3) κs.1.1.1.0 u8, tt)))))))))
    (λ κs qs a m are.
    let trace : MutBor TracTrace = a.1.0 in let input : Bor (List ℕ) = a.1.1.0 in let output : MutBor (List ℕ) = a.1.1.1.0 in let flag : ℕ = a.1.1.1.1.0 in
    let lent : Ptr = a.1.1.1.1.1.0 in let n : ℕ = a.1.1.1.1.1.1.0 in let lines : MutBor (List ℕ) = a.1.1.1.1.1.1.1.0 in
    let fn : n < 2 ^ 64 = are.1.1.1.1.1.1.0.1 in let lives : Lfts on.ended.signature.lifetimes = ([], κs) in
    let us = λ (q : Ptr). mut_vals trace ++ (shr_slice_vals input ++ (mut_slice_vals output ++ (uint_vals w32 flag ++ (rawptr_vals q ++ (uint_vals w64 n ++ (mut_slice_vals lines ++ [])))))) in
    let Post = λ (p q : Ptr). Owed 𝓛 f.ended c κs qs (p, (trace, (input, (output, (flag, (q, (n, (lines, tt)))))))) m in
    let Lines = fsep ((MutSlice (named 3) κs.1.1.1.0 u8).own_val lines (mut_slice_vals lines)) ftrue in
    let Lent = fsep (RawPtr.own_val lent (rawptr_vals lent)) (fsep (usize.own_val n (uint_vals w64 n)) Lines) in
    let Output = fsep ((MutSlice (named 2) κs.1.1.0 u8).own_val output (mut_slice_vals output)) (fsep (u32.own_val flag (uint_vals w32 flag)) Lent) in
    let Given = fsep ((MutRef (named 0) κs.0 Tr.the_row).own_val trace (mut_vals trace)) (fsep ((ShrSlice (named 1) κs.1.0 u8).own_val input (shr_slice_vals input)) Output) in
    qed 𝓛 ((raw (alive 𝓛 f.signature κs qs) ⊛ ‵ (fsep (RawPtr.own_val a.0 (rawptr_vals a.0)) Given)) ∷ (‵ (lies_at machine full_share a.0 m) ⊛ ‵ (units_at n lent)) ∷ []) ∵ split ! $ move ! (1 ∷ []) $ fsplit ! $ drop ! $
    -- [the parameters; the tokens; the machine and the units]
    fsplit ! $ move ! (1 ∷ []) $ fsplit ! $ move ! (1 ∷ []) $ fsplit ! $ move ! (1 ∷ []) $ fsplit ! $ move ! (1 ∷ []) $ fsplit ! $ drop ! $ fsplit ! $ drop ! $
    -- [lines; the flag; output; input; trace; the tokens; the machine and the units]
    move ! (6 ∷ []) $ split ! $
    in_a_block ! a.0 (λ p. lies_at machine full_share p m) (id⊢ 𝓤 _) (λ b o e. move ! (1 ∷ []) $ in_a_block ! lent (λ q. units_at n q) (id⊢ 𝓤 _) (λ b₁ o₁ e₁.
    let p = block_ptr b o in let q = block_ptr b₁ o₁ in
    regoal ! (λ p. prop (WpFn 𝓤 𝓛.H 𝓣.C 𝓣.Λ code.function (rawptr_vals p ++ us lent) (Post p lent))) e refl $
    regoal ! (λ q. prop (WpFn 𝓤 𝓛.H 𝓣.C 𝓣.Λ code.function (rawptr_vals p ++ us q) (Post p q))) e₁ refl $
    -- [the units; the machine; lines; the flag; output; input; trace; the tokens]
    enter ! _ _ _ _ _ $
    alloc_all ! (λ l. pass_all ! refl ((tt, tt), ((tt, tt), ((tt, (tt, (record { fits = are.1.1.0.0.1.0 }, tt))), ((tt, (tt, (record { fits = are.1.1.1.0.0.1.0 }, tt))), ((tt, record { fits = are.1.1.1.1.0.1 }), ((tt, tt), ((tt, record { fits = fn }), ((tt, (tt, (record { fits = are.1.1.1.1.1.1.1.0.0.1.0 }, tt))), tt)))))))) $
    -- the memory is taken over
    sets ! (of_opd ! (get ! refl)) refl (tt, tt) $
    let L = triple_of 𝓛 owner.signature (owner.spec 𝓛 𝓜.mem 𝓡.returns) in
    let y : L.Ghost = ((tt, tt, tt, (q, tt), (rawptr_vals q, tt)), n) in
    nothing ! $ feq_i ! (List Val) (rawptr_vals q) (rawptr_vals q) refl $ fjoin ! $ nothing ! $ join ! $ join ! $ use1 𝓛 (raw (L.pre y)) (id⊢ 𝓤 (L.pre y)) $
    calls_at ! (framed 𝓤 𝓛.H 𝓜 𝓣) L (owner_thm.met 𝓤 𝓛 𝓜 𝓡 (code.calls-trac_lent::Units::from_raw 𝓡.env wired)) y (and_then ! (get ! refl) (no_more !)) (λ u.
    use1 𝓛 (later (some (λ (x : (U.the_row).Denot). (‵ ftrue ⊛ ‵ ((U.the_row).own_val x (u ∷ []))) ⊛ some (λ (zs : Unit {0} × Unit {0}). ‵ (lasts owner.ended tt y.0.3 zs) ⊛ raw (fact 𝓤 (x.count ≡ n)))))) (id⊢ 𝓤 _) $
    await ! tt $ pick ! (λ x. split ! $ split ! $ drop ! $ move ! (1 ∷ []) $ pick ! (λ zs. split ! $ drop ! $ heard ! _ (λ counted.
    -- [the owner; the machine; lines; the flag; output; input; trace; the tokens]
    peeks ! U.the_row (Is U.the_row) (shows 𝓛 U.the_row) x (u ∷ []) (λ is_owner.
    lands_as ! refl refl ((U'.the_row_laws.lawful 𝓛).typed x (u ∷ []) is_owner).0 $
    sets ! (of_opd ! (get ! refl)) refl (tt, tt) $ sets ! (addr ! (through ! refl (stop !))) refl (tt, tt) $
    sets ! (addr ! (through ! refl (stop !))) refl (tt, tt) $
    sets ! (addr ! (from ! (fld ! refl (hop ! (look_in_at ! 4 (sub ! 0 refl (whole !))) (stop !))))) refl (tt, tt) $
    sets ! (agg ! (and_then ! (get ! refl) (and_then ! (get_in ! (fld ! refl (stop !)) (sub ! 1 refl (whole !))) (no_more !)))) refl (tt, (tt, (record { fits = are.1.1.1.0.0.1.0 }, tt))) $
    sets ! (addr ! (from ! (fld ! refl (hop ! (look_in_at ! 8 (sub ! 0 refl (whole !))) (stop !))))) refl (tt, tt) $
    sets ! (agg ! (and_then ! (get ! refl) (and_then ! (get_in ! (fld ! refl (stop !)) (sub ! 1 refl (whole !))) (no_more !)))) refl (tt, (tt, (record { fits = are.1.1.1.1.1.1.1.0.0.1.0 }, tt))) $
    owned ! usize (Is usize) (uint_Makes 𝓛 w64) n _ (refl, fn) $ move ! (0 ∷ 3 ∷ []) $ fjoin ! $ move ! (1 ∷ 0 ∷ []) $ fjoin ! $ move ! (2 ∷ 0 ∷ []) $ fjoin ! $ move ! (2 ∷ 0 ∷ []) $ fjoin ! $ move ! (2 ∷ 0 ∷ []) $ fjoin ! $ move ! (2 ∷ 0 ∷ []) $ fjoin ! $ move ! (1 ∷ 0 ∷ []) $
    -- [the machine; what else is passed; the tokens]
    let G = triple_of 𝓛 on.signature (on.spec 𝓛 𝓜.mem 𝓡.returns) in
    let Passed = fsep ((MutRef (named 0) κs.0 Tr.the_row).own_val trace (mut_vals trace)) (fsep ((ShrSlice (named 1) κs.1.0 u8).own_val input (shr_slice_vals input)) (fsep ((MutSlice (named 2) κs.1.1.0 u8).own_val output (mut_slice_vals output))
    (fsep (u32.own_val flag (uint_vals w32 flag)) (fsep ((U.the_row).own_val x (u ∷ [])) (fsep (usize.own_val n (uint_vals w64 n)) Lines))))) in
    let passed : (α γ : ℕ) → G.Ghost = λ α γ. (((α ∷ [], κs), (full_share, qs), tt, (lent_as b o γ m, (trace, (input, (output, (flag, (x, (n, (lines, tt)))))))), (vptr b o ∷ [], (mut_vals trace, (shr_slice_vals input, (mut_slice_vals output, (uint_vals w32 flag, (u ∷ [], (uint_vals w64 n, (mut_slice_vals lines, tt))))))))), tt) in
    lends ! (framed 𝓤 𝓛.H 𝓜 𝓣) b o m _ _ T.the_row (T'.the_row_laws.lawful 𝓛) (TracTrace × (Unit {0} × (List ℕ × (Unit {0} × (Unit {0} × (Unit {0} × (List ℕ × Unit {0})))))))
    (lasts_of lives (behind on.ended.signature.params) on.ended.kept.1 (trace, (input, (output, (flag, (x, (n, (lines, tt))))))))
    (λ r after z. Traced flag input.now output.now z.1.1.0 lines.now z.1.1.1.1.1.1.0 trace.now m r z.0 after)
    G (on_thm.met 𝓤 𝓛 𝓜 𝓡 (code.calls-trac_c::trace::show_step 𝓡.env wired))
    passed
    (λ α γ. mono_r 𝓤 (mean 𝓛 ((‵ (flft (α ∷ []) full_share) ⊛ raw (alive 𝓛 f.signature κs qs)) ⊛ ‵ (fsep ((MutRef (named 0) (α ∷ []) machine).own_val (lent_as b o γ m) (vptr b o ∷ [])) Passed))) (fact_i 𝓤 (n ≡ x.count) (sem 𝓛 ftrue) (sym counted))) (λ α γ v. id⊢ 𝓤 _)
    (λ α γ. and_then ! (get ! refl) (and_then ! (get ! refl) (and_then ! (get ! refl) (and_then ! (get ! refl) (and_then ! (get ! refl) (and_then ! (get ! refl) (and_then ! (get ! refl) (and_then ! (get ! refl) (no_more !))))))))) (λ v r after z told is typed.
    lands_as ! refl refl typed.0 $ returns ! (look_at ! 0 refl) $ free_all ! refl $
    gives ! f.ended c κs qs (p, (trace, (input, (output, (flag, (q, (n, (lines, tt)))))))) m v r (tt, (z.0, (tt, (z.1.1.0, (tt, (tt, (tt, (z.1.1.1.1.1.1.0, tt))))))))
    (ex_i 𝓤 (λ (t : (m' : MachineState) × Traced flag input.now output.now z.1.1.0 lines.now z.1.1.1.1.1.1.0 trace.now m r z.0 m'). sem 𝓛 (lies_at machine full_share p t.0)) (after, told))))))))))))
