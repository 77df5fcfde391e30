-- `trac_engine_check_zeroed` refuses a number of cells, or takes the memory over, lends the block for a lifetime that is made for the run, and has it back as room once that is ended. Assumes `Logic`.
use Rattle.trac_c.proofs.Walking.{ℕ, ◌≤◌, ◌<◌, ◌^◌, arith, ◌≡◌, refl, subst, ◌∙◌, List, [], ◌∷◌, ◌++◌, ltb→lt, nltb→le, length, Lft, ftrue, fsep, flft, froom, fres, full_share, id⊢, emp, fact, fact_i, tables, Array, usize, u8, u64, row, whole_out, Is, shows, slice_back, mem, uint_vals, uint_Tells, uint_Makes, Ptr, RawPtr, block_ptr, rawptr_vals, rawptr_Tells, in_a_block, room_at, Bor, MutBor, MutSlice, mut_slice_vals, mut_slice_Tells, finally, res-finally, heres, coded_holeys, ShrSlice, slice_val, shr_slice_vals, shr_slice_Tells, nothing, owned, peeks, heard, calls_at, lasts, alive, triple_of, framed, says, w64, named, ty_array, Val, WpFn, alloc_all, pass_all, free_all, look_at, look_in_at, get, get_in, sets, lands_as, env, ‵, raw, ◌⊛◌, some, later, prop, ◌$◌, ◌∵◌, !, qed, move, drop, use0, use1, use3, join, split, pick, await, rewrite, regoal, fsplit, fjoin, feq_i, feq_l, done, at_ret, agg, whole, sub, stop, fld, hop, from, addr, no_more, and_then, returns, returns_within, enter, of_opd, bin, first, skips, branches, exec, Arr, lft_new, lft_end, Cell, Owed, meets_by, gives}
use Rattle.std.proofs.ptr.Rows as Rows
use mathlib.Core.Path.{sym}
use Rattle.trac_space.specs.contracts.cell.Cell as C
use Rattle.std.specs.Prelude.{replicate}
use Rattle.trac_space.specs.declared.cell.Cell.TheVariants.{Byte}
use Rattle.trac_lent.specs.Units.{units_at}
use Rattle.trac_lent.specs.contracts.units.Units as U
use Rattle.trac_lent.proofs.units.Units.TheLaws as U'
use Rattle.trac_lent.specs.contracts.units.Units.from_raw as owner
use Rattle.trac_lent.proofs.units.Units.from_raw.Met as owner_thm
use Rattle.trac_c.specs.Checked.{Checked}
use Rattle.trac_c.specs.Machines.{zeroed}
use Rattle.trac_c.specs.Reports.{refused}
use Rattle.trac_c.specs.contracts.report.refused as refusal
use Rattle.trac_c.proofs.report.refused.Met as refusal_thm
use Rattle.trac_c.specs.contracts.report.TracReport as T
use Rattle.trac_c.proofs.report.TracReport.TheLaws as T'
use Rattle.trac_c.specs.contracts.check.check_over as over
use Rattle.trac_c.proofs.check.check_over.Met as over_thm
use Rattle.trac_c.specs.contracts.zeroed.trac_engine_check_zeroed as f
use Rattle.trac_c.proofs.Blocks.{E, most_cells, rooms, room_again, block_as, lends_cells}
use Rattle.trac_c.proofs.zeroed.trac_engine_check_zeroed.Statement.{statement}
use Rattle.trac_c.proofs.zeroed.trac_engine_check_zeroed.Code as code

pub trac_engine_check_zeroed_spec : {M : Type 1} → statement M
trac_engine_check_zeroed_spec 𝓤 𝓛 𝓜 𝓡 wired =
    let c = f.clauses 𝓛 𝓜.mem 𝓡.returns in let 𝓣 = tables 𝓤 𝓛.H 𝓜 𝓡 𝓡.env in
    meets_by 𝓛 𝓜 𝓡 f.ended c f.Key.name code.function (code.unfolded 𝓤 𝓛.H 𝓜 𝓡 wired)
    (λ κs. (rawptr_vals, (uint_vals w64, (uint_vals w64, (shr_slice_vals, (rawptr_vals, (uint_vals w64, (mut_slice_vals, tt))))))))
    (λ κs. (rawptr_Tells, (uint_Tells w64, (uint_Tells w64, (shr_slice_Tells (named 0) κs.0 u8, (rawptr_Tells, (uint_Tells w64, (mut_slice_Tells (named 1) κs.1.0 u8, tt))))))))
    (λ κs qs a g are.
    let n : ℕ = a.1.0 in let k : ℕ = a.1.1.0 in let script : Bor (List ℕ) = a.1.1.1.0 in let lent : Ptr = a.1.1.1.1.0 in let m : ℕ = a.1.1.1.1.1.0 in let output : MutBor (List ℕ) = a.1.1.1.1.1.1.0 in
    let fn : n < 2 ^ 64 = are.1.0.1 in let fk : k < 2 ^ 64 = are.1.1.0.1 in let fm : m < 2 ^ 64 = are.1.1.1.1.1.0.1 in
    let behind = λ (q : Ptr). rawptr_vals q ++ (uint_vals w64 m ++ (mut_slice_vals output ++ [])) in
    let us = λ (q : Ptr). uint_vals w64 n ++ (uint_vals w64 k ++ (shr_slice_vals script ++ behind q)) in
    let Output = fsep ((MutSlice (named 1) κs.1.0 u8).own_val output (mut_slice_vals output)) ftrue in
    let Lent = fsep (RawPtr.own_val lent (rawptr_vals lent)) (fsep (usize.own_val m (uint_vals w64 m)) Output) in
    let Given = fsep (usize.own_val n (uint_vals w64 n)) (fsep (u64.own_val k (uint_vals w64 k)) (fsep ((ShrSlice (named 0) κs.0 u8).own_val script (shr_slice_vals script)) Lent)) in
    let xs = replicate n (Byte 0) in let Zeroed = λ (p : Ptr). zeroed n p in let Room = λ (p : Ptr). room_at (Array C.the_row n) p in let Units = λ (q : Ptr). units_at m q in let Post = λ (p q : Ptr). Owed 𝓛 f.ended c κs qs (p, (n, (k, (script, (q, (m, (output, tt))))))) g in
    qed 𝓛 ((raw (alive 𝓛 f.signature κs qs) ⊛ ‵ (fsep (RawPtr.own_val a.0 (rawptr_vals a.0)) Given)) ∷ (‵ (Zeroed a.0) ⊛ ‵ (Units lent)) ∷ []) ∵ split ! $ move ! (1 ∷ []) $
    fsplit ! $ drop ! $ fsplit ! $ drop ! $ fsplit ! $ drop ! $ fsplit ! $ move ! (1 ∷ []) $ fsplit ! $ drop ! $ fsplit ! $ drop ! $ move ! (3 ∷ []) $ split ! $
    in_a_block ! a.0 Zeroed (id⊢ 𝓤 _) (λ b o e. move ! (1 ∷ []) $ in_a_block ! lent Units (id⊢ 𝓤 _) (λ b₁ o₁ e₁. move ! (1 ∷ []) $
    let p = block_ptr b o in let q = block_ptr b₁ o₁ in
    regoal ! (λ p. prop (WpFn 𝓤 𝓛.H 𝓣.C 𝓣.Λ code.function (rawptr_vals p ++ us lent) (Post p lent))) e refl $
    regoal ! (λ q. prop (WpFn 𝓤 𝓛.H 𝓣.C 𝓣.Λ code.function (rawptr_vals p ++ us q) (Post p q))) e₁ refl $
    -- [the room; the units; output; script; the tokens of κ₀ and κ₁]
    enter ! _ _ _ _ _ $
    alloc_all ! (λ l. pass_all ! refl ((tt, tt), ((tt, record { fits = fn }), ((tt, record { fits = fk }), ((tt, (tt, (record { fits = are.1.1.1.0.0.1.0 }, tt))), ((tt, tt), ((tt, record { fits = fm }), ((tt, (tt, (record { fits = are.1.1.1.1.1.1.0.0.1.0 }, tt))), tt))))))) $
    sets ! (bin ! (most_cells 𝓛) (get ! refl) tt) refl (tt, tt) $ first ! $ branches ! (get ! refl)
    (λ many. let more : 16777216 < n = ltb→lt 16777216 n many in
    let N = triple_of 𝓛 refusal.signature (refusal.spec 𝓛 𝓜.mem 𝓡.returns) in let none : N.Ghost = ((tt, tt, tt, tt, tt), tt) in
    nothing ! $ nothing ! $ nothing ! $ join ! $ join ! $ use1 𝓛 (raw (N.pre none)) (id⊢ 𝓤 (N.pre none)) $
    calls_at ! (framed 𝓤 𝓛.H 𝓜 𝓣) N (refusal_thm.met 𝓤 𝓛 𝓜 𝓡 (code.calls-trac_c::report::refused 𝓡.env wired)) none (no_more !) (λ w.
    use1 𝓛 (later (some (λ (r : (T.the_row).Denot). (‵ ftrue ⊛ ‵ ((T.the_row).own_val r (w ∷ []))) ⊛ some (λ (zs : Unit {0}). ‵ (lasts refusal.ended tt tt zs) ⊛ raw (fact 𝓤 (r ≡ refused)))))) (id⊢ 𝓤 _) $
    await ! tt $ pick ! (λ r. split ! $ split ! $ drop ! $ move ! (1 ∷ []) $ pick ! (λ zs. split ! $ drop ! $ heard ! _ (λ is_refused.
    -- [the result; the room; the units; output; script; the tokens]
    peeks ! T.the_row (Is T.the_row) (shows 𝓛 T.the_row) r (w ∷ []) (λ is.
    lands_as ! refl refl ((T'.the_row_laws.lawful 𝓛).typed r (w ∷ []) is).0 $ returns_within ! (Post p q) refl (look_at ! 0 refl) $ free_all ! refl $
    move ! (4 ∷ 2 ∷ []) $ drop ! $ drop ! $ move ! (2 ∷ []) $ fsplit ! $ fsplit ! $ drop ! $ fsplit ! $
    use1 𝓛 (‵ (fres output.ghost_name ((coded_holeys u8).code (heres u8 output.now)))) (𝓛.names.obs-res output.ghost_name ((coded_holeys u8).code (heres u8 output.now))) $
    use1 𝓛 (‵ (finally u8 output.ghost_name output.now)) (res-finally 𝓛 (named 1) κs.1.0 u8 output.ghost_name output.now) $
    feq_i ! ℕ (length output.now) (length output.now) refl $ move ! (1 ∷ 0 ∷ []) $ fjoin ! $ fjoin ! $ fjoin ! $
    nothing ! $ fjoin ! $ nothing ! $ fjoin ! $ nothing ! $ fjoin ! $ nothing ! $ fjoin ! $ nothing ! $ fjoin ! $ nothing ! $ fjoin ! $ move ! (1 ∷ 2 ∷ []) $
    gives ! f.ended c κs qs (p, (n, (k, (script, (q, (m, (output, tt))))))) g w r (tt, (tt, (tt, (tt, (tt, (tt, (output.now, tt))))))) (qed 𝓛 (‵ (Zeroed p) ∷ []) ∵ use1 𝓛 (‵ (Room p)) (room_again 𝓛 n b o xs) $ says ! (record { too_many = λ _. (is_refused, refl); checked = λ few. absurd (omega (arith, more, few)) }) $ done !)))))))
    (λ few. let le : n ≤ 16777216 = nltb→le 16777216 n few in
    skips ! $ exec ! 𝓣.C 𝓣.Λ (env (code.function).locals l) code.Mir.t-3 (at_ret (env (code.function).locals l) (Post p q)) $
    -- the memory is taken over
    sets ! (of_opd ! (get ! refl)) refl (tt, tt) $
    let L = triple_of 𝓛 owner.signature (owner.spec 𝓛 𝓜.mem 𝓡.returns) in
    let y : L.Ghost = ((tt, tt, tt, (q, tt), (rawptr_vals q, tt)), m) in
    move ! (1 ∷ []) $ nothing ! $ feq_i ! (List Val) (rawptr_vals q) (rawptr_vals q) refl $ fjoin ! $ nothing ! $ join ! $ join ! $ use1 𝓛 (raw (L.pre y)) (id⊢ 𝓤 (L.pre y)) $
    calls_at ! (framed 𝓤 𝓛.H 𝓜 𝓣) L (owner_thm.met 𝓤 𝓛 𝓜 𝓡 (code.calls-trac_lent::Units::from_raw 𝓡.env wired)) y (and_then ! (get ! refl) (no_more !)) (λ u.
    use1 𝓛 (later (some (λ (x : (U.the_row).Denot). (‵ ftrue ⊛ ‵ ((U.the_row).own_val x (u ∷ []))) ⊛ some (λ (zs : Unit {0} × Unit {0}). ‵ (lasts owner.ended tt y.0.3 zs) ⊛ raw (fact 𝓤 (x.count ≡ m)))))) (id⊢ 𝓤 _) $
    await ! tt $ pick ! (λ x. split ! $ split ! $ drop ! $ move ! (1 ∷ []) $ pick ! (λ zs. split ! $ drop ! $ heard ! _ (λ counted.
    -- [the owner; the room; output; script; the tokens]
    peeks ! U.the_row (Is U.the_row) (shows 𝓛 U.the_row) x (u ∷ []) (λ is_owner.
    lands_as ! refl refl ((U'.the_row_laws.lawful 𝓛).typed x (u ∷ []) is_owner).0 $ move ! (1 ∷ []) $
    lft_new ! tt (λ α. let κ : Lft = α ∷ [] in move ! (1 ∷ []) $
    lends_cells 𝓤 𝓛 ! κ n b o xs le (λ γ ln.
    -- [the block; the right to its cells; the token of κ; the owner; output; script; the tokens of κ₀ and κ₁]
    sets ! (agg ! (and_then ! (get ! refl) (and_then ! (get ! refl) (no_more !)))) refl (tt, (tt, (record { fits = fn }, tt))) $
    sets ! (addr ! (from ! (fld ! refl (hop ! (look_in_at ! 7 (sub ! 0 refl (whole !))) (stop !))))) refl (tt, tt) $
    sets ! (agg ! (and_then ! (get ! refl) (and_then ! (get_in ! (fld ! refl (stop !)) (sub ! 1 refl (whole !))) (no_more !)))) refl (tt, (tt, (record { fits = are.1.1.1.1.1.1.0.0.1.0 }, tt))) $
    let G = triple_of 𝓛 over.signature (over.spec 𝓛 𝓜.mem 𝓡.returns) in
    let z : G.Ghost = (((κ, κs), (full_share, qs), tt, (block_as b o γ xs, (k, (script, (x, (m, (output, tt)))))), (slice_val (b, o) n ∷ [], (uint_vals w64 k, (shr_slice_vals script, (u ∷ [], (uint_vals w64 m, (mut_slice_vals output, tt))))))), tt) in
    move ! (4 ∷ []) $ owned ! usize (Is usize) (uint_Makes 𝓛 w64) m _ (refl, fm) $ fjoin ! $ move ! (4 ∷ 0 ∷ []) $ fjoin ! $ move ! (4 ∷ 0 ∷ []) $ fjoin ! $
    owned ! u64 (Is u64) (uint_Makes 𝓛 w64) k _ (refl, fk) $ fjoin ! $ move ! (1 ∷ 0 ∷ []) $ fjoin ! $ move ! (2 ∷ 3 ∷ 0 ∷ []) $ join ! $ join ! $
    let Asked : Type 0 = (length xs ≤ 16777216) × (m ≡ x.count) in
    use0 𝓛 (raw (fact 𝓤 Asked)) (fact_i 𝓤 Asked (emp 𝓤) (omega arith, sym counted)) $ move ! (1 ∷ 0 ∷ []) $ join ! $ use1 𝓛 (raw (G.pre z)) (id⊢ 𝓤 (G.pre z)) $
    calls_at ! (framed 𝓤 𝓛.H 𝓜 𝓣) G (over_thm.met 𝓤 𝓛 𝓜 𝓡 (code.calls-trac_c::check::check_over 𝓡.env wired)) z
    (and_then ! (get ! refl) (and_then ! (get ! refl) (and_then ! (get ! refl) (and_then ! (get ! refl) (and_then ! (get ! refl) (and_then ! (get ! refl) (no_more !))))))) (λ w.
    use1 𝓛 (later (some (λ (r : (T.the_row).Denot). ((‵ (flft κ full_share) ⊛ raw (alive 𝓛 f.signature κs qs)) ⊛ ‵ ((T.the_row).own_val r (w ∷ []))) ⊛
    some (λ (zs : List Cell × (Unit {0} × (Unit {0} × (Unit {0} × (Unit {0} × (List ℕ × Unit {0})))))). ‵ (lasts over.ended z.0.0 z.0.3 zs) ⊛ raw (fact 𝓤 (Checked (length xs) k script.now output.now zs.1.1.1.1.1.0 r)))))) (id⊢ 𝓤 _) $
    await ! tt $ pick ! (λ r. split ! $ split ! $ split ! $ lft_end ! tt $ move ! (3 ∷ []) $ pick ! (λ zs. split ! $ move ! (1 ∷ []) $ heard ! _ (λ told.
    -- [what says the last values; κ is over; the other tokens; the result; the right to the cells]
    fsplit ! $ fsplit ! $ fsplit ! $ move ! (1 ∷ 2 ∷ []) $ drop ! $ drop ! $ move ! (2 ∷ 5 ∷ 0 ∷ []) $
    use3 𝓛 (later (‵ ((Arr (mem C.the_row) (length xs)).own_at zs.0 b o))) (slice_back 𝓛 C.the_row κ γ zs.0 (length xs) b o) $ await ! tt $
    fsplit ! $ feq_l ! (λ ly. use1 𝓛 (‵ (row C.the_row full_share zs.0 b o)) (whole_out 𝓛 C.the_row zs.0 b o) $
    use1 𝓛 (‵ (froom (ty_array (Rows.elτ E) (length zs.0)) b o)) (rooms 𝓛 b zs.0 o) $
    rewrite ! 0 (λ (j : ℕ). ‵ (froom (ty_array (Rows.elτ E) j) b o)) (ly ∙ ln) refl $
    -- [the room; what says the other last values; the tokens; the result]
    move ! (1 ∷ []) $ nothing ! $ fjoin ! $ nothing ! $ fjoin ! $ move ! (3 ∷ 1 ∷ 0 ∷ []) $ peeks ! T.the_row (Is T.the_row) (shows 𝓛 T.the_row) r (w ∷ []) (λ is.
    lands_as ! refl refl ((T'.the_row_laws.lawful 𝓛).typed r (w ∷ []) is).0 $ returns ! (look_at ! 0 refl) $ free_all ! refl $
    gives ! f.ended c κs qs (p, (n, (k, (script, (q, (m, (output, tt))))))) g w r (tt, (tt, (tt, (tt, (tt, (tt, (zs.1.1.1.1.1.0, tt)))))))
    (qed 𝓛 (‵ (froom (ty_array (Rows.elτ E) n) b o) ∷ []) ∵ says ! (record { too_many = λ more. absurd (omega (arith, more, le)); checked = λ _. subst (λ (j : ℕ). Checked j k script.now output.now zs.1.1.1.1.1.0 r) ln told }) $ done !)))))))))))))))))))
