-- `trac_engine_open_zeroed` refuses a number of cells, or lends the block for good, and writes the machine over it to its place. Assumes `Logic`.
use Rattle.trac_c.proofs.Walking.{ℕ, ◌≤◌, ◌<◌, ◌^◌, arith, ◌≡◌, refl, ap, ◌∙◌, List, [], ◌∷◌, ◌++◌, inl, inr, lit<, ltb→lt, nltb→le, length, ftrue, flft, froom, full_share, id⊢, emp, fact, fact_i, tables, u32, u64, Is, shows, part_at, uint_vals, uint_Tells, uint_Makes, RattleType, Ptr, block_ptr, rawptr_vals, rawptr_Tells, in_a_block, lies_at, room_at, slice_val, nothing, owned, peeks, heard, calls_at, lasts, on_entry, triple_of, framed, w32, w64, erased, Val, vint, WpFn, alloc_all, pass_all, free_all, look_at, get, sets, lands_as, through, env, ‵, raw, ◌⊛◌, some, later, prop, ◌$◌, ◌∵◌, !, qed, move, drop, use0, use1, use2, join, split, pick, await, rewrite, regoal, fjoin, fpack, at_ret, agg, stop, no_more, and_then, returns, returns_within, enter, of_opd, lit, bin, init, assigns, first, skips, branches, exec, MachineState, fresh_machine, machine, Owed, meets_by, gives}
use borrow.Table.OneValue.{reroom, part_in_at}
use denote.Param.{layout}
use Rattle.trac_core.specs.contracts.machine.Machine as M
use Rattle.trac_core.proofs.machine.Machine.TheLaws as M'
use Rattle.trac_core.specs.contracts.machine.Machine.over as over
use Rattle.trac_core.proofs.machine.Machine.over.Met as over_thm
use Rattle.trac_c.specs.Machines.{Opening, opened_zeroed_by, zeroed}
use Rattle.trac_space.specs.declared.cell.Cell.TheVariants.{Byte}
use Rattle.std.specs.Prelude.{replicate}
use Rattle.trac_c.specs.contracts.zeroed.trac_engine_open_zeroed as f
use Rattle.trac_c.proofs.Blocks.{most_cells, block_as, lends_cells}
use Rattle.trac_c.proofs.zeroed.trac_engine_open_zeroed.Statement.{statement}
use Rattle.trac_c.proofs.zeroed.trac_engine_open_zeroed.Code as code

-- the machine's type as MIR has it
abbrev R' : RattleType
R' = M.the_row (record { mir = erased; lft = [] })

pub trac_engine_open_zeroed_spec : {M : Type 1} → statement M
trac_engine_open_zeroed_spec 𝓤 𝓛 𝓜 𝓡 wired =
    let c = f.clauses 𝓛 𝓜.mem 𝓡.returns in let 𝓣 = tables 𝓤 𝓛.H 𝓜 𝓡 𝓡.env in
    meets_by 𝓛 𝓜 𝓡 f.ended c f.Key.name code.function (code.unfolded 𝓤 𝓛.H 𝓜 𝓡 wired)
    (λ κs. (rawptr_vals, (rawptr_vals, (uint_vals w64, (uint_vals w64, tt)))))
    (λ κs. (rawptr_Tells, (rawptr_Tells, (uint_Tells w64, (uint_Tells w64, tt)))))
    (λ κs qs a g are.
    let n : ℕ = a.1.1.0 in let k : ℕ = a.1.1.1.0 in let fn : n < 2 ^ 64 = are.1.1.0.1 in let fk : k < 2 ^ 64 = are.1.1.1.0.1 in
    let us : List Val = uint_vals w64 n ++ (uint_vals w64 k ++ []) in let Post = λ (p₀ p : Ptr). Owed 𝓛 f.ended c κs qs (p₀, (p, a.1.1)) g in
    let xs = replicate n (Byte 0) in let Room = λ (p : Ptr). zeroed n p in
    qed 𝓛 (raw (on_entry 𝓛 f.signature κs qs a (rawptr_vals a.0, (rawptr_vals a.1.0, (uint_vals w64 n, (uint_vals w64 k, tt))))) ∷ (‵ (room_at machine a.0) ⊛ ‵ (Room a.1.0)) ∷ []) ∵ drop ! $ split ! $
    in_a_block ! a.0 (λ p. room_at machine p) (id⊢ 𝓤 _) (λ b₀ o₀ e₀. move ! (1 ∷ []) $ in_a_block ! a.1.0 Room (id⊢ 𝓤 _) (λ b o e.
    let p₀ = block_ptr b₀ o₀ in let p = block_ptr b o in
    regoal ! (λ p₀. prop (WpFn 𝓤 𝓛.H 𝓣.C 𝓣.Λ code.function (rawptr_vals p₀ ++ (rawptr_vals a.1.0 ++ us)) (Post p₀ a.1.0))) e₀ refl $
    regoal ! (λ p. prop (WpFn 𝓤 𝓛.H 𝓣.C 𝓣.Λ code.function (rawptr_vals p₀ ++ (rawptr_vals p ++ us)) (Post p₀ p))) e refl $
    -- [the block's room; the machine's room]
    enter ! _ _ _ _ _ $ alloc_all ! (λ l. pass_all ! refl ((tt, tt), ((tt, tt), ((tt, record { fits = fn }), ((tt, record { fits = fk }), tt)))) $
    sets ! (bin ! (most_cells 𝓛) (get ! refl) tt) refl (tt, tt) $ first ! $ branches ! (get ! refl)
    (λ many. let more : 16777216 < n = ltb→lt 16777216 n many in
    sets ! (of_opd ! (lit ! tt)) refl (tt, record { fits = lit< tt }) $ returns_within ! (Post p₀ p) refl (look_at ! 0 refl) $ free_all ! refl $
    move ! (1 ∷ []) $ fjoin ! $ fpack ! (Opening n 9) (opened_zeroed_by n k p₀ p 9) (inr (more, refl)) $
    use0 𝓛 (raw (emp 𝓤)) (id⊢ 𝓤 _) $ nothing ! $ nothing ! $ fjoin ! $ nothing ! $ fjoin ! $ nothing ! $ fjoin ! $ nothing ! $ fjoin ! $ move ! (2 ∷ []) $
    owned ! u32 (Is u32) (uint_Makes 𝓛 w32) 9 _ (refl, lit< tt) $
    gives ! f.ended c κs qs (p₀, (p, a.1.1)) g (vint w32 9) 9 (tt, (tt, (tt, (tt, tt)))) (id⊢ 𝓤 _))
    (λ few. let le : n ≤ 16777216 = nltb→le 16777216 n few in
    skips ! $ exec ! 𝓣.C 𝓣.Λ (env (code.function).locals l) code.Mir.t-3 (at_ret (env (code.function).locals l) (Post p₀ p)) $
    lends_cells 𝓤 𝓛 ! [] n b o xs le (λ γ ln.
    sets ! (of_opd ! (get ! refl)) refl (tt, tt) $ move ! (1 ∷ []) $ drop ! $
    sets ! (agg ! (and_then ! (get ! refl) (and_then ! (get ! refl) (no_more !)))) refl (tt, (tt, (record { fits = fn }, tt))) $
    -- [the block, lent for good; the machine's room]
    let G = triple_of 𝓛 over.signature (over.spec 𝓛 𝓜.mem 𝓡.returns) in
    let x : G.Ghost = ((([], tt), (full_share, tt), tt, (block_as b o γ xs, (k, tt)), (slice_val (b, o) n ∷ [], (uint_vals w64 k, tt))), tt) in
    nothing ! $ owned ! u64 (Is u64) (uint_Makes 𝓛 w64) k _ (refl, fk) $ fjoin ! $ move ! (1 ∷ 0 ∷ []) $ fjoin ! $
    nothing ! $ use0 𝓛 (‵ (flft [] full_share)) (𝓛.lfts.lft-nil full_share) $ join ! $ join ! $
    use0 𝓛 (raw (fact 𝓤 (length xs ≤ 16777216))) (fact_i 𝓤 (length xs ≤ 16777216) (emp 𝓤) (omega arith)) $ move ! (1 ∷ 0 ∷ []) $ join ! $ use1 𝓛 (raw (G.pre x)) (id⊢ 𝓤 (G.pre x)) $
    calls_at ! (framed 𝓤 𝓛.H 𝓜 𝓣) G (over_thm.met 𝓤 𝓛 𝓜 𝓡 (code.calls-trac_core::Machine::over 𝓡.env wired)) x (and_then ! (get ! refl) (and_then ! (get ! refl) (no_more !))) (λ w.
    use1 𝓛 (later (some (λ (r : MachineState). ((‵ (flft [] full_share) ⊛ ‵ ftrue) ⊛ ‵ (R'.own_val r (w ∷ []))) ⊛
    some (λ (zs : Unit {0} × (Unit {0} × Unit {0})). ‵ (lasts over.ended x.0.0 x.0.3 zs) ⊛ raw (fact 𝓤 (r ≡ fresh_machine (length xs) k)))))) (id⊢ 𝓤 _) $
    await ! tt $ pick ! (λ m. split ! $ split ! $ drop ! $ move ! (1 ∷ []) $ pick ! (λ zs. split ! $ drop ! $ heard ! _ (λ is_made.
    -- [the machine's value; its room]
    peeks ! R' (Is R') (shows 𝓛 R') m (w ∷ []) (λ is.
    let wt = (((M'.the_row_laws (record { mir = erased; lft = [] })).lawful 𝓛).typed m (w ∷ []) is).0 in
    lands_as ! refl refl wt $ move ! (1 ∷ []) $
    use1 𝓛 (‵ (froom (layout R') b₀ o₀)) (reroom 𝓛 (layout machine) (layout R') refl b₀ o₀) $
    assigns ! (of_opd ! (get ! refl)) (through ! refl (stop !)) (init ! 0 refl wt) $
    use2 𝓛 (‵ (part_at machine full_share m b₀ o₀)) (part_in_at 𝓛 machine refl full_share m b₀ o₀ (layout R') refl w) $
    rewrite ! 0 (λ (m' : MachineState). ‵ (lies_at machine full_share p₀ m')) (is_made ∙ ap (λ (j : ℕ). fresh_machine j k) ln) refl $
    fpack ! (Opening n 0) (opened_zeroed_by n k p₀ p 0) (inl (le, refl)) $
    sets ! (of_opd ! (lit ! tt)) refl (tt, record { fits = lit< tt }) $ returns ! (look_at ! 0 refl) $ free_all ! refl $
    use0 𝓛 (raw (emp 𝓤)) (id⊢ 𝓤 _) $ nothing ! $ nothing ! $ fjoin ! $ nothing ! $ fjoin ! $ nothing ! $ fjoin ! $ nothing ! $ fjoin ! $ move ! (2 ∷ []) $
    owned ! u32 (Is u32) (uint_Makes 𝓛 w32) 0 _ (refl, lit< tt) $
    gives ! f.ended c κs qs (p₀, (p, a.1.1)) g (vint w32 0) 0 (tt, (tt, (tt, (tt, tt)))) (id⊢ 𝓤 _))))))))))))
