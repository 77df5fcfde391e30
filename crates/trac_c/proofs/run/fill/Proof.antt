-- `fill` writes the cells one by one, from the first on. Assumes `Logic`.
use Rattle.trac_c.proofs.Walking.{ℕ, ◌+◌, ◌-◌, ◌*◌, ◌≤◌, ◌<◌, ◌^◌, arith, ◌≡◌, refl, List, [], ◌∷◌, ◌++◌, lit<, ltb→lt, nltb→le, froom, fex, full_share, SProp, id⊢, fact, tables, Array, usize, yes, Is, part_at, uint_vals, uint_Tells, Ptr, RawPtr, block_ptr, rawptr_vals, rawptr_Tells, in_a_block, room_at, plain, nothing, owned, heard, on_entry, Stays, stay_dropped, walk_of, ends_at, Goes-dropped, w8, w64, ty_array, Val, vptr, vint, vunit, vstruct, vcons, vnil, has_ty, WT, WpFn, Out, Wp, at_return, after_seq, after_block, alloc_all, pass_all, free_all, look_at, get, sets, sets_last, through, env, holding, forget_but, Item, ‵, raw, ◌⊛◌, prop, ◌$◌, ◌∵◌, !, qed, move, drop, use0, use1, use2, join, split, rewrite, regoal, fpick, fpack, feq_i, suffices, group, done, any_q, at_ret, agg, stop, no_more, and_then, returns, enter, of_opd, lit, bin, unit_lit, init, assigns, first, blocks, skips, jumps, branches, exec, loops, again, Below, proved, Cell}
use mathlib.Core.WellFounded.InvImage
use lib.Dec.{T}
use lib.WfN.{lt-wf_rel}
use prog.Wp.{after_turn}
use contract.Running.{tables_of}
use denote.Enum.Laws as LL
use Rattle.std.proofs.VecSteps.Shapes.{after}
use Rattle.std.proofs.ptr.Rows.{El, R, elτ, sz, el_in, empty, room_split, spare, snoc}
use Rattle.trac_space.specs.contracts.cell.Cell as C
use Rattle.trac_space.specs.declared.cell.Cell.TheVariants.{Byte}
use Rattle.trac_space.proofs.cell.Cell.TheLaws as C'
use Rattle.trac_c.specs.contracts.run.fill as f
use Rattle.trac_c.proofs.run.fill.Statement.{statement}
use Rattle.trac_c.proofs.run.fill.Code as code

abbrev E : El
E = record { row = C.the_row; laws = C'.the_row_laws }

-- how many are written
abbrev Done : ℕ → Type 0
Done n = (i : ℕ) × (i ≤ n)

abbrev Nearer : (n : ℕ) → Done n → Done n → Type 0
Nearer n t u = n - t.0 < n - u.0

blank_is : Is C.the_row (Byte 0) (LL.vals C.the_type C'.the_laws (Byte 0))
blank_is = LL.owes C.the_type C'.the_laws (Byte 0) ((refl, lit< tt), tt)

abbrev blank : Val
blank = vstruct (vcons (vint w8 0) (vcons (vint w8 0) vnil))

good : T (has_ty (elτ E) blank) × WT blank
good = (tt, (record { fits = lit< tt }, (record { fits = lit< tt }, tt)))

abbrev stayed : Stays f.ended.signature.params f.ended.kept
stayed = (stay_dropped _ yes, (stay_dropped _ yes, tt))

pub fill_spec : {M : Type 1} → statement M
unfolding tables_of after_turn
fill_spec 𝓤 𝓛 𝓜 𝓡 wired =
    let c = f.clauses 𝓛 𝓜.mem 𝓡.returns in let W = walk_of 𝓛 f.ended stayed c in let 𝓣 = tables_of 𝓤 𝓛.H 𝓜 (tables 𝓤 𝓛.H 𝓜 𝓡 𝓡.env) in
    proved 𝓛 f.ended stayed c 𝓜 𝓡 (Goes-dropped 𝓛 0 (plain (λ _. RawPtr)) yes (λ κs x w. refl), (Goes-dropped 𝓛 0 (plain (λ _. usize)) yes (λ κs x w. refl), tt))
    f.Key.name code.function (code.unfolded 𝓤 𝓛.H 𝓜 𝓡 wired)
    (λ κs. (rawptr_vals, (uint_vals w64, tt))) (λ κs. (rawptr_Tells, (uint_Tells w64, tt))) (λ κs qs bounds a g are.
    let n = a.1.0 in
    let y : Ptr → W.Ghost = λ p. ((κs, qs, bounds, (p, (n, tt)), (rawptr_vals p, (uint_vals w64 n, tt))), g) in
    qed 𝓛 (raw (on_entry 𝓛 f.signature κs qs a (y a.0).0.4) ∷ (‵ (room_at (Array C.the_row n) a.0) ⊛ raw (fact 𝓤 (n ≤ 16777216))) ∷ []) ∵ drop ! $ split ! $ move ! (1 ∷ []) $ heard ! _ (λ le.
    in_a_block ! a.0 (λ p. room_at (Array C.the_row n) p) (id⊢ 𝓤 _) (λ b o e.
    regoal ! (λ p. prop (WpFn 𝓤 𝓛.H 𝓣.C 𝓣.Λ code.function (rawptr_vals p ++ (uint_vals w64 n ++ [])) (W.post (y p)))) e refl $
    let s = sz E in let τ = elτ E in let Cells = λ (i : ℕ). fex (List Cell) (λ xs. part_at (Array (R E) i) full_share xs b o) in
    let Post = W.post (y (block_ptr b o)) in
    use1 𝓛 (‵ (froom (ty_array τ 0) b o) ⊛ ‵ (froom (ty_array τ (n - 0)) b (o + 0 * s))) (room_split E 𝓛 0 n b o (omega arith)) $ split ! $ drop ! $
    use0 𝓛 (‵ (part_at (Array (R E) 0) full_share [] b o)) (empty E 𝓛 [] b o refl) $
    fpack ! (List Cell) (λ xs. part_at (Array (R E) 0) full_share xs b o) [] $
    enter ! _ _ _ _ _ $
    alloc_all ! (λ l. pass_all ! refl ((tt, tt), ((tt, record { fits = are.1.0.1 }), tt)) $
    let En = env (code.function).locals l in
    let Now : Done n → List (Item 𝓤) = λ t. ‵ (Cells t.0) ∷ ‵ (froom (ty_array τ (n - t.0)) b (o + t.0 * s)) ∷ holding 𝓛 En ((1, vptr b o) ∷ (2, vint w64 n) ∷ (3, vint w64 t.0) ∷ []) in
    let Turned : Done n → Out → SProp 𝓤 = λ t. after_turn 𝓤 𝓛.H (Below 𝓛 (Nearer n) Now t) (after_block 𝓤 𝓛.H (after_seq 𝓤 𝓛.H (Wp 𝓤 𝓛.H 𝓣.C 𝓣.Λ En code.Mir.t-3 (at_return 𝓤 𝓛.H En Post)) (at_return 𝓤 𝓛.H En Post))) in
    sets ! (of_opd ! (lit ! tt)) refl (tt, record { fits = lit< tt }) $
    first ! $ blocks ! $
    loops ! 𝓣 (Nearer n) (InvImage.wf (λ (t : Done n). n - t.0) lt-wf_rel.wf) Now (λ t. let i = t.0 in let le' = t.1 in
    sets ! (bin ! (get ! refl) (get ! refl) tt) refl (tt, tt) $ first ! $ branches ! (get ! refl)
    (λ less. let h : i < n = ltb→lt i n less in let fm : i * 8 < 2 ^ 64 = omega arith in let fj : i + 1 < 2 ^ 64 = omega arith in
    skips ! $ exec ! 𝓣.C 𝓣.Λ En (after 2 code.Mir.turn-1) (any_q (Turned t)) $
    sets ! (bin ! (get ! refl) (lit ! tt) (record { fits = fm })) refl (tt, record { fits = fm }) $
    sets ! (bin ! (get ! refl) (get ! refl) tt) refl (tt, tt) $
    sets ! (agg ! (and_then ! (lit ! tt) (and_then ! (lit ! tt) (no_more !)))) refl good $
    fpick ! (λ xs. move ! (1 ∷ []) $
    use1 𝓛 (‵ (froom τ b (i * s + o)) ⊛ ‵ (froom (ty_array τ (n - (i + 1))) b (o + (i + 1) * s))) (spare E 𝓛 b o i n h) $ split ! $
    assigns ! (of_opd ! (get ! refl)) (through ! refl (stop !)) (init ! 0 refl good) $
    owned ! C.the_row (Is C.the_row) (LL.makes C.the_type C'.the_plain 𝓛) (Byte 0) _ blank_is $
    move ! (1 ∷ 0 ∷ []) $
    use2 𝓛 (‵ (part_at (R E) full_share (Byte 0) b (i * s + o))) (el_in E 𝓛 full_share (Byte 0) b (i * s + o) blank) $
    -- [the cell; the rooms behind it; the cells before it]
    move ! (2 ∷ 0 ∷ []) $
    use2 𝓛 (‵ (part_at (Array (R E) (i + 1)) full_share (xs ++ Byte 0 ∷ []) b o)) (snoc E 𝓛 b o i xs (Byte 0)) $
    fpack ! (List Cell) (λ zs. part_at (Array (R E) (i + 1)) full_share zs b o) (xs ++ Byte 0 ∷ []) $
    sets_last ! (bin ! (get ! refl) (lit ! tt) (record { fits = fj })) refl (tt, record { fits = fj }) $
    forget_but ! En (1 ∷ 2 ∷ 3 ∷ []) refl $
    again ! (Nearer n) Now t (i + 1, omega arith) (omega arith)))
    (λ over. let ge = nltb→le i n over in let all : i ≡ n = omega arith in
    jumps ! $ exec ! 𝓣.C 𝓣.Λ En code.Mir.t-3 (at_ret En Post) $
    rewrite ! 0 (λ (k : ℕ). ‵ (Cells k)) all refl $ move ! (1 ∷ []) $ drop ! $
    sets ! (of_opd ! (unit_lit !)) refl (tt, tt) $ returns ! (look_at ! 0 refl) $ free_all ! refl $
    suffices ! _ (ends_at 𝓛 f.ended stayed c (y (block_ptr b o)) vunit tt (tt, (tt, tt)) (tt, (tt, tt))) $
    feq_i ! _ (vunit ∷ []) _ refl $ nothing ! $ nothing ! $ join ! $ nothing ! $ join ! $
    nothing ! $ group ! 3 $ done !)) (0, omega arith)))))
