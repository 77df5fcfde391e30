-- The block: the greatest number of its cells, room that is filled with cells and lent, and cells that are room again. Assumes `Logic`.
use Rattle.trac_c.proofs.Walking.{ℕ, ◌+◌, ◌≤◌, ◌<◌, ◌^◌, arith, ◌≡◌, refl, ap, List, [], ◌∷◌, lit<, length, Ura, Lft, fat, ftrue, flent, froom, fex, full_share, ent, id⊢, via, guard_i, emp, fact, fact_i, Running, MachineTables, tables, Array, usize, unit, row, whole_in, Is, Held, lends_slice, mem, part_at, uint_vals, uint_Makes, block_ptr, room_at, MutBor, MutSlice, slice_val, nothing, owned, only, calls_at, lasts, triple_of, Contract, Triple, framed, Callee, Place, Operand, Code, int_big, w64, named, ty_array, call, seq, Val, Fits, vptr, vint, vunit, Model, Env, Item, Seq, Post, ‵, raw, ◌⊛◌, some, later, runs, lands, ◌$◌, ◌∵◌, !, qed, move, drop, use0, use1, join, split, pick, given, learn, await, rewrite, fjoin, fpick, feq_i, feq_l, by, done, Logic, sem, Opd, Opds, cells, Cell, Calls, Loops}
use Rattle.std.proofs.ptr.Rows as Rows
use Rattle.trac_space.specs.contracts.cell.Cell as C
use Rattle.trac_space.proofs.cell.Cell.TheLaws as C'
use Rattle.trac_c.specs.contracts.run.fill as fill

abbrev pub E : Rows.El
E = record { row = C.the_row; laws = C'.the_row_laws }

-- the constant 16777216 of the code is the number of the contracts
pub most_cells : {M : Type 1} {𝓤 : Ura M} (𝓛 : Logic 𝓤) {K : Type 0} {Γ : List (Item 𝓤)} {E : Env 𝓤 𝓛.H} → Opd K 𝓛 Γ E (int_big w64 16777216) (vint w64 16777216)
most_cells {M} {𝓤} 𝓛 =
    record { go = λ Kt h. via 𝓤 (Kt (vint w64 16777216)) h (guard_i 𝓤 (Fits w64 16777216) (Kt (vint w64 16777216)) (record { fits = lit< tt })) }

-- cells side by side are room for as many
pub rooms : {M : Type 1} {𝓤 : Ura M} (𝓛 : Logic 𝓤) (b : ℕ) (xs : List Cell) (o : ℕ) → ent 𝓤 (sem 𝓛 (row C.the_row full_share xs b o)) (𝓛.H.room (ty_array (Rows.elτ E) (length xs)) b o)
rooms 𝓛 b [] o = 𝓛.laws.room_nil (Rows.elτ E) b o
rooms 𝓛 b (x ∷ xs) o =
    qed 𝓛 (‵ (part_at C.the_row full_share x b o) ∷ ‵ (row C.the_row full_share xs b (o + Rows.sz E)) ∷ []) ∵
    use1 𝓛 (some (λ (v : Val). given (Rows.Good E v) (‵ (fat full_share (Rows.elτ E) b o v) ⊛ ‵ (Rows.el_own E x (v ∷ []))))) (Rows.el_out E 𝓛 full_share x b o) $ pick ! (λ v. learn ! (λ tv. split ! $
    use1 𝓛 (‵ (froom (Rows.elτ E) b o)) (𝓛.laws.at_room (Rows.elτ E) b o v) $ move ! (1 ∷ []) $ drop ! $ move ! (1 ∷ []) $
    use1 𝓛 (‵ (froom (ty_array (Rows.elτ E) (length xs)) b (o + Rows.sz E))) (rooms 𝓛 b xs (o + Rows.sz E)) $
    move ! (1 ∷ []) $ by ! (𝓛.laws.room_cons (Rows.elτ E) (length xs) b o)))

-- the reference by which the block is lent
abbrev pub block_as : (b o γ : ℕ) → List Cell → MutBor (List Cell)
block_as b o γ xs = record { ref_ptr = (b, o); ghost_name = γ; now = xs }

module _ {M : Type 1} {𝓤 : Ura M} (𝓛 : Logic 𝓤) (𝓜 : Model 𝓤 𝓛.H) (𝓡 : Running 𝓤 𝓛.H 𝓜) where
  abbrev 𝓣 : MachineTables 𝓤 𝓛.H 𝓜
  𝓣 = tables 𝓤 𝓛.H 𝓜 𝓡 𝓡.env

  abbrev spec : Contract 𝓤
  spec = triple_of 𝓛 fill.signature (fill.spec 𝓛 𝓜.mem 𝓡.returns)

  abbrev asked : (n b o : ℕ) → spec.Ghost
  asked n b o = ((tt, tt, tt, (block_ptr b o, (n, tt)), (vptr b o ∷ [], (uint_vals w64 n, tt))), tt)

  -- the call that fills it; then the cells are lent for a lifetime, and the right to have them back is had
  pub fills : {K : Type 0} {Γ : List (Item 𝓤)} → K → (κ : Lft) {E₁ : Env 𝓤 𝓛.H} {q : Post 𝓤 𝓛.H} {g : Callee} {xs : List Operand} {d : Place} {rest : Code} (n b o : ℕ) → n ≤ 16777216 → n < 2 ^ 64 → Triple 𝓤 (𝓣.C g) spec
      → Opds K 𝓛 (raw (spec.pre (asked n b o)) ∷ Γ) E₁ xs (vptr b o ∷ vint w64 n ∷ [])
      → ((v : Val) (xs : List Cell) (γ : ℕ) → v ≡ vunit → length xs ≡ n → Seq K 𝓛 (‵ ((MutSlice (named 0) κ C.the_row).own_val (block_as b o γ xs) (slice_val (b, o) n ∷ [])) ∷ ‵ (flent κ (Held C.the_row (length xs) b o γ)) ∷ Γ) (lands 𝓣.C 𝓣.Λ E₁ d v rest q))
      → Seq K 𝓛 (‵ (room_at (Array C.the_row n) (block_ptr b o)) ∷ Γ) (runs 𝓣.C 𝓣.Λ E₁ (seq (call g xs d) rest) q)
  fills t κ n b o le fn met opds k =
      use0 𝓛 (raw (fact 𝓤 (n ≤ 16777216))) (fact_i 𝓤 (n ≤ 16777216) (emp 𝓤) le) $ move t (1 ∷ 0 ∷ []) $ join t $
      nothing t $ owned t usize (Is usize) (uint_Makes 𝓛 w64) n _ (refl, fn) $ fjoin t $ feq_i t (List Val) (vptr b o ∷ []) (vptr b o ∷ []) refl $ fjoin t $
      nothing t $ join t $ join t $ use1 𝓛 (raw (spec.pre (asked n b o))) (id⊢ 𝓤 (spec.pre (asked n b o))) $
      calls_at t (framed 𝓤 𝓛.H 𝓜 𝓣) spec met (asked n b o) opds (λ v.
      use1 𝓛 (later (some (λ (r : Unit {0}). (‵ ftrue ⊛ ‵ (unit.own_val r (v ∷ []))) ⊛
      some (λ (ws : Unit {0} × (Unit {0} × Unit {0})). ‵ (lasts fill.ended tt (block_ptr b o, (n, tt)) ws) ⊛ ‵ (fex (List Cell) (λ xs. part_at (Array C.the_row n) full_share xs b o)))))) (id⊢ 𝓤 _) $
      await t tt $ pick t (λ r. split t $ split t $ drop t $ feq_l t (λ is_unit. pick t (λ ws. split t $ drop t $ fpick t (λ xs.
      use1 𝓛 (given (length xs ≡ n) (‵ (row (Rows.R E) full_share xs b o))) (Rows.apart E 𝓛 full_share n xs b o) $ learn t (λ ln.
      use1 𝓛 (‵ (cells (mem C.the_row) xs b o)) (whole_in 𝓛 C.the_row xs b o) $
      use1 𝓛 (later (some (λ (γ : ℕ). ‵ ((MutSlice (named 0) κ C.the_row).own_val (block_as b o γ xs) (slice_val (b, o) (length xs) ∷ [])) ⊛ ‵ (flent κ (Held C.the_row (length xs) b o γ)))))
      (lends_slice 𝓛 C.the_row (named 0) κ xs b o (omega arith, omega arith)) $ await t tt $ pick t (λ γ. split t $
      rewrite t 0 (λ (j : ℕ). ‵ ((MutSlice (named 0) κ C.the_row).own_val (block_as b o γ xs) (slice_val (b, o) j ∷ []))) ln refl $ k v xs γ (ap only is_unit) ln)))))))

module _ {M : Type 1} (𝓤' : Ura M) (𝓛 : Logic 𝓤') where
  -- cells that lie at a block are lent for a lifetime, and the right to have them back is had
  pub lends_cells : {K : Type 0} {Γ : List (Item 𝓤')} → K → (κ : Lft) {Cs : Calls 𝓤' 𝓛.H} {Λ : Loops 𝓤' 𝓛.H} {E₁ : Env 𝓤' 𝓛.H} {q : Post 𝓤' 𝓛.H} {rest : Code} (n b o : ℕ) (xs : List Cell) → n ≤ 16777216
      → ((γ : ℕ) → length xs ≡ n → Seq K 𝓛 (‵ ((MutSlice (named 0) κ C.the_row).own_val (block_as b o γ xs) (slice_val (b, o) n ∷ [])) ∷ ‵ (flent κ (Held C.the_row (length xs) b o γ)) ∷ Γ) (runs Cs Λ E₁ rest q))
      → Seq K 𝓛 (‵ (part_at (Array C.the_row n) full_share xs b o) ∷ Γ) (runs Cs Λ E₁ rest q)
  lends_cells t κ n b o xs le k =
      use1 𝓛 (given (length xs ≡ n) (‵ (row (Rows.R E) full_share xs b o))) (Rows.apart E 𝓛 full_share n xs b o) $ learn t (λ ln.
      use1 𝓛 (‵ (cells (mem C.the_row) xs b o)) (whole_in 𝓛 C.the_row xs b o) $
      use1 𝓛 (later (some (λ (γ : ℕ). ‵ ((MutSlice (named 0) κ C.the_row).own_val (block_as b o γ xs) (slice_val (b, o) (length xs) ∷ [])) ⊛ ‵ (flent κ (Held C.the_row (length xs) b o γ)))))
      (lends_slice 𝓛 C.the_row (named 0) κ xs b o (omega arith, omega arith)) $ await t tt $ pick t (λ γ. split t $
      rewrite t 0 (λ (j : ℕ). ‵ ((MutSlice (named 0) κ C.the_row).own_val (block_as b o γ xs) (slice_val (b, o) j ∷ []))) ln refl $ k γ ln))

-- cells that lie at a block are room for as many
pub room_again : {M : Type 1} {𝓤 : Ura M} (𝓛 : Logic 𝓤) (n b o : ℕ) (xs : List Cell) → ent 𝓤 (sem 𝓛 (part_at (Array C.the_row n) full_share xs b o)) (sem 𝓛 (room_at (Array C.the_row n) (block_ptr b o)))
room_again 𝓛 n b o xs =
    qed 𝓛 (‵ (part_at (Array C.the_row n) full_share xs b o) ∷ []) ∵
    use1 𝓛 (given (length xs ≡ n) (‵ (row (Rows.R E) full_share xs b o))) (Rows.apart E 𝓛 full_share n xs b o) $ learn ! (λ ln.
    use1 𝓛 (‵ (froom (ty_array (Rows.elτ E) (length xs)) b o)) (rooms 𝓛 b xs o) $
    rewrite ! 0 (λ (j : ℕ). ‵ (froom (ty_array (Rows.elτ E) j) b o)) ln refl $ done !)
