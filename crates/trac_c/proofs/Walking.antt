-- What the walks of the exports cite, and the steps that they share. Assumes `Logic`.
pub use Prim.Native.Nat.{ℕ, suc, ◌+◌, ◌-◌, ◌*◌, ◌≤◌, ◌<◌, ◌^◌}
pub use native.Mathlib.Omega.{arith}
pub use mathlib.Core.Path.{◌≡◌, refl, ap, subst, ◌∙◌}
pub use mathlib.Core.List.{List, [], ◌∷◌, ◌++◌, not-mem-nil}
pub use mathlib.Core.Logic.{inl, inr}
pub use lib.Dec.{eqb_refl, lit<, ltb→lt, nltb→le}
pub use lib.ListN.{length}
pub use seplogic.Ra.Ura.{Ura}
pub use base.Fml.{Fml, Lft, fat, ftrue, fsep, flft, flent, froom, fex, fres, fbor, Incl-refl}
pub use base.Fraction.{full_share}
pub use base.Logic.{SProp, ent, id⊢, via, guard_i, mono_l, comm∗, wand, wand_i, apply∗, sep, ex, ex_i, emp}
pub use contract.Monad.{fact, fact_i}
pub use contract.Running.{Running, MachineTables, tables}
pub use denote.Array.{Array}
pub use denote.Builtin.{RefOf, RefMutOf, SliceRefMutOf, SliceRefOf, usize, u8, u32, u64, unit}
pub use denote.Exit.{yes}
pub use denote.Index.{row, whole_in, whole_out}
pub use denote.Laws.{Is, shows, Lawful, Typed, Spells, Tellss, Ises, Are, valss}
pub use denote.Lend.{Held, lends_ref, ref_back, lends_shr, lends_slice, slice_back}
pub use denote.Memory.{mem, part_at}
pub use denote.Plain.{UInt, uint_vals, uint_Tells, uint_Makes, uint_Lawful, Nothing-Lawful}
pub use denote.RattleType.{RattleType}
pub use denote.RawPtr.{Ptr, RawPtr, block_ptr, rawptr_vals, rawptr_Tells, in_a_block, lies_at, room_at}
pub use denote.Ref.{Bor, MutBor, MutRef, ShrRef}
pub use denote.Signature.{Slot, AllWithin, plain, static_lft, types_at, type_at}
pub use denote.Slice.{MutSlice, mut_slice_vals, mut_slice_Tells, finally, res-finally, heres, coded_holeys, ShrSlice, slice_val, shr_slice_vals, shr_slice_Tells}
pub use denote.Steps.{nothing, owned, peeks, heard, only, said}
pub use denote.Triple.Call.{calls_at}
pub use denote.Triple.Clauses.{Ended, Clauses, closing, ensured, lasts, Lasts, AtExit, at_exit}
pub use denote.Triple.Entry.{Args, Vals, Res, alive, on_entry}
pub use denote.Triple.End.{Kepts, Fins, Outs, outs, lasts_of}
pub use denote.Triple.Spec.{Meets, triple_of}
pub use denote.Triple.Statement.{Contract, Triple}
pub use denote.Triple.Table.{entered, framed}
pub use denote.Triple.Walked.{Stays, stay_dropped, gave_slice, walk_of, ends_at, says, Goes-dropped, Goes-gave_slice}
pub use mir.Syntax.{Fn, Callee, Place, Opd as Operand, Body as Code, int_big, Ty, Width, w8, w32, w64, Lifetime, named, erased, mut, imm, Local, local, value_local, ty_int, ty_ptr, ty_ref, ty_struct, ty_array, tcons, tnil, place, field, deref, copy, rv_opd, addr_of, aggregate, assign, call, seq, return}
pub use mir.Val.{Val, Fits, vptr, vint, vunit, vstruct, vcons, vnil, bytes, has_ty, WT}
pub use prog.Model.{Model}
pub use prog.Wp.{Env, Calls, Loops, WpFn, Closed, Out, Wp, at_return, after_seq, after_block}
pub use sound.WpLaws.{FmC}
pub use types.ByLocal.{alloc_all, pass_all, free_all, look_at, look_in_at, get, get_in, sets, sets_last, lands_as, through, env, holding, forget_but}
pub use types.Kit.{Item, Seq, Sq, Post, ‵, raw, ◌⊛◌, some, later, prop, runs, lands, mean, ◌$◌, ◌∵◌, !, qed, move, drop, use0, use1, use2, use3, join, split, pick, given, learn, await, rewrite, regoal, fsplit, fjoin, fpick, fpack, feq_i, feq_l, suffices, frame, group, done, by, show, any_q, at_ret}
pub use types.Logic.{Logic, sem}
pub use types.Part.{agg, whole, sub}
pub use types.Run.{Opd, Opds, stop, fld, hop, from, addr, no_more, and_then, returns, returns_within, enter, of_opd, lit, bin, unit_lit, init, assigns, first, blocks, skips, jumps, branches, exec, loops, again, Below}
pub use types.SemTy.{Body, Arr, cells}
pub use types.Tokens.{lft_new, lft_end, lent_back}
pub use Rattle.std.proofs.raw_atomic.Walks.{proved}
pub use Rattle.trac_core.specs.Machine.{MachineState, fresh_machine}
pub use Rattle.trac_space.specs.declared.cell.Cell.{Cell}
pub use contract.Lifetimes.{Lfts, Shares}
pub use denote.RattleType.{flat, owns, Denots}
use Rattle.trac_core.specs.contracts.machine.Machine as M
use Rattle.trac_core.proofs.machine.Machine.TheLaws.{the_row_laws}

-- a machine, as its type denotes it
abbrev pub machine : RattleType
machine = M.the_row static_lft

-- the parameters behind the first
abbrev pub behind : {n : ℕ} → List (Slot n) → List (Slot n)
behind [] = []
behind (s ∷ ss) = ss

-- the reference by which a machine is lent
abbrev pub lent_as : (b o γ : ℕ) → MachineState → MutBor MachineState
lent_as b o γ m = record { ref_ptr = (b, o); ghost_name = γ; now = m }

-- the reference by which a machine is shown
abbrev pub shown_as : (b o : ℕ) → MachineState → Bor MachineState
shown_as b o m = record { ref_ptr = (b, o); now = m }

module _ {M : Type 1} {𝓤 : Ura M} (𝓛 : Logic 𝓤) where
  open 𝓛 use {H}

  -- what a call owes at its end
  abbrev pub Owed : (T : Ended) (c : Clauses 𝓤 T) (κs : Lfts T.signature.lifetimes) → Shares T.signature.lifetimes → (a : Args T.signature κs) → (c κs a).ghost → Val → SProp 𝓤
  Owed T c κs qs a g v = H.⇛ (ex 𝓤 (λ (r : Res T.signature κs). sep 𝓤 (sep 𝓤 (alive 𝓛 T.signature κs qs) (sem 𝓛 ((type_at T.signature.result κs).own_val r (v ∷ [])))) (ensured 𝓛 T c κs a g r)))

  -- a walk proves a contract
  pub meets_by : (𝓜 : Model 𝓤 H) (𝓡 : Running 𝓤 H 𝓜) (T : Ended) (c : Clauses 𝓤 T) (k : Callee) (e : Fn) → Closed 𝓤 H (tables 𝓤 H 𝓜 𝓡 𝓡.env).C (tables 𝓤 H 𝓜 𝓡 𝓡.env).Λ k e
      → (sp : (κs : Lfts T.signature.lifetimes) → Spells (types_at T.signature.params κs)) → ((κs : Lfts T.signature.lifetimes) → Tellss (types_at T.signature.params κs) (Ises (types_at T.signature.params κs)) (sp κs))
      → ((κs : Lfts T.signature.lifetimes) (qs : Shares T.signature.lifetimes) (a : Args T.signature κs) (g : (c κs a).ghost)
      → Are (types_at T.signature.params κs) (Ises (types_at T.signature.params κs)) a (valss (types_at T.signature.params κs) (sp κs) a)
      → ent 𝓤 (sep 𝓤 (on_entry 𝓛 T.signature κs qs a (valss (types_at T.signature.params κs) (sp κs) a)) ((c κs a).requires g)) (WpFn 𝓤 H (tables 𝓤 H 𝓜 𝓡 𝓡.env).C (tables 𝓤 H 𝓜 𝓡 𝓡.env).Λ e (flat (types_at T.signature.params κs) (valss (types_at T.signature.params κs) (sp κs) a)) (Owed T c κs qs a g)))
      → Meets 𝓛 T.signature ((tables 𝓤 H 𝓜 𝓡 𝓡.env).C k) (closing 𝓛 T c)
  meets_by 𝓜 𝓡 T c k e closed sp tells walk =
      let 𝓣 = tables 𝓤 H 𝓜 𝓡 𝓡.env in
      entered 𝓤 H (triple_of 𝓛 T.signature (closing 𝓛 T c)) 𝓣.C 𝓣.Λ k e closed (λ y.
      let Rs = types_at T.signature.params y.0.0 in let P = (c y.0.0 y.0.3).requires y.1 in
      let Q : Vals T.signature y.0.0 → SProp 𝓤 = λ us. WpFn 𝓤 H 𝓣.C 𝓣.Λ e (flat Rs us) (Owed T c y.0.0 y.0.1 y.0.3 y.1) in
      via 𝓤 _ (mono_l 𝓤 P (said 𝓛 T.signature y.0.0 y.0.1 (sp y.0.0) (tells y.0.0) y.0.3 (λ us. wand 𝓤 P (Q us)) y.0.4 (λ are. wand_i 𝓤 _ P _ (walk y.0.0 y.0.1 y.0.3 y.1 are))))
      (via 𝓤 _ (comm∗ 𝓤 (wand 𝓤 P (Q y.0.4)) P) (apply∗ 𝓤 P (Q y.0.4))))

  -- a function of C that asks for a machine at the place that its first parameter points to
  module _ (n : ℕ) (ss : List (Slot n)) (ks : Kepts ss) (res : Slot n) where
    abbrev pub Holding : Ended
    Holding = record { signature = record { lifetimes = n; outlives = []; params = plain (λ κs. RawPtr) ∷ ss; result = res }; kept = (yes, ks) }

    abbrev pub Ensures : Type 2
    Ensures = (κs : Lfts n) (a : Args Holding.signature κs) → MachineState → Res Holding.signature κs → AtExit Holding κs → SProp 𝓤

    abbrev pub holding_clauses : Ensures → Clauses 𝓤 Holding
    holding_clauses ensures κs a = record { ghost = MachineState; requires = λ m. sem 𝓛 (lies_at machine full_share a.0 m); ensures = ensures κs a }

    pub meets_holding : (𝓜 : Model 𝓤 H) (𝓡 : Running 𝓤 H 𝓜) (ensures : Ensures) (k : Callee) (e : Fn) → Closed 𝓤 H (tables 𝓤 H 𝓜 𝓡 𝓡.env).C (tables 𝓤 H 𝓜 𝓡 𝓡.env).Λ k e
        → (sp : (κs : Lfts n) → Spells (types_at ss κs)) → ((κs : Lfts n) → Tellss (types_at ss κs) (Ises (types_at ss κs)) (sp κs))
        → ((κs : Lfts n) (qs : Shares n) (a : Denots (types_at ss κs)) (m : MachineState) → Are (types_at ss κs) (Ises (types_at ss κs)) a (valss (types_at ss κs) (sp κs) a) → (b o : ℕ)
        → Sq 𝓛 (‵ (lies_at machine full_share (block_ptr b o) m) ∷ ‵ (owns (types_at ss κs) a (valss (types_at ss κs) (sp κs) a)) ∷ raw (alive 𝓛 Holding.signature κs qs) ∷ [])
        (prop (WpFn 𝓤 H (tables 𝓤 H 𝓜 𝓡 𝓡.env).C (tables 𝓤 H 𝓜 𝓡 𝓡.env).Λ e (vptr b o ∷ flat (types_at ss κs) (valss (types_at ss κs) (sp κs) a)) (Owed Holding (holding_clauses ensures) κs qs (block_ptr b o, a) m))))
        → Meets 𝓛 Holding.signature ((tables 𝓤 H 𝓜 𝓡 𝓡.env).C k) (closing 𝓛 Holding (holding_clauses ensures))
    meets_holding 𝓜 𝓡 ensures k e closed sp tells walk =
        let 𝓣 = tables 𝓤 H 𝓜 𝓡 𝓡.env in
        meets_by 𝓜 𝓡 Holding (holding_clauses ensures) k e closed (λ κs. (rawptr_vals, sp κs)) (λ κs. (rawptr_Tells, tells κs)) (λ κs qs a m are.
        let us = valss (types_at ss κs) (sp κs) a.1 in
        qed 𝓛 ((raw (alive 𝓛 Holding.signature κs qs) ⊛ ‵ (fsep (RawPtr.own_val a.0 (rawptr_vals a.0)) (owns (types_at ss κs) a.1 us))) ∷ ‵ (lies_at machine full_share a.0 m) ∷ []) ∵
        split ! $ move ! (1 ∷ []) $ fsplit ! $ drop ! $ move ! (2 ∷ 0 ∷ 1 ∷ []) $
        in_a_block ! a.0 (λ p. lies_at machine full_share p m) (id⊢ 𝓤 _) (λ b o e'.
        regoal ! (λ p. prop (WpFn 𝓤 H 𝓣.C 𝓣.Λ e (rawptr_vals p ++ flat (types_at ss κs) us) (Owed Holding (holding_clauses ensures) κs qs (p, a.1) m))) e' refl $
        walk κs qs a.1 m are.1 b o))

module _ {M : Type 1} {𝓤 : Ura M} {𝓛 : Logic 𝓤} {K : Type 0} where
  -- what is owed at the end: the tokens, the result, what says the last values, and what the contract ensures, which is made of one item
  pub gives : K → (T : Ended) (c : Clauses 𝓤 T) (κs : Lfts T.signature.lifetimes) (qs : Shares T.signature.lifetimes) (a : Args T.signature κs) (g : (c κs a).ghost) (v : Val) (r : Res T.signature κs) (ws : Lasts T κs a) {X : Item 𝓤} → ent 𝓤 (mean 𝓛 X) ((c κs a).ensures g r (at_exit T κs a ws))
      → Seq K 𝓛 (‵ ((type_at T.signature.result κs).own_val r (v ∷ [])) ∷ X ∷ ‵ (lasts T κs a ws) ∷ raw (alive 𝓛 T.signature κs qs) ∷ []) (prop (Owed 𝓛 T c κs qs a g v))
  gives t T c κs qs a g v r ws {X} ensures =
      suffices t _ (𝓛.laws.⇛_intro _) $ show t (λ (r : Res T.signature κs). sep 𝓤 (sep 𝓤 (alive 𝓛 T.signature κs qs) (sem 𝓛 ((type_at T.signature.result κs).own_val r (v ∷ [])))) (ensured 𝓛 T c κs a g r)) r $
      move t (3 ∷ 0 ∷ []) $ join t $ frame t $ show t (λ (ws : Lasts T κs a). sep 𝓤 (sem 𝓛 (lasts T κs a ws)) ((c κs a).ensures g r (at_exit T κs a ws))) ws $
      move t (1 ∷ []) $ frame t $ by t ensures

module _ {M : Type 1} {𝓤 : Ura M} {𝓛 : Logic 𝓤} {K : Type 0} {Γ : List (Item 𝓤)} where
  -- a call to which that machine is lent, for a lifetime that is made for the call: it is had again, as the call leaves it, once that is ended
  pub lends : K → {C : Calls 𝓤 𝓛.H} {Λ : Loops 𝓤 𝓛.H} → FmC 𝓤 𝓛.H 𝓛.laws C → {E : Env 𝓤 𝓛.H} {q : Post 𝓤 𝓛.H} {g : Callee} {xs : List Operand} {d : Place} {rest : Code} (b o : ℕ) (m : MachineState) (Rest : Fml) (tokens : Item 𝓤) (T : RattleType) → Lawful 𝓛 T → (Z : Type 0) (Last : Z → Fml) (Says : T.Denot → MachineState → Z → Type 0) (c : Contract 𝓤) → Triple 𝓤 (C g) c → (x : (α γ : ℕ) → c.Ghost)
      → ((α γ : ℕ) → ent 𝓤 (mean 𝓛 (((‵ (flft (α ∷ []) full_share) ⊛ tokens) ⊛ ‵ (fsep ((MutRef (named 0) (α ∷ []) machine).own_val (lent_as b o γ m) (vptr b o ∷ [])) Rest)) ⊛ ‵ ftrue)) (c.pre (x α γ)))
      → ((α γ : ℕ) (v : Val) → ent 𝓤 (c.post (x α γ) v) (mean 𝓛 (later (some (λ (r : T.Denot). ((‵ (flft (α ∷ []) full_share) ⊛ tokens) ⊛ ‵ (T.own_val r (v ∷ []))) ⊛ some (λ (zs : MachineState × Z). ‵ (fsep (fsep (fres γ (machine.coded.code zs.0)) (fbor (α ∷ []) (Body (mem machine) b o γ))) (Last zs.1)) ⊛ raw (fact 𝓤 (Says r zs.0 zs.1))))))))
      → ((α γ : ℕ) → Opds K 𝓛 (raw (c.pre (x α γ)) ∷ ‵ (flent (α ∷ []) (Body (mem machine) b o γ)) ∷ Γ) E xs (c.args (x α γ)))
      → ((v : Val) → (r : T.Denot) (after : MachineState) (z : Z) → Says r after z → Is T r (v ∷ []) → Typed T.mir (v ∷ []) → Seq K 𝓛 (‵ (T.own_val r (v ∷ [])) ∷ ‵ (lies_at machine full_share (block_ptr b o) after) ∷ ‵ (fsep ftrue (Last z)) ∷ tokens ∷ Γ) (lands C Λ E d v rest q))
      → Seq K 𝓛 (‵ (lies_at machine full_share (block_ptr b o) m) ∷ ‵ Rest ∷ tokens ∷ Γ) (runs C Λ E (seq (call g xs d) rest) q)
  lends t framed b o m Rest tokens T lawful Z Last Says c met x asks answers opds k =
      lft_new t tt (λ α. let κ : Lft = α ∷ [] in move t (1 ∷ []) $
      use1 𝓛 (later (some (λ (γ : ℕ). ‵ ((MutRef (named 0) κ machine).own_val (lent_as b o γ m) (vptr b o ∷ [])) ⊛ ‵ (flent κ (Body (mem machine) b o γ))))) (lends_ref 𝓛 machine (named 0) κ m b o) $
      await t tt $ pick t (λ γ. split t $
      -- [the loan; the right to the machine; the token of κ; what else is passed; the other tokens]
      move t (0 ∷ 3 ∷ []) $ fjoin t $ move t (2 ∷ 3 ∷ 0 ∷ []) $ join t $ join t $ nothing t $ move t (1 ∷ 0 ∷ []) $ join t $
      use1 𝓛 (raw (c.pre (x α γ))) (asks α γ) $ calls_at t framed c met (x α γ) (opds α γ) (λ v.
      use1 𝓛 (later (some (λ (r : T.Denot). ((‵ (flft κ full_share) ⊛ tokens) ⊛ ‵ (T.own_val r (v ∷ []))) ⊛ some (λ (zs : MachineState × Z). ‵ (fsep (fsep (fres γ (machine.coded.code zs.0)) (fbor κ (Body (mem machine) b o γ))) (Last zs.1)) ⊛ raw (fact 𝓤 (Says r zs.0 zs.1)))))) (answers α γ v) $
      await t tt $ pick t (λ r. split t $ split t $ split t $ lft_end t tt $ move t (3 ∷ []) $ pick t (λ zs. split t $ move t (1 ∷ []) $ heard t _ (λ told.
      -- [what says the last values; κ is over; the other tokens; the result; the right to the machine]
      fsplit t $ fsplit t $ move t (1 ∷ []) $ drop t $ move t (2 ∷ 5 ∷ 0 ∷ []) $
      use3 𝓛 (later (‵ ((mem machine).own_at zs.0 b o))) (ref_back 𝓛 machine κ γ zs.0 b o) $ await t tt $
      move t (1 ∷ []) $ nothing t $ fjoin t $ move t (3 ∷ 1 ∷ []) $ peeks t T (Is T) (shows 𝓛 T) r (v ∷ []) (λ is. k v r zs.0 zs.1 told is (lawful.typed r (v ∷ []) is))))))))

  -- a call to which that machine is shown, by a shared reference: it is had again as it was
  pub shows_to : K → {C : Calls 𝓤 𝓛.H} {Λ : Loops 𝓤 𝓛.H} → FmC 𝓤 𝓛.H 𝓛.laws C → {E : Env 𝓤 𝓛.H} {q : Post 𝓤 𝓛.H} {g : Callee} {xs : List Operand} {d : Place} {rest : Code} (b o : ℕ) (m : MachineState) (Rest : Fml) (tokens : Item 𝓤) (T : RattleType) → Lawful 𝓛 T → (Z : Type 0) (Last : Z → Fml) (Says : T.Denot → Z → Type 0) (c : Contract 𝓤) → Triple 𝓤 (C g) c → (x : ℕ → c.Ghost)
      → ((α : ℕ) → ent 𝓤 (mean 𝓛 (((‵ (flft (α ∷ []) full_share) ⊛ tokens) ⊛ ‵ (fsep ((ShrRef (named 0) (α ∷ []) machine).own_val (shown_as b o m) (vptr b o ∷ [])) Rest)) ⊛ ‵ ftrue)) (c.pre (x α)))
      → ((α : ℕ) (v : Val) → ent 𝓤 (c.post (x α) v) (mean 𝓛 (later (some (λ (r : T.Denot). ((‵ (flft (α ∷ []) full_share) ⊛ tokens) ⊛ ‵ (T.own_val r (v ∷ []))) ⊛ some (λ (zs : Unit {0} × Z). ‵ (fsep ftrue (Last zs.1)) ⊛ raw (fact 𝓤 (Says r zs.1))))))))
      → ((α : ℕ) → Opds K 𝓛 (raw (c.pre (x α)) ∷ ‵ (flent (α ∷ []) (part_at machine full_share m b o)) ∷ Γ) E xs (c.args (x α)))
      → ((v : Val) → (r : T.Denot) (z : Z) → Says r z → Is T r (v ∷ []) → Typed T.mir (v ∷ []) → Seq K 𝓛 (‵ (T.own_val r (v ∷ [])) ∷ ‵ (lies_at machine full_share (block_ptr b o) m) ∷ ‵ (fsep ftrue (Last z)) ∷ tokens ∷ Γ) (lands C Λ E d v rest q))
      → Seq K 𝓛 (‵ (lies_at machine full_share (block_ptr b o) m) ∷ ‵ Rest ∷ tokens ∷ Γ) (runs C Λ E (seq (call g xs d) rest) q)
  shows_to t framed b o m Rest tokens T lawful Z Last Says c met x asks answers opds k =
      lft_new t tt (λ α. let κ : Lft = α ∷ [] in move t (1 ∷ 0 ∷ []) $
      use2 𝓛 (later ((‵ ((ShrRef (named 0) κ machine).own_val (shown_as b o m) (vptr b o ∷ [])) ⊛ ‵ (flent κ (part_at machine full_share m b o))) ⊛ ‵ (flft κ full_share)))
      (lends_shr 𝓛 machine (named 0) κ full_share m b o [] ((the_row_laws static_lft).shares 𝓛 m) ((κ, full_share) ∷ []) (λ a none. absurd (not-mem-nil none)) (Incl-refl κ)) $
      await t tt $ split t $ split t $
      -- [the reference; the right to the machine; the token of κ; what else is passed; the other tokens]
      move t (0 ∷ 3 ∷ []) $ fjoin t $ move t (2 ∷ 3 ∷ 0 ∷ []) $ join t $ join t $ nothing t $ move t (1 ∷ 0 ∷ []) $ join t $
      use1 𝓛 (raw (c.pre (x α))) (asks α) $ calls_at t framed c met (x α) (opds α) (λ v.
      use1 𝓛 (later (some (λ (r : T.Denot). ((‵ (flft κ full_share) ⊛ tokens) ⊛ ‵ (T.own_val r (v ∷ []))) ⊛ some (λ (zs : Unit {0} × Z). ‵ (fsep ftrue (Last zs.1)) ⊛ raw (fact 𝓤 (Says r zs.1)))))) (answers α v) $
      await t tt $ pick t (λ r. split t $ split t $ split t $ lft_end t tt $ move t (3 ∷ []) $ pick t (λ zs. split t $ move t (1 ∷ []) $ heard t _ (λ told.
      -- [what says the last values; κ is over; the other tokens; the result; the right to the machine]
      move t (1 ∷ 4 ∷ []) $ lent_back t tt $ move t (3 ∷ 0 ∷ []) $ peeks t T (Is T) (shows 𝓛 T) r (v ∷ []) (λ is. k v r zs.1 told is (lawful.typed r (v ∷ []) is)))))))
