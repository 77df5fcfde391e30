-- A call of C that only looks at the machine that it keeps: the machine is shown by a shared reference. Assumes `Logic`.
use Rattle.trac_c.proofs.Walking.{ℕ, suc, refl, List, [], ◌∷◌, eqb_refl, Ura, ftrue, fsep, full_share, id⊢, sep, emp, fact, Running, MachineTables, tables, RefOf, SliceRefMutOf, usize, yes, UInt, uint_vals, uint_Tells, uint_Lawful, block_ptr, lies_at, Slot, AllWithin, plain, types_at, mut_slice_vals, mut_slice_Tells, Ended, Clauses, closing, lasts, alive, Kepts, Fins, Outs, outs, lasts_of, Meets, framed, says, Fn, Callee, Code, Ty, Width, w64, Lifetime, named, erased, mut, imm, Local, local, value_local, ty_int, ty_ptr, ty_ref, ty_struct, tcons, tnil, place, field, deref, copy, rv_opd, addr_of, aggregate, assign, call, seq, return, Val, vptr, bytes, Model, Closed, alloc_all, pass_all, free_all, look_at, look_in_at, get, get_in, sets, lands_as, through, Sq, ‵, raw, prop, ◌$◌, ◌∵◌, !, qed, done, Logic, sem, agg, whole, sub, stop, fld, hop, from, addr, no_more, and_then, returns, enter, of_opd, MachineState, Lfts, Shares, Denots, machine, shown_as, Owed, Holding, Ensures, holding_clauses, meets_holding, gives, shows_to}
use Rattle.trac_c.specs.Buffers.{Lays}

-- a machine that is shown for the first lifetime, a buffer that is lent for one, and a buffer as MIR has it
abbrev lent : {n : ℕ} → Slot (suc n)
lent = RefOf (0 ∷ []) tt (plain (λ κs. machine)) (λ κs. tt)

abbrev buffer : Lifetime → Width → Ty
buffer ν w = ty_struct (38 ∷ 91 ∷ 93 ∷ []) (tcons (ty_ref ν mut (ty_int w)) (tcons (ty_int w64) tnil))

abbrev filled : {n : ℕ} (j : ℕ) → AllWithin n (j ∷ []) → Width → Slot n
filled j ok w = SliceRefMutOf (j ∷ []) ok (plain (λ κs. UInt w)) (λ κs. tt)

abbrev var : Ty → Local
var τ = local τ value_local

abbrev routine : (lifetimes params : ℕ) → List Local → Code → Fn
routine lifetimes params locals body = record { lifetimes = lifetimes; outlives = []; ty_params = []; givens = 0; params = params; locals = locals; body = body }

-- the pointer that was passed becomes a reference
abbrev refers : ℕ → Ty → Code → Code
refers i τ rest = seq (assign (place i []) (rv_opd (copy (place 1 [])))) (seq (assign (place (suc i) []) (addr_of (place i (deref τ ∷ [])))) rest)

-- a buffer that was passed is lent again
abbrev relends : (buffer i : ℕ) → Width → Code → Code
relends j i w rest =
    seq (assign (place i []) (addr_of (place j (field 0 ∷ deref (ty_int w) ∷ []))))
    (seq (assign (place (suc i) []) (aggregate (copy (place i []) ∷ copy (place j (field 1 ∷ [])) ∷ []))) rest)

module _ {M : Type 1} (𝓤 : Ura M) (𝓛 : Logic 𝓤) (𝓜 : Model 𝓤 𝓛.H) (𝓡 : Running 𝓤 𝓛.H 𝓜) where
  abbrev 𝓣 : MachineTables 𝓤 𝓛.H 𝓜
  𝓣 = tables 𝓤 𝓛.H 𝓜 𝓡 𝓡.env

  -- what is said of a machine and an answer, by the parameters behind the machine before and after the call
  abbrev Saying : (n : ℕ) (ss : List (Slot n)) → Kepts ss → Type 1
  Saying n ss ks = (κs : Lfts n) → Denots (types_at ss κs) → MachineState → ℕ → Outs κs ss ks → Type 0

  -- the look at a machine that is lent, whose answer is a number of this width
  module _ (n : ℕ) (ss : List (Slot (suc n))) (ks : Kepts ss) (w : Width) (Says : Saying (suc n) ss ks) where
    abbrev on : Ended
    on = record { signature = record { lifetimes = suc n; outlives = []; params = lent ∷ ss; result = plain (λ κs. UInt w) }; kept = (yes, ks) }

    abbrev on_clauses : Clauses 𝓤 on
    on_clauses κs a = record { ghost = Unit {0}; requires = λ g. emp 𝓤; ensures = λ g r e. fact 𝓤 (Says κs a.1 a.0.now r e.1) }

    abbrev Looks : Callee → Type 1
    Looks g = Meets 𝓛 on.signature (𝓣.C g) (closing 𝓛 on on_clauses)

  -- the call of C, and its end
  module _ (n : ℕ) (ss : List (Slot n)) (ks : Kepts ss) (w : Width) (Says : Saying n ss ks) where
    abbrev f : Ended
    f = Holding 𝓛 n ss ks (plain (λ κs. UInt w))

    abbrev ensures : Ensures 𝓛 n ss ks (plain (λ κs. UInt w))
    ensures κs a m r e = sep 𝓤 (sem 𝓛 (lies_at machine full_share a.0 m)) (fact 𝓤 (Says κs a.1 m r e.1))

    abbrev c : Clauses 𝓤 f
    c = holding_clauses 𝓛 n ss ks (plain (λ κs. UInt w)) ensures

    abbrev Called : Callee → Type 1
    Called k = Meets 𝓛 f.signature (𝓣.C k) (closing 𝓛 f c)

    looked : (κs : Lfts n) (qs : Shares n) (a : Denots (types_at ss κs)) (m : MachineState) (b o : ℕ) (v : Val) (r : ℕ) (ws : Fins κs ss ks a) → Says κs a m r (outs κs ss ks a ws)
        → Sq 𝓛 (‵ ((UInt w).own_val r (v ∷ [])) ∷ ‵ (lies_at machine full_share (block_ptr b o) m) ∷ ‵ (lasts f κs (block_ptr b o, a) (tt, ws)) ∷ raw (alive 𝓛 f.signature κs qs) ∷ []) (prop (Owed 𝓛 f c κs qs (block_ptr b o, a) m v))
    looked κs qs a m b o v r ws told =
        gives ! f c κs qs (block_ptr b o, a) m v r (tt, ws) (qed 𝓛 (‵ (lies_at machine full_share (block_ptr b o) m) ∷ []) ∵ says ! told $ done !)

  -- nothing else is passed
  module _ (w : Width) (Says : MachineState → ℕ → Type 0) (T₁ T₂ : Ty) (g : Callee) where
    abbrev code : Fn
    code = routine 0 1 (var (ty_int w) ∷ var ty_ptr ∷ var ty_ptr ∷ var (ty_ref erased imm T₁) ∷ []) (refers 2 T₂ (seq (call g (copy (place 3 []) ∷ []) (place 0 [])) return))

    pub looks : (k : Callee) → Closed 𝓤 𝓛.H 𝓣.C 𝓣.Λ k code → Looks 0 [] tt w (λ κs a m r e. Says m r) g → Called 0 [] tt w (λ κs a m r e. Says m r) k
    looks k closed met =
        meets_holding 𝓛 0 [] tt (plain (λ κs. UInt w)) 𝓜 𝓡 (ensures 0 [] tt w (λ κs a m r e. Says m r)) k code closed (λ κs. tt) (λ κs. tt) (λ κs qs a m are b o.
        enter ! _ _ _ _ _ $ alloc_all ! (λ l. pass_all ! refl ((tt, tt), tt) $
        sets ! (of_opd ! (get ! refl)) refl (tt, tt) $ sets ! (addr ! (through ! refl (stop !))) refl (tt, tt) $
        shows_to ! (framed 𝓤 𝓛.H 𝓜 𝓣) b o m _ _ (UInt w) (uint_Lawful 𝓛 w) (Unit {0}) (λ z. ftrue) (λ r z. Says m r) _ met
        (λ α. (((α ∷ [], tt), (full_share, tt), tt, (shown_as b o m, tt), (vptr b o ∷ [], tt)), tt))
        (λ α. id⊢ 𝓤 _) (λ α v. id⊢ 𝓤 _) (λ α. and_then ! (get ! refl) (no_more !)) (λ v r z told is typed.
        lands_as ! refl refl typed.0 $ returns ! (look_at ! 0 refl) $ free_all ! refl $ looked 0 [] tt w (λ κs a m r e. Says m r) κs qs a m b o v r z told)))

  -- a number of this width
  module _ (w : Width) (Says : ℕ → MachineState → ℕ → Type 0) (T₁ T₂ : Ty) (g : Callee) where
    abbrev number : {n : ℕ} → List (Slot n)
    number = plain (λ κs. UInt w) ∷ []

    abbrev code_by : Fn
    code_by =
        routine 0 2 (var (ty_int w64) ∷ var ty_ptr ∷ var (ty_int w) ∷ var ty_ptr ∷ var (ty_ref erased imm T₁) ∷ [])
        (refers 3 T₂ (seq (call g (copy (place 4 []) ∷ copy (place 2 []) ∷ []) (place 0 [])) return))

    pub looks_by : (k : Callee) → Closed 𝓤 𝓛.H 𝓣.C 𝓣.Λ k code_by → Looks 0 number (yes, tt) w64 (λ κs a m r e. Says a.0 m r) g → Called 0 number (yes, tt) w64 (λ κs a m r e. Says a.0 m r) k
    looks_by k closed met =
        meets_holding 𝓛 0 number (yes, tt) (plain (λ κs. usize)) 𝓜 𝓡 (ensures 0 number (yes, tt) w64 (λ κs a m r e. Says a.0 m r)) k code_by closed (λ κs. (uint_vals w, tt)) (λ κs. (uint_Tells w, tt)) (λ κs qs a m are b o.
        enter ! _ _ _ _ _ $ alloc_all ! (λ l. pass_all ! refl ((tt, tt), ((eqb_refl (bytes w), record { fits = are.0.1 }), tt)) $
        sets ! (of_opd ! (get ! refl)) refl (tt, tt) $ sets ! (addr ! (through ! refl (stop !))) refl (tt, tt) $
        shows_to ! (framed 𝓤 𝓛.H 𝓜 𝓣) b o m _ _ usize (uint_Lawful 𝓛 w64) (Unit {0} × Unit {0}) (λ z. fsep ftrue ftrue) (λ r z. Says a.0 m r) _ met
        (λ α. (((α ∷ [], tt), (full_share, tt), tt, (shown_as b o m, a), (vptr b o ∷ [], (uint_vals w a.0, tt))), tt))
        (λ α. id⊢ 𝓤 _) (λ α v. id⊢ 𝓤 _) (λ α. and_then ! (get ! refl) (and_then ! (get ! refl) (no_more !))) (λ v r z told is typed.
        lands_as ! refl refl typed.0 $ returns ! (look_at ! 0 refl) $ free_all ! refl $ looked 0 number (yes, tt) w64 (λ κs a m r e. Says a.0 m r) κs qs a m b o v r z told)))

  -- a buffer, into which is laid what is seen of the machine; the answer is how much that is
  module _ (w : Width) (Seen : MachineState → List ℕ) (T₁ T₂ : Ty) (g : Callee) where
    abbrev code_lays : Fn
    code_lays =
        routine 1 2 (var (ty_int w64) ∷ var ty_ptr ∷ var (buffer (named 0) w) ∷ var ty_ptr ∷ var (ty_ref erased imm T₁) ∷ var (ty_ref erased mut (ty_int w)) ∷ var (buffer erased w) ∷ [])
        (refers 3 T₂ (relends 2 5 w (seq (call g (copy (place 4 []) ∷ copy (place 6 []) ∷ []) (place 0 [])) return)))

    pub lays : (k : Callee) → Closed 𝓤 𝓛.H 𝓣.C 𝓣.Λ k code_lays → Looks 1 (filled 1 tt w ∷ []) (yes, tt) w64 (λ κs a m r e. Lays (Seen m) r a.0.now e.0.now) g → Called 1 (filled 0 tt w ∷ []) (yes, tt) w64 (λ κs a m r e. Lays (Seen m) r a.0.now e.0.now) k
    lays k closed met =
        meets_holding 𝓛 1 (filled 0 tt w ∷ []) (yes, tt) (plain (λ κs. usize)) 𝓜 𝓡 (ensures 1 (filled 0 tt w ∷ []) (yes, tt) w64 (λ κs a m r e. Lays (Seen m) r a.0.now e.0.now)) k code_lays closed (λ κs. (mut_slice_vals, tt)) (λ κs. (mut_slice_Tells (named 0) κs.0 (UInt w), tt)) (λ κs qs a m are b o.
        enter ! _ _ _ _ _ $ alloc_all ! (λ l. pass_all ! refl ((tt, tt), ((tt, (tt, (record { fits = are.0.0.1.0 }, tt))), tt)) $
        sets ! (of_opd ! (get ! refl)) refl (tt, tt) $ sets ! (addr ! (through ! refl (stop !))) refl (tt, tt) $
        sets ! (addr ! (from ! (fld ! refl (hop ! (look_in_at ! 2 (sub ! 0 refl (whole !))) (stop !))))) refl (tt, tt) $
        sets ! (agg ! (and_then ! (get ! refl) (and_then ! (get_in ! (fld ! refl (stop !)) (sub ! 1 refl (whole !))) (no_more !)))) refl (tt, (tt, (record { fits = are.0.0.1.0 }, tt))) $
        shows_to ! (framed 𝓤 𝓛.H 𝓜 𝓣) b o m _ _ usize (uint_Lawful 𝓛 w64) (List ℕ × Unit {0}) (lasts_of {n = 1} κs (filled 0 tt w ∷ []) (yes, tt) a) (λ r z. Lays (Seen m) r a.0.now z.0) _ met
        (λ α. (((α ∷ [], κs), (full_share, qs), tt, (shown_as b o m, a), (vptr b o ∷ [], (mut_slice_vals a.0, tt))), tt))
        (λ α. id⊢ 𝓤 _) (λ α v. id⊢ 𝓤 _) (λ α. and_then ! (get ! refl) (and_then ! (get ! refl) (no_more !))) (λ v r z told is typed.
        lands_as ! refl refl typed.0 $ returns ! (look_at ! 0 refl) $ free_all ! refl $ looked 1 (filled 0 tt w ∷ []) (yes, tt) w64 (λ κs a m r e. Lays (Seen m) r a.0.now e.0.now) κs qs a m b o v r z told)))

  -- a number of 64 bits and a buffer
  module _ (w : Width) (Seen : ℕ → MachineState → List ℕ) (T₁ T₂ : Ty) (g : Callee) where
    abbrev code_lays_by : Fn
    code_lays_by =
        routine 1 3 (var (ty_int w64) ∷ var ty_ptr ∷ var (ty_int w64) ∷ var (buffer (named 0) w) ∷ var ty_ptr ∷ var (ty_ref erased imm T₁) ∷ var (ty_ref erased mut (ty_int w)) ∷ var (buffer erased w) ∷ [])
        (refers 4 T₂ (relends 3 6 w (seq (call g (copy (place 5 []) ∷ copy (place 2 []) ∷ copy (place 7 []) ∷ []) (place 0 [])) return)))

    abbrev both : {n : ℕ} (j : ℕ) → AllWithin n (j ∷ []) → List (Slot n)
    both j ok = plain (λ κs. usize) ∷ filled j ok w ∷ []

    pub lays_by : (k : Callee) → Closed 𝓤 𝓛.H 𝓣.C 𝓣.Λ k code_lays_by → Looks 1 (both 1 tt) (yes, (yes, tt)) w64 (λ κs a m r e. Lays (Seen a.0 m) r a.1.0.now e.1.0.now) g → Called 1 (both 0 tt) (yes, (yes, tt)) w64 (λ κs a m r e. Lays (Seen a.0 m) r a.1.0.now e.1.0.now) k
    lays_by k closed met =
        meets_holding 𝓛 1 (both 0 tt) (yes, (yes, tt)) (plain (λ κs. usize)) 𝓜 𝓡 (ensures 1 (both 0 tt) (yes, (yes, tt)) w64 (λ κs a m r e. Lays (Seen a.0 m) r a.1.0.now e.1.0.now)) k code_lays_by closed (λ κs. (uint_vals w64, (mut_slice_vals, tt))) (λ κs. (uint_Tells w64, (mut_slice_Tells (named 0) κs.0 (UInt w), tt))) (λ κs qs a m are b o.
        enter ! _ _ _ _ _ $ alloc_all ! (λ l. pass_all ! refl ((tt, tt), ((tt, record { fits = are.0.1 }), ((tt, (tt, (record { fits = are.1.0.0.1.0 }, tt))), tt))) $
        sets ! (of_opd ! (get ! refl)) refl (tt, tt) $ sets ! (addr ! (through ! refl (stop !))) refl (tt, tt) $
        sets ! (addr ! (from ! (fld ! refl (hop ! (look_in_at ! 3 (sub ! 0 refl (whole !))) (stop !))))) refl (tt, tt) $
        sets ! (agg ! (and_then ! (get ! refl) (and_then ! (get_in ! (fld ! refl (stop !)) (sub ! 1 refl (whole !))) (no_more !)))) refl (tt, (tt, (record { fits = are.1.0.0.1.0 }, tt))) $
        shows_to ! (framed 𝓤 𝓛.H 𝓜 𝓣) b o m _ _ usize (uint_Lawful 𝓛 w64) (Unit {0} × (List ℕ × Unit {0})) (lasts_of {n = 1} κs (both 0 tt) (yes, (yes, tt)) a) (λ r z. Lays (Seen a.0 m) r a.1.0.now z.1.0) _ met
        (λ α. (((α ∷ [], κs), (full_share, qs), tt, (shown_as b o m, a), (vptr b o ∷ [], (uint_vals w64 a.0, (mut_slice_vals a.1.0, tt)))), tt))
        (λ α. id⊢ 𝓤 _) (λ α v. id⊢ 𝓤 _) (λ α. and_then ! (get ! refl) (and_then ! (get ! refl) (and_then ! (get ! refl) (no_more !)))) (λ v r z told is typed.
        lands_as ! refl refl typed.0 $ returns ! (look_at ! 0 refl) $ free_all ! refl $ looked 1 (both 0 tt) (yes, (yes, tt)) w64 (λ κs a m r e. Lays (Seen a.0 m) r a.1.0.now e.1.0.now) κs qs a m b o v r z told)))
