-- Steps that need no device, one after the other.
use Rattle.trac_core.proofs.Imports.{◌≡◌, ℕ, zero, suc, ◌+◌, ◌<◌, ◌≤◌, max, Option, Some, None, refl, sym, ap, ◌∙◌, subst, arith, ◌⊎◌, ⊎_elim, inl, inr, min, cases_lt, [], cells, scene, Tried, Function, Fate, Halted, Memory, size, used, IsSound, memory_of, MachineState, counted, Passes, PassesTimes, peak_after, passed, KeepsFormsAndMeta, NoneFailed, ◌≢◌, stops_at, is_unknown, performed_call, turning, Bool, false, StepsAlone, GoesAlone, StopsAlone, Advanced, Advances, advanced_to, Stage, Standing, standing, PerformedFor, PerformedAlone, GoesBy, StepsBy, StopsBy, Driven, needs_device, true, Text, Stream}
use Rattle.trac_functions.proofs.FlatLemmas.{size-used}
use Rattle.trac_core.specs.declared.machine.Counters.{Counters}
use Rattle.trac_core.specs.declared.machine.advancing.Advance.{Advance}
use Rattle.trac_core.specs.declared.outcome.StepOutcome.{StepOutcome}
use Rattle.trac_core.specs.Driving.{ReadsOn}
use Rattle.std.proofs.lemmas.Bool.{and_right}
use Rattle.trac_core.proofs.Performed.{uncalled, unperformed}
use Rattle.trac_core.proofs.Moments.{one_passed, goes_on-passes, peak_after-same}
use Rattle.trac_core.proofs.StepsInRow.{peak-some, tried-scanned}
use Rattle.trac_core.proofs.Scanning.{scans-idling}
use Rattle.trac_core.specs.StepsInRow.{idling_begun, idling_loaded}
use Rattle.trac_core.proofs.IdlingSteps.{idling-advances, idling-sound}
use Rattle.trac_core.proofs.RunningOn.{IsNeed}

-- the counters after `done` steps more, with a peak
abbrev pub counters_after : Counters → (done peak : ℕ) → Counters
counters_after at done peak = record { allowance = at.allowance; steps = at.steps + done; peak = peak }

-- turns stop before no step that performs no call
pub uncalled-unasked : (stops : Bool) (m : Memory) → performed_call m ≡ None → stops_at stops m ≡ false
uncalled-unasked stops m none = and_right stops (is_unknown (performed_call m)) (ap is_unknown none)

-- a step that performs no call needs no device
passes-alone : (m : MachineState) (middle : Memory) → m.fate ≡ None → m.steps < m.allowance → size m.memory ≤ m.room → Passes m.memory middle → StepsAlone m (one_passed middle m)
passes-alone m middle going allowed fits pass =
    record {
      alone = unperformed m.memory (uncalled m.memory pass.no_call);
      unasked = uncalled-unasked m.stops m.memory pass.no_call;
      goes = λ source written. goes_on-passes m middle source written allowed fits pass;
      going = going;
      settings = record { room = refl; allowance = refl; stops = refl };
    }

-- such steps follow others
module _ {I O : Type 0} (performed : Standing I O → Option Fate → Standing I O → Type 0) (start : Standing I O) (source : I) (sink : O) where
  pub goes-passing : (n k : ℕ) (m : MachineState) (target : Memory) → m.fate ≡ None → size m.memory ≤ m.room → m.steps + n ≤ m.allowance → PassesTimes n m.memory target → GoesBy performed k start (standing m source sink) → GoesBy performed (k + n) start (standing (passed n target m) source sink)
  goes-passing zero k m target going fits allowed same goes =
      let none : k + 0 ≡ k = omega arith in
      let steps : m.steps ≡ m.steps + 0 = omega arith in
      subst (λ j. GoesBy performed j start (standing (passed zero target m) source sink)) (sym none)
      (subst (λ n. GoesBy performed k start (standing (record m { memory = target; steps = n }) source sink)) steps
      (subst (λ memory. GoesBy performed k start (standing (record m { memory = memory }) source sink)) same goes))
  goes-passing (suc n) k m target going fits allowed passes goes =
      let middle = passes.0 in
      let pass = passes.1.0 in
      let next = one_passed middle m in
      let smaller = pass.no_larger in
      let here : GoesBy performed (suc k) start (standing next source sink) = (standing m source sink, (goes, inl (passes-alone m middle going (omega arith) fits pass, refl))) in
      let later = goes-passing n (suc k) next target going (omega arith) (omega arith) passes.1.1 here in
      let all : suc k + n ≡ k + suc n = omega arith in
      let steps : m.steps + 1 + n ≡ m.steps + suc n = omega arith in
      let peak = peak_after-same n (size m.memory) (size middle) m.peak smaller in
      subst (λ j. GoesBy performed j start (standing (passed (suc n) target m) source sink)) all
      (subst (λ p. GoesBy performed (suc k + n) start (standing (record m { memory = target; steps = m.steps + suc n; peak = p }) source sink)) peak
      (subst (λ k'. GoesBy performed (suc k + n) start (standing (record m { memory = target; steps = k'; peak = peak_after n (size middle) (max m.peak (size m.memory)) }) source sink)) steps later))

-- what a step leaves of a machine, part by part
pub counted-memory : (m : MachineState) (after : Memory) (need : ℕ) (fate : Option Fate) → (counted m after need fate).memory ≡ after
counted-memory m after need None = refl
counted-memory m after need (Some Halted) = refl
counted-memory m after need (Some _) = refl

counted-parts : (m : MachineState) (after : Memory) (need : ℕ) (fate : Fate) → counted m after need (Some fate) ≡ record { memory = after; room = m.room; allowance = m.allowance; steps = (counted m after need (Some fate)).steps; peak = (counted m after need (Some fate)).peak; fate = Some fate; stops = m.stops }
counted-parts m after need Halted = refl
counted-parts m after need _ = refl

-- steps that need no more cells than are counted leave the peak
peak-still : (n cells peak : ℕ) → cells ≤ peak → peak_after n cells peak ≡ peak
peak-still zero cells peak within = refl
peak-still (suc n) cells peak within = omega arith

-- how far a turn has come whose calls a performer performs: the steps that are done, and their peak
pub record DrivenSoFar (I O : Type 0) : Type 0 where
  pub at : Stage I O
  pub done : ℕ
  pub peak : ℕ

abbrev pub so_far : {I O : Type 0} → Stage I O → (done peak : ℕ) → DrivenSoFar I O
so_far at done peak = record { at = at; done = done; peak = peak }

-- a turn that began at `start` with the counters `at`
module _ {I O : Type 0} (performed : Standing I O → Option Fate → Standing I O → Type 0) (start : Standing I O) (stops : Bool) (at : Counters) where
  abbrev pub machine_in : DrivenSoFar I O → MachineState
  machine_in s = turning stops s.at.contents s.at.meta (counters_after at s.done s.peak)

  abbrev standing_in : DrivenSoFar I O → Standing I O
  standing_in s = standing (machine_in s) s.at.source s.at.sink

  -- the steps that are done led there
  abbrev pub IsDriven : DrivenSoFar I O → Type 0
  IsDriven s = GoesBy performed s.done start (standing_in s)

  -- `done` steps that perform no call lead on; the first of them needs `need` cells, or that is counted
  pub record RunsThrough (done need : ℕ) (old new : DrivenSoFar I O) : Type 0 where
    pub stage : new.at ≡ record old.at { contents = new.at.contents }
    pub room : new.at.contents.room ≡ old.at.contents.room
    pub sound : IsSound old.at.contents
    pub allowed : at.steps + (old.done + done) ≤ at.allowance
    pub some : 0 < done
    pub passes : Advances done old.at.contents new.at.contents
    pub known : IsNeed need (used old.at.contents) old.peak
    pub peak_is : new.peak ≡ max old.peak need
    pub done_is : new.done ≡ old.done + done

  pub drive-run : (done need : ℕ) (old new : DrivenSoFar I O) → RunsThrough done need old new → IsDriven old → IsDriven new
  drive-run done need old new h goes =
      let w = old.at.contents in
      let target = memory_of old.at.meta new.at.contents in
      let later = goes-passing performed start old.at.source old.at.sink done old.done (machine_in old) target refl (omega (arith, size-used old.at.meta w, h.sound.fits)) (omega (arith, h.allowed)) (h.passes old.at.meta) goes in
      let steps : at.steps + old.done + done ≡ at.steps + new.done = omega (arith, h.done_is) in
      let peaks : peak_after done (size (memory_of old.at.meta w)) old.peak ≡ new.peak = ap (λ n. peak_after done n old.peak) (size-used old.at.meta w) ∙ peak-some done (used w) need old.peak h.some h.known ∙ sym h.peak_is in
      let same : passed done target (machine_in old) ≡ turning stops new.at.contents old.at.meta (counters_after at new.done new.peak) = λ i. record { memory = target; room = sym h.room i; allowance = at.allowance; steps = steps i; peak = peaks i; fate = None; stops = stops } in
      subst (λ stage. IsDriven (record new { at = stage })) (sym h.stage)
      (subst (λ j. GoesBy performed j start (standing_in (record new { at = record old.at { contents = new.at.contents } }))) (sym h.done_is)
      (subst (λ m. GoesBy performed (old.done + done) start (standing m old.at.source old.at.sink)) same later))

  -- one step more
  drive-next : (need : ℕ) (old new : DrivenSoFar I O) → new.at.contents.room ≡ old.at.contents.room → StepsBy performed (standing_in old) (standing (counted (machine_in old) (memory_of new.at.meta new.at.contents) need None) new.at.source new.at.sink) → new.peak ≡ max old.peak need → new.done ≡ suc old.done → IsDriven old → IsDriven new
  drive-next need old new room step peak_is done_is goes =
      let target = memory_of new.at.meta new.at.contents in
      let steps : at.steps + old.done + 1 ≡ at.steps + new.done = omega arith in
      let same : counted (machine_in old) target need None ≡ machine_in new = λ i. record { memory = target; room = sym room i; allowance = at.allowance; steps = steps i; peak = sym peak_is i; fate = None; stops = stops } in
      let later : GoesBy performed (suc old.done) start (standing (counted (machine_in old) target need None) new.at.source new.at.sink) = (standing_in old, (goes, step)) in
      subst (λ j. GoesBy performed j start (standing_in new)) (sym done_is)
      (subst (λ m. GoesBy performed (suc old.done) start (standing m new.at.source new.at.sink)) same later)

  -- a step that performs a call, or loads the idling procedure
  pub drive-step : (need : ℕ) (old new : DrivenSoFar I O) → new.at.contents.room ≡ old.at.contents.room → at.steps + old.done < at.allowance → PerformedFor performed None need old.at new.at → new.peak ≡ max old.peak need → new.done ≡ suc old.done → IsDriven old → IsDriven new
  drive-step need old new room allowed done peak_is done_is goes =
      drive-next need old new room (inr (record { room = refl; allowance = refl; stops = refl }, done (machine_in old) refl refl allowed)) peak_is done_is goes

  -- no step more is done
  pub drive-stays : (declines : Memory → Type 0) (most : ℕ) (next : Option Function) (to : Advance) (s : DrivenSoFar I O) → to ≡ record { progress = record { done = s.done; next = next }; steps = at.steps + s.done; peak = s.peak; fate = None } → (s.done ≡ most) ⊎ ((at.steps + s.done ≡ at.allowance) ⊎ declines (memory_of s.at.meta s.at.contents)) → IsDriven s → Driven performed declines most to.progress.done start (standing (advanced_to stops s.at.contents s.at.meta at to) s.at.source s.at.sink)
  drive-stays declines most next to s is why goes =
      subst (λ (to : Advance). Driven performed declines most to.progress.done start (standing (advanced_to stops s.at.contents s.at.meta at to) s.at.source s.at.sink)) (sym is)
      (standing_in s, (goes, (refl, why)))

  -- the next step ends the run, and this is told of it
  pub record LastStep (most need : ℕ) (fate : Fate) (to : Advance) (old : DrivenSoFar I O) (new : Stage I O) : Type 0 where
    pub room : new.contents.room ≡ old.at.contents.room
    pub allowed : at.steps + old.done < at.allowance
    pub few : old.done < most
    pub step : PerformedFor performed (Some fate) need old.at new
    pub told :
        let last = counted (machine_in old) (memory_of new.meta new.contents) need (Some fate) in
        to ≡ record { progress = record { done = old.done; next = None }; steps = last.steps; peak = last.peak; fate = Some fate }

  pub drive-ends : (declines : Memory → Type 0) (most need : ℕ) (fate : Fate) (to : Advance) (old : DrivenSoFar I O) (new : Stage I O) → LastStep most need fate to old new → IsDriven old → Driven performed declines most to.progress.done start (standing (advanced_to stops new.contents new.meta at to) new.source new.sink)
  drive-ends declines most need fate to old new h goes =
      let m = machine_in old in
      let last = counted m (memory_of new.meta new.contents) need (Some fate) in
      let told : Advance = record { progress = record { done = old.done; next = None }; steps = last.steps; peak = last.peak; fate = Some fate } in
      let same : last ≡ advanced_to stops new.contents new.meta at told = counted-parts m (memory_of new.meta new.contents) need fate ∙ (λ i. record (advanced_to stops new.contents new.meta at told) { room = sym h.room i }) in
      let ends = subst (λ last. performed (standing_in old) (Some fate) (standing last new.source new.sink)) same (h.step m refl refl h.allowed) in
      let whole : Driven performed declines most told.progress.done start (standing (advanced_to stops new.contents new.meta at told) new.source new.sink) = (standing_in old, (goes, (h.few, ends))) in
      subst (λ (to : Advance). Driven performed declines most to.progress.done start (standing (advanced_to stops new.contents new.meta at to) new.source new.sink)) (sym h.told) whole

  -- there is room and an allowance for the idling procedure, which needs `need` cells
  pub record MayIdle (need : ℕ) (s : DrivenSoFar I O) : Type 0 where
    pub sound : IsSound s.at.contents
    pub none : s.at.contents.active ≡ []
    pub fits : cells s.at.contents.forms + 11 ≤ s.at.contents.room
    pub allowed : at.steps + (s.done + 8) ≤ at.allowance
    pub need_is : need ≡ cells s.at.contents.forms + 11

  -- the idling procedure is loaded, and its calls are opened
  pub drive-idling : (need top all : ℕ) (s : DrivenSoFar I O) → MayIdle need s → top ≡ max s.peak need → all ≡ s.done + 8 → IsDriven s → IsDriven (record { at = record s.at { contents = idling_begun s.at.contents }; done = all; peak = top })
  drive-idling need top all s h top_is all_is goes =
      let w = s.at.contents in
      let meta = s.at.meta in
      let loads = scans-idling w h.none in
      let allowed : at.steps + s.done < at.allowance = omega (arith, h.allowed) in
      let loaded : DrivenSoFar I O = record { at = record s.at { contents = idling_loaded w }; done = suc s.done; peak = top } in
      let begun : DrivenSoFar I O = record { at = record s.at { contents = idling_begun w }; done = all; peak = top } in
      let loading : StepsAlone (machine_in s) (counted (machine_in s) (memory_of meta (idling_loaded w)) need None) = record {
        alone = unperformed (memory_of meta w) (uncalled (memory_of meta w) (loads.no_call meta));
        unasked = uncalled-unasked stops (memory_of meta w) (loads.no_call meta);
        goes = λ source written. subst (λ n. Tried (scene w meta source written) None n (scene (idling_loaded w) meta source written)) (sym h.need_is)
            (tried-scanned None w (idling_loaded w) (cells w.forms + 11) loads h.fits meta source written) (machine_in s) refl refl allowed;
        going = refl;
        settings = record { room = refl; allowance = refl; stops = refl };
      } in
      drive-run 7 need loaded begun
      (record { stage = refl; room = refl; sound = idling-sound w h.sound h.fits; allowed = omega (arith, h.allowed); some = omega arith; passes = idling-advances w; known = inl (omega (arith, h.need_is)); peak_is = omega (arith, top_is); done_is = omega (arith, all_is) })
      (drive-next need s loaded refl (inl (loading, refl)) top_is refl goes)

  -- a string is read, and `scanned` characters of it are scanned
  pub record ReadsThrough (scanned : ℕ) (outcome : StepOutcome) (old new : DrivenSoFar I O) : Type 0 where
    pub stage : new.at ≡ record old.at { contents = new.at.contents; source = new.at.source }
    pub reads : ReadsOn performed outcome scanned old.at new.at.contents new.at.source
    pub going : outcome.fate ≡ None
    pub room : new.at.contents.room ≡ old.at.contents.room
    pub allowed : at.steps + new.done ≤ at.allowance
    pub peak_is : new.peak ≡ max old.peak outcome.need
    pub done_is : new.done ≡ suc old.done + scanned

  pub drive-read : (scanned : ℕ) (outcome : StepOutcome) (old new : DrivenSoFar I O) → ReadsThrough scanned outcome old new → IsDriven old → IsDriven new
  drive-read scanned outcome old new h goes =
      let r = h.reads in
      let meta = old.at.meta in
      let middle : DrivenSoFar I O = record { at = record old.at { contents = r.middle; source = new.at.source }; done = suc old.done; peak = new.peak } in
      let step = subst (λ fate. PerformedFor performed fate outcome.need old.at middle.at) h.going r.step in
      let one = drive-step outcome.need old middle r.room (omega (arith, h.allowed, h.done_is)) step h.peak_is refl goes in
      let target = memory_of meta new.at.contents in
      let fits = r.fits h.going in
      let later = goes-passing performed start new.at.source old.at.sink scanned (suc old.done) (machine_in middle) target refl (omega (arith, size-used meta r.middle, r.sound.fits)) (omega (arith, h.allowed, h.done_is)) (r.scans meta) one in
      let steps : at.steps + suc old.done + scanned ≡ at.steps + new.done = omega (arith, h.done_is) in
      let peaks : peak_after scanned (size (memory_of meta r.middle)) new.peak ≡ new.peak = peak-still scanned (size (memory_of meta r.middle)) new.peak (omega (arith, size-used meta r.middle, fits, h.peak_is)) in
      let same : passed scanned target (machine_in middle) ≡ turning stops new.at.contents meta (counters_after at new.done new.peak) = λ i. record { memory = target; room = (r.room ∙ sym h.room) i; allowance = at.allowance; steps = steps i; peak = peaks i; fate = None; stops = stops } in
      subst (λ stage. IsDriven (record new { at = stage })) (sym h.stage)
      (subst (λ j. GoesBy performed j start (standing_in (record new { at = record old.at { contents = new.at.contents; source = new.at.source } }))) (sym h.done_is)
      (subst (λ m. GoesBy performed (suc old.done + scanned) start (standing m new.at.source old.at.sink)) same later))

-- what is declined where nothing is performed that needs a device
abbrev pub DeclinesAlone : Bool → Memory → Type 0
DeclinesAlone stops memory = (needs_device memory ≡ true) ⊎ (stops_at stops memory ≡ true)

-- where nothing is performed that needs a device
module _ {I O : Type 0} (stops : Bool) where
  abbrev pub Alone : Standing I O → Option Fate → Standing I O → Type 0
  Alone old fate new = old.machine.stops ≡ stops → PerformedAlone old.machine fate new.machine

  -- what the try of a step that needs no device says of each machine
  pub performed-alone : (need : ℕ) (fate : Option Fate) (old new : Stage I O) → needs_device (memory_of old.meta old.contents) ≡ false → stops_at stops (memory_of old.meta old.contents) ≡ false → ((source : Stream) (written : Text) → Tried (scene old.contents old.meta source written) fate need (scene new.contents new.meta source written)) → NoneFailed fate → (fate ≢ None → KeepsFormsAndMeta (memory_of old.meta old.contents) (memory_of new.meta new.contents)) → PerformedFor Alone fate need old new
  performed-alone need None old new alone unasked tried quiet keeps = λ m room_is memory_is allowed same.
      record {
        alone = ap needs_device memory_is ∙ alone;
        unasked = (λ i. stops_at (same i) (memory_is i)) ∙ unasked;
        goes = λ source written. tried source written m room_is memory_is allowed;
        going = refl;
        settings = record { room = refl; allowance = refl; stops = refl };
      }
  performed-alone need (Some fate) old new alone unasked tried quiet keeps = λ m room_is memory_is allowed same.
      record {
        alone = ap needs_device memory_is ∙ alone;
        unasked = (λ i. stops_at (same i) (memory_is i)) ∙ unasked;
        ends = λ source written. tried source written m room_is memory_is allowed;
        none_failed = quiet;
        keeps = subst (λ memory. KeepsFormsAndMeta memory (counted m (memory_of new.meta new.contents) need (Some fate)).memory) (sym memory_is)
            (subst (KeepsFormsAndMeta (memory_of old.meta old.contents)) (sym (counted-memory m (memory_of new.meta new.contents) need (Some fate))) (keeps (λ e. absurd cc)));
      }

  goes-alone : (n : ℕ) (start now : Standing I O) → start.machine.stops ≡ stops → GoesBy Alone n start now → GoesAlone n start.machine now.machine × (now.machine.stops ≡ stops)
  goes-alone zero start now same goes = (ap (λ (s : Standing I O). s.machine) goes, ap (λ (s : Standing I O). s.machine.stops) goes ∙ same)
  goes-alone (suc n) start now same goes =
      let before = goes-alone n start goes.0 same goes.1.0 in
      let step : StepsAlone goes.0.machine now.machine = ⊎_elim (λ alone. alone.0) (λ done. done.1 before.1) goes.1.1 in
      ((goes.0.machine, (before.0, step)), step.settings.stops ∙ before.1)

  stops-alone : (most n : ℕ) (before : Standing I O) (fate : Option Fate) (new : Standing I O) → before.machine.stops ≡ stops → StopsBy Alone (DeclinesAlone stops) most n before fate new → StopsAlone most n before.machine fate new.machine
  stops-alone most n before None new same why =
      (ap (λ (s : Standing I O). s.machine) why.0, ⊎_elim inl (λ more. inr (⊎_elim inl (λ declined. inr (⊎_elim inl (λ asks. inr (subst (λ b. stops_at b before.machine.memory ≡ true) (sym same) asks)) declined)) more)) why.1)
  stops-alone most n before (Some fate) new same why = (why.0, why.1 same)

  pub advanced-alone : (most n : ℕ) (start new : Standing I O) → start.machine.stops ≡ stops → Driven Alone (DeclinesAlone stops) most n start new → Advanced most n start.machine new.machine
  advanced-alone most n start new same driven =
      let goes = goes-alone n start driven.0 same driven.1.0 in
      (driven.0.machine, (goes.0, stops-alone most n driven.0 new.machine.fate new goes.1 driven.1.1))

-- the less of two numbers is one of them
pub least-of : (a b n : ℕ) → n ≡ min a b → (n ≡ a) ⊎ (n ≡ b)
least-of a b n is =
    ⊎_elim (λ less. inl (omega arith)) (λ more. inr (omega arith)) (cases_lt a b)
