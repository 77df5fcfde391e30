-- Steps of a turn that need no device.
use Rattle.std.specs.Prelude.{true, List, [], ◌∷◌}
use Rattle.trac_c.proofs.Imports.{◌≡◌, ◌≢◌, ℕ, zero, suc, ◌+◌, ◌-◌, ◌<◌, ◌≤◌, Bool, false, not, Option, Some, None, refl, sym, ap, subst, arith, Text, Fate, MachineState, Moment, awaited, next_function, is_none, nat_lt, ◌&&◌, if◌then◌else◌, is_short, waits_for_input, Goes, SomeTurned, Turn, Went, Over}
use Rattle.std.proofs.lemmas.Bool.{and_right}
use Rattle.trac_language.specs.declared.function.Function.{Function}
use Rattle.trac_language.specs.declared.function.Function.TheVariants.{ReadString, ReadCharacter}
use Rattle.trac_core.specs.declared.machine.session.Awaits.TheVariants.{Nothing}
use Rattle.trac_language.specs.State.{OpenCall, arguments}
use Rattle.trac_language.specs.Rule.{Rule, EndCall, rule}
use Rattle.trac_language.specs.Step.{function_of}
use Rattle.trac_core.specs.Performed.{performed_by, performs, calls_device, needs_device_by, needs_device}
use Rattle.trac_core.specs.Machine.{Answers}
use Rattle.trac_core.specs.OpenCalls.{asks_host}
use Rattle.trac_core.specs.Answering.{asks_next}
use Rattle.trac_core.specs.Advancing.{GoesAlone, StopsAlone, Advanced}
use Rattle.trac_c.specs.Turns.{TurnsTo, EndsTurn}

-- a call that uses no device waits for nothing
awaits-none : (f : Option Function) (given : List Text) → calls_device f given ≡ false → awaited f ≡ Nothing
awaits-none None given alone = refl
awaits-none (Some ReadString) given alone = absurd cc
awaits-none (Some ReadCharacter) given alone = absurd cc
awaits-none (Some _) given alone = refl

unread : (r : Rule) (calls : List OpenCall) → needs_device_by r calls ≡ false → awaited (performed_by r calls) ≡ Nothing
unread (EndCall rest) [] alone = refl
unread (EndCall rest) (call ∷ outer) alone = awaits-none (function_of call) (arguments call) alone
unread _ calls alone = refl

next-alone : (going : Bool) (f : Option Function) → awaited f ≡ Nothing → awaited (if going then f else None) ≡ Nothing
next-alone true f none = none
next-alone false f none = refl

waits-none : (ended : Bool) (m : MachineState) (bytes : Text) → needs_device m.memory ≡ false → waits_for_input ended m bytes ≡ false
waits-none ended m bytes alone =
    let none = next-alone (is_none m.fate && nat_lt m.steps m.allowance) (performs m.memory) (unread (rule m.memory.active) m.memory.calls alone) in
    and_right (not ended) (is_short (awaited (next_function m)) m bytes) (ap (λ a. is_short a m bytes) none)

-- a turn that doesn't stop before a step over this memory doesn't stop before the next one
pub unasked : (m : MachineState) → asks_host m ≡ false → asks_next m ≡ false
unasked m e = and_right (is_none m.fate && nat_lt m.steps m.allowance) (asks_host m) e

ends-turn : (ended : Bool) (most done : ℕ) (before : Moment) (last : Turn) (new : Moment) → last ≢ Went → done < most → TurnsTo ended before last new → EndsTurn ended most done before last new
ends-turn ended most done before Went new other few turns = absurd (other refl)
ends-turn ended most done before _ new other few turns = (few, turns)

-- a turn from `start` on
module _ (ended : Bool) (start : Moment) where
  -- n steps that need no device follow k steps of a turn
  goes-alone : (n k : ℕ) (old : Moment) (new : MachineState) → GoesAlone n old.machine new → Goes ended k start old → Goes ended (k + n) start (record old { machine = new })
  goes-alone zero k old new same goes =
      let none : k ≡ k + 0 = omega arith in
      subst (λ j. Goes ended j start (record old { machine = new })) none (subst (λ m. Goes ended k start (record old { machine = m })) (sym same) goes)
  goes-alone (suc n) k old new alone goes =
      let middle = record old { machine = alone.0 } in
      let step = alone.1.1 in
      let one : suc (k + n) ≡ k + suc n = omega arith in
      subst (λ j. Goes ended j start (record old { machine = new })) one
      (middle, (goes-alone n k old alone.0 alone.1.0 goes, (waits-none ended alone.0 old.source.bytes step.alone, (step.goes old.source old.written, (step.going, (unasked alone.0 step.unasked, step.settings))))))

  -- at most `wanted` steps that need no device, here n, follow k steps of a turn
  module _ (wanted n k : ℕ) (old : Moment) (new : MachineState) (to : Advanced wanted n old.machine new) (goes : Goes ended k start old) where
    -- the run goes on
    pub goes-on : new.fate ≡ None → Goes ended (k + n) start (record old { machine = new })
    goes-on going =
        let stops = subst (λ fate. StopsAlone wanted n to.0 fate new) going to.1.1 in
        subst (λ m. Goes ended (k + n) start (record old { machine = m })) (sym stops.0) (goes-alone n k old to.0 to.1.0 goes)

    -- the turn then ends: with what comes next, or since the run is over
    pub ends-on : (most : ℕ) (last : Turn) (end : Moment) → k + n < most → last ≢ Went → (new.fate ≡ None → TurnsTo ended (record old { machine = new }) last end) → ((fate : Fate) → new.fate ≡ Some fate → (last ≡ Over fate) × (end ≡ record old { machine = new })) → SomeTurned ended most start last end
    ends-on most last end few other turns over = go new.fate refl
      where
        go : (fate : Option Fate) → new.fate ≡ fate → SomeTurned ended most start last end
        go None going =
            (k + n, (record old { machine = new }, record { goes = goes-on going; ends = ends-turn ended most (k + n) (record old { machine = new }) last end other few (turns going) }))
        go (Some fate) is_over =
            let stops = subst (λ fate. StopsAlone wanted n to.0 fate new) is_over to.1.1 in
            let at = over fate is_over in
            let before : Moment = record old { machine = to.0 } in
            let answers : Answers before (Some fate) end = subst (λ end. Answers before (Some fate) end) (sym at.1) (stops.1.ends old.source old.written) in
            let turned : TurnsTo ended before last end = subst (λ t. TurnsTo ended before t end) (sym at.0) (waits-none ended to.0 old.source.bytes stops.1.alone, ((λ e. stops.1.none_failed.0 (ap Some e), λ e. stops.1.none_failed.1 (ap Some e)), (answers, unasked to.0 stops.1.unasked))) in
            (k + n, (before, record { goes = goes-alone n k old to.0 to.1.0 goes; ends = ends-turn ended most (k + n) before last end other few turned }))

    -- as many steps as a turn may make are done
    pub ends-full : (most : ℕ) → k + n ≡ most → wanted ≤ most - k → SomeTurned ended most start Went (record old { machine = new })
    ends-full most all few = go new.fate refl
      where
        go : (fate : Option Fate) → new.fate ≡ fate → SomeTurned ended most start Went (record old { machine = new })
        go None going = (k + n, (record old { machine = new }, record { goes = goes-on going; ends = (all, refl) }))
        go (Some fate) is_over =
            let stops = subst (λ fate. StopsAlone wanted n to.0 fate new) is_over to.1.1 in
            absurd (omega (arith, stops.0, few, all))

-- one more step follows k steps of a turn
pub goes-further : (ended : Bool) (k : ℕ) (start before new : Moment) → Goes ended k start before → TurnsTo ended before Went new → Goes ended (k + 1) start new
goes-further ended k start before new goes turns =
    let one : suc k ≡ k + 1 = omega arith in
    subst (λ j. Goes ended j start new) one (before, (goes, turns))

-- a run that isn't over with any fate goes on
pub is-going : (fate : Option Fate) → ((f : Fate) → fate ≡ Some f → ⊥) → fate ≡ None
is-going None h = refl
is-going (Some f) h = absurd (h f refl)
