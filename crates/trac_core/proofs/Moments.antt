-- A run of the machine, moment by moment, beside the run of the definition.
use Rattle.trac_core.proofs.Imports.{◌≡◌, ℕ, zero, suc, ◌+◌, ◌<◌, ◌≤◌, max, Bool, true, false, [], ◌++◌, refl, sym, ap, ◌∙◌, subst, append_assoc, arith, Text, Memory, size, step, need, reads_to_end, Stream, MachineState, Moment, moment, ending, state_with, state_of, GoesOn, Passes, peak_after}
use Rattle.trac_laws.proofs.Reached.{Reached, reached_start, reached_next}
use Rattle.trac_laws.proofs.ReachedWhileReading.{ReachedAnywhere, anywhere_start, anywhere_next}

not_ended-before : (old new : Bool) → (old ≡ true → new ≡ true) → new ≡ false → old ≡ false
not_ended-before true new keeps e = absurd (let k = keeps refl in cc)
not_ended-before false new keeps e = refl

module _ (start : MachineState) (bytes before : Text) where
  -- up to a moment a machine has taken given of its input, and its run is that of the definition from where it stood; while
  -- the source hasn't ended, it is so too however the input goes on
  pub record OnCourse (m : Moment) : Type 0 where
    pub given : Text
    pub count : ℕ
    pub peak : ℕ
    pub consumed : bytes ≡ given ++ m.source.bytes
    pub steps_is : m.machine.steps ≡ start.steps + count
    pub peak_is : m.machine.peak ≡ max start.peak peak
    pub whole : Reached start.room (state_with start.memory (ending bytes) before) count peak (state_of m)
    pub cut : m.source.ended ≡ false → ReachedAnywhere start.room start.memory before given count peak m.machine.memory m.written

  pub course-more : (taken : Text) (old new : Moment) → old.machine.room ≡ start.room → old.source.bytes ≡ taken ++ new.source.bytes → OnCourse old → GoesOn old new → OnCourse new
  course-more taken old new room_is took a goes_on =
      let given = a.given in
      let n = a.count in
      let room = start.room in
      let fits : need (state_of old) ≤ room = subst (λ r. need (state_of old) ≤ r) room_is goes_on.may.fits in
      let reached = reached_next room (state_with start.memory (ending bytes) before) n a.peak (state_of old) a.whole (state_of new) fits goes_on.goes in
      let split = state_with old.machine.memory (ending (taken ++ new.source.bytes)) old.written in
      let here : state_of old ≡ state_with old.machine.memory (ending (taken ++ new.source.bytes)) old.written = ap (λ t. state_with old.machine.memory (ending t) old.written) took in
      record {
        given = given ++ taken;
        count = n + 1;
        peak = max a.peak (need (state_of old));
        consumed = a.consumed ∙ ap (λ t. given ++ t) took ∙ sym (append_assoc given taken new.source.bytes);
        steps_is = omega (arith, a.steps_is);
        peak_is = omega (arith, a.peak_is);
        whole = reached;
        cut = λ open_still.
            let before_open = not_ended-before old.source.ended new.source.ended goes_on.stays_ended open_still in
            let more : reads_to_end (state_of old) ≡ false = not_ended-before (reads_to_end (state_of old)) new.source.ended goes_on.read_all open_still in
            let next = anywhere_next room start.memory before given n a.peak old.machine.memory old.written (a.cut before_open) taken new.source.bytes new.machine.memory new.written
            (subst (λ s. need s ≤ room) here fits) (sym (ap reads_to_end here) ∙ more) (sym (ap step here) ∙ goes_on.goes) in
            subst (λ p. ReachedAnywhere room start.memory before (given ++ taken) (n + 1) p new.machine.memory new.written)
            (sym (ap (λ s. max a.peak (need s)) here)) next;
      }

pub course-none : (start : MachineState) (source : Stream) (before : Text) → OnCourse start source.bytes before (moment start source before)
course-none start source before =
    record {
      given = [];
      count = 0;
      peak = 0;
      consumed = refl;
      steps_is = omega arith;
      peak_is = omega arith;
      whole = reached_start start.room (state_with start.memory (ending source.bytes) before);
      cut = λ open_still. anywhere_start start.room start.memory before;
    }

-- the machine after one step that passes
abbrev pub one_passed : Memory → MachineState → MachineState
one_passed memory m = record m { memory = memory; steps = m.steps + 1; peak = max m.peak (size m.memory) }

pub goes_on-passes : (m : MachineState) (middle : Memory) (source : Stream) (written : Text) → m.steps < m.allowance → size m.memory ≤ m.room → Passes m.memory middle → GoesOn (moment m source written) (moment (one_passed middle m) source written)
goes_on-passes m middle source written allowed fits pass =
    let needed = pass.needs (ending source.bytes) written in
    record {
      may = record { allowed = allowed; fits = subst (λ n. n ≤ m.room) (sym needed) fits };
      goes = pass.goes (ending source.bytes) written;
      counts = record { steps = refl; peak = ap (max m.peak) (sym needed) };
      stays_ended = λ ended. ended;
      read_all = λ reads. absurd (let none = pass.reads (ending source.bytes) written in cc);
    }

pub peak_after-same : (n cells same peak : ℕ) → same ≤ cells → peak_after n same (max peak cells) ≡ peak_after (suc n) cells peak
peak_after-same zero cells same peak e = refl
peak_after-same (suc n) cells same peak e = omega arith
