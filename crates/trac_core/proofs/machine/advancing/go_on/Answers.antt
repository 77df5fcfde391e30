use Rattle.trac_core.proofs.Imports.{◌≡◌, ◌≢◌, ◌≤◌, ◌+◌, ◌-◌, AsksFor, refl, sym, ap, ◌∙◌, subst, arith, ⊎_elim, inl, inr, None, Contents, memory_of, turning, Driven, Stage, stage, standing, advanced_to, PerformedFor}
use Rattle.trac_core.specs.StepsInRow.{idling_begun}
use Rattle.trac_core.proofs.RunningOn.{need-fits, need-counted}
use Rattle.trac_core.proofs.Advancing.{so_far, IsDriven, machine_in, drive-run, drive-step, drive-read, drive-idling, drive-stays, drive-ends, least-of}
use Rattle.trac_core.proofs.machine.advancing.go_on.Goals.{in-Some+in_default-fate, in_default}
use Rattle.trac_core.proofs.machine.advancing.go_on.Goals as goal

pub loop-left-preserved-in-Ok : goal.loop-left-preserved-in-Ok
loop-left-preserved-in-Ok g c =
    let i = c.loop-left.invariant in
    let h = c.in-Ok.ensures in
    let some = h.comes in
    let within = some.few in
    let fits = i.sound.fits in
    let old = c.loop-left.work in
    let new = c.scan_steps.new.work in
    record {
      few = omega arith;
      allowed = i.allowed;
      wanted = i.wanted;
      sound = h.keeps.sound;
      room = h.keeps.room ∙ i.room;
      peak = rw (c.max-peak.ensures, h.keeps.room) (need-fits c.loop-left.need _ c.loop-left.peak old.room fits i.peak i.need);
      need = need-counted c.in-Ok.done c.loop-left.need c.loop-left.peak c.max-peak.result old new some.passes i.need c.max-peak.ensures;
      ready = i.ready;
      goes = λ stops.
          drive-run (g.P.Performer.performed c.args.performer) (standing (turning stops c.args.work.now c.args.meta.now c.args.at) c.args.source.now c.args.sink.now) stops c.args.at c.in-Ok.done c.loop-left.need
          (so_far (stage old c.loop-left.meta c.loop-left.source c.loop-left.sink) (c.min-reach.result - c.loop-left.left) c.loop-left.peak)
          (so_far (stage new c.loop-left.meta c.loop-left.source c.loop-left.sink) (c.min-reach.result - (c.loop-left.left - c.in-Ok.done)) c.max-peak.result)
          (record { stage = refl; room = h.keeps.room; sound = i.sound; allowed = omega (arith, i.allowed, i.few); some = some.some; passes = some.passes; known = i.need; peak_is = c.max-peak.ensures; done_is = omega (arith, i.few) })
          (i.goes stops);
    }

pub returns-in-Err-perform-clause-driven : goal.returns-in-Err-perform-clause-driven
returns-in-Err-perform-clause-driven g c = λ stops.
    let i = c.loop-left.invariant in
    let h = c.in-Err-perform.ensures.done in
    let performed = g.P.Performer.performed c.args.performer in
    let declines = g.P.Performer.declines c.args.performer in
    let start = standing (turning stops c.args.work.now c.args.meta.now c.args.at) c.args.source.now c.args.sink.now in
    let to = c.going.result in
    let at = stage c.scan_steps.new.work c.loop-left.meta c.loop-left.source c.loop-left.sink in
    let here = so_far at (c.min-reach.result - c.loop-left.left) c.loop-left.peak in
    let goes = subst (λ w. IsDriven performed start stops c.args.at (so_far (record at { contents = w }) here.done here.peak)) (sym c.in-Err.ensures.comes.0) (i.goes stops) in
    subst (λ (s : Stage g.row.I.Denot g.row.O.Denot). Driven performed declines c.args.most to.progress.done start (standing (advanced_to stops s.contents s.meta c.args.at to) s.source s.sink)) (sym h.same)
    (drive-stays performed start stops c.args.at declines c.args.most c.in-Err-perform.function to here c.going.ensures (inr (inr h.declined)) goes)

pub returns-clause-driven : goal.returns-clause-driven
returns-clause-driven g c = λ stops.
    let i = c.loop-left.invariant in
    let performed = g.P.Performer.performed c.args.performer in
    let start = standing (turning stops c.args.work.now c.args.meta.now c.args.at) c.args.source.now c.args.sink.now in
    let at = stage c.loop-left.work c.loop-left.meta c.loop-left.source c.loop-left.sink in
    let all : c.min-reach.result ≡ c.min-reach.result - c.loop-left.left = omega (arith, c.loop-left-test.false) in
    let why = least-of c.args.most (c.args.at.allowance - c.args.at.steps) c.min-reach.result c.min-reach.ensures in
    drive-stays performed start stops c.args.at (g.P.Performer.declines c.args.performer) c.args.most None c.going-2.result (so_far at c.min-reach.result c.loop-left.peak)
    c.going-2.ensures (⊎_elim inl (λ rest. inr (inl (omega (arith, rest, i.allowed, c.requires.steps)))) why)
    (subst (λ done. IsDriven performed start stops c.args.at (so_far at done c.loop-left.peak)) (sym all) (i.goes stops))

pub returns-in-Some-fate-clause-driven : goal.returns-in-Some-fate-clause-driven
returns-in-Some-fate-clause-driven g c = λ stops.
    let i = c.loop-left.invariant in
    let performed = g.P.Performer.performed c.args.performer in
    let start = standing (turning stops c.args.work.now c.args.meta.now c.args.at) c.args.source.now c.args.sink.now in
    let may = c.if-may_begin_idling.ensures.0 refl in
    let r = c.in-Some.ensures.read in
    let read = c.in-Some.read in
    let some : read.fate ≢ None = λ e. absurd (let no = sym c.in-Some-fate.is ∙ e in cc) in
    let left = c.in-Some.ensures.ends some in
    let done = c.min-reach.result - c.idle.new.left in
    let peak = c.max-peak-in-Err-Idling.result in
    let at = stage c.scan_steps.new.work c.loop-left.meta c.loop-left.source c.loop-left.sink in
    let before = so_far at (c.min-reach.result - c.loop-left.left) c.loop-left.peak in
    let goes = drive-idling performed start stops c.args.at c.idling_need.result peak done before
    (record { sound = c.in-Err-Idling.ensures.keeps.sound; none = ap (λ (w : Contents). w.active) c.in-Err-Idling.ensures.comes.0 ∙ subst (λ action. AsksFor action c.loop-left.work) c.in-Err-Idling.field-0-is c.in-Err-Idling.ensures.comes.1; fits = may.1; allowed = omega (arith, i.allowed, i.few, may.0); need_is = c.idling_need.ensures.need })
    c.max-peak-in-Err-Idling.ensures (omega (arith, left, i.few, may.0)) (subst (λ w. IsDriven performed start stops c.args.at (so_far (record at { contents = w }) before.done before.peak)) (sym c.in-Err-Idling.ensures.comes.0) (i.goes stops)) in
    let begun = so_far (record at { contents = idling_begun c.scan_steps.new.work }) done peak in
    let counts = c.over.ensures.counts (machine_in performed start stops c.args.at begun) (memory_of c.loop-left.meta c.idle.new.work) refl refl in
    let new = stage c.idle.new.work c.loop-left.meta c.idle.new.source c.loop-left.sink in
    let step = subst (λ fate. PerformedFor performed fate read.need begun.at new) c.in-Some-fate.is
    (subst (λ middle. PerformedFor performed read.fate read.need begun.at (record new { contents = middle })) (sym (r.ends some)) r.step) in
    drive-ends performed start stops c.args.at (g.P.Performer.declines c.args.performer) c.args.most read.need c.in-Some-fate.fate c.over.result begun new
    (record { room = c.in-Some.ensures.keeps.room; allowed = omega (arith, i.allowed, i.few, left, may.0, c.in-Some.ensures.some refl); few = omega (arith, i.wanted, i.few, left, may.0, c.in-Some.ensures.some refl); step = step; told = λ i. record { progress = c.over.ensures.progress i; steps = counts.0 i; peak = counts.1 i; fate = c.over.ensures.fate i } }) goes

pub loop-left-preserved-then-may_begin_idling : goal.loop-left-preserved-then-may_begin_idling
loop-left-preserved-then-may_begin_idling g c =
    let i = c.loop-left.invariant in
    let performed = g.P.Performer.performed c.args.performer in
    let w = c.scan_steps.new.work in
    let may = c.if-may_begin_idling.ensures.0 refl in
    let keeps = c.idle.ensures.keeps in
    let k = c.min-reach.result - c.loop-left.left in
    let idling = c.max-peak-in-Err-Idling.result in
    let top : idling ≤ c.loop-left.work.room = omega (arith, c.max-peak-in-Err-Idling.ensures, i.peak, may.1, c.idling_need.ensures.need, c.in-Err-Idling.ensures.keeps.room) in
    let peak : c.match-idle.peak ≤ c.loop-left.work.room =
    elim c.match-idle.branch [
      | in-Some+in_default-fate w ↦ omega (arith, w.peak-is, w.max-peak-in-Some.ensures, top, w.in-Some.ensures.fits, c.in-Err-Idling.ensures.keeps.room)
      | in_default w ↦ omega (arith, w.peak-is, top)
    ] in
    let ready : g.P.Performer.ready c.idle.new.source c.loop-left.sink =
    elim c.match-idle.branch [
      | in-Some+in_default-fate w ↦ w.in-Some.ensures.ready w.in_default-fate.is
      | in_default w ↦ subst (λ source. g.P.Performer.ready source c.loop-left.sink) (sym (w.in_default.ensures.begun refl).1.1) i.ready
    ] in
    record {
      few = omega (arith, c.idle.ensures.left, i.few);
      allowed = i.allowed;
      wanted = i.wanted;
      sound = keeps.sound;
      room = keeps.room ∙ c.in-Err-Idling.ensures.keeps.room ∙ i.room;
      peak = omega (arith, keeps.room, c.in-Err-Idling.ensures.keeps.room, peak);
      need = inl c.used-need-in-Err-Idling.ensures.value;
      ready = ready;
      goes = λ stops.
          let start = standing (turning stops c.args.work.now c.args.meta.now c.args.at) c.args.source.now c.args.sink.now in
          let at = stage w c.loop-left.meta c.loop-left.source c.loop-left.sink in
          let before = so_far at k c.loop-left.peak in
          let begun = so_far (record at { contents = idling_begun w }) (k + 8) idling in
          let new = so_far (stage c.idle.new.work c.loop-left.meta c.idle.new.source c.loop-left.sink) (c.min-reach.result - c.idle.new.left) c.match-idle.peak in
          let idle = drive-idling performed start stops c.args.at c.idling_need.result idling (k + 8) before
          (record { sound = c.in-Err-Idling.ensures.keeps.sound; none = ap (λ (w : Contents). w.active) c.in-Err-Idling.ensures.comes.0 ∙ subst (λ action. AsksFor action c.loop-left.work) c.in-Err-Idling.field-0-is c.in-Err-Idling.ensures.comes.1; fits = may.1; allowed = omega (arith, i.allowed, i.few, may.0); need_is = c.idling_need.ensures.need })
          c.max-peak-in-Err-Idling.ensures refl (subst (λ w. IsDriven performed start stops c.args.at (so_far (record at { contents = w }) before.done before.peak)) (sym c.in-Err-Idling.ensures.comes.0) (i.goes stops)) in
          elim c.match-idle.branch [
            | in-Some+in_default-fate w ↦
                let less = w.in-Some.ensures.goes_on w.in_default-fate.is in
                drive-read performed start stops c.args.at (c.loop-left.left - 8 - c.idle.new.left - 1) w.in-Some.read begun new
                (record { stage = refl; reads = w.in-Some.ensures.read; going = w.in_default-fate.is; room = keeps.room; allowed = omega (arith, i.allowed); peak_is = w.peak-is ∙ w.max-peak-in-Some.ensures; done_is = omega (arith, less, i.few, may.0) }) idle
            | in_default w ↦
                let stays = w.in_default.ensures.begun refl in
                let all : k + 8 ≡ c.min-reach.result - c.idle.new.left = omega (arith, stays.1.0, i.few, may.0) in
                subst (IsDriven performed start stops c.args.at) (λ i. record { at = record at { contents = sym stays.0 i; source = sym stays.1.1 i }; done = all i; peak = sym w.peak-is i }) idle
          ];
    }

pub returns-in-Some-fate-2-clause-driven : goal.returns-in-Some-fate-2-clause-driven
returns-in-Some-fate-2-clause-driven g c = λ stops.
    let i = c.loop-left.invariant in
    let start = standing (turning stops c.args.work.now c.args.meta.now c.args.at) c.args.source.now c.args.sink.now in
    let at = stage c.scan_steps.new.work c.loop-left.meta c.loop-left.source c.loop-left.sink in
    let new = stage c.perform.new.work c.perform.new.meta c.perform.new.source c.perform.new.sink in
    let here = so_far at (c.min-reach.result - c.loop-left.left) c.loop-left.peak in
    let performed = g.P.Performer.performed c.args.performer in
    let goes = subst (λ w. IsDriven performed start stops c.args.at (so_far (record at { contents = w }) here.done here.peak)) (sym c.in-Err.ensures.comes.0) (i.goes stops) in
    let h = c.in-Ok-perform.ensures in
    let last = c.in-Ok-perform.last in
    let counts = c.over-in-Some-fate-2.ensures.counts (machine_in performed start stops c.args.at here) (memory_of new.meta new.contents) refl refl in
    drive-ends performed start stops c.args.at (g.P.Performer.declines c.args.performer) c.args.most last.need c.in-Some-fate-2.fate c.over-in-Some-fate-2.result here new
    (record { room = h.keeps.room; allowed = omega (arith, i.allowed, i.few, c.loop-left-test.true); few = omega (arith, i.wanted, i.few, c.loop-left-test.true); step = subst (λ fate. PerformedFor performed fate last.need at new) c.in-Some-fate-2.is h.done; told = λ i. record { progress = c.over-in-Some-fate-2.ensures.progress i; steps = counts.0 i; peak = counts.1 i; fate = c.over-in-Some-fate-2.ensures.fate i } }) goes

pub loop-left-preserved : goal.loop-left-preserved
loop-left-preserved g c =
    let i = c.loop-left.invariant in
    let h = c.in-Ok-perform.ensures in
    let none = c.in_default-fate-2.is in
    let peak_is = c.max-peak-in-Err.ensures in
    let performed = g.P.Performer.performed c.args.performer in
    let at = stage c.scan_steps.new.work c.loop-left.meta c.loop-left.source c.loop-left.sink in
    let new = stage c.perform.new.work c.perform.new.meta c.perform.new.source c.perform.new.sink in
    record {
      few = omega arith;
      allowed = i.allowed;
      wanted = i.wanted;
      sound = h.keeps.sound;
      room = h.keeps.room ∙ c.in-Err.ensures.keeps.room ∙ i.room;
      peak = omega (arith, h.keeps.room, c.in-Err.ensures.keeps.room, h.fits, i.peak, peak_is);
      need = inl c.used-need-in-Err.ensures.value;
      ready = h.ready none;
      goes = λ stops.
          let start = standing (turning stops c.args.work.now c.args.meta.now c.args.at) c.args.source.now c.args.sink.now in
          let here = so_far at (c.min-reach.result - c.loop-left.left) c.loop-left.peak in
          drive-step performed start stops c.args.at c.in-Ok-perform.last.need here (so_far new (c.min-reach.result - (c.loop-left.left - 1)) c.max-peak-in-Err.result)
          h.keeps.room (omega (arith, i.allowed, i.few, c.loop-left-test.true)) (subst (λ fate. PerformedFor performed fate c.in-Ok-perform.last.need at new) none h.done) peak_is (omega (arith, i.few, c.loop-left-test.true))
          (subst (λ w. IsDriven performed start stops c.args.at (so_far (record at { contents = w }) here.done here.peak)) (sym c.in-Err.ensures.comes.0) (i.goes stops));
    }
