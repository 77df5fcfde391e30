use Rattle.trac_core.proofs.Imports.{inl, inr, ◌≢◌, refl, ap, sym, subst, ◌∙◌, Some, slice_get, text_of_cells, memory_of, stage, AsksFor}
use Rattle.trac_core.proofs.Performing.{performs-closed}
use Rattle.trac_core.proofs.Performed.{unperformed, uncalled, performs-other, performs-innermost, needs-innermost}
use Rattle.trac_core.proofs.StepsInRow.{tried-scanned}
use Rattle.std.specs.Prelude.{◌&&◌, is_none}
use Rattle.trac_core.proofs.Advancing.{uncalled-unasked, performed-alone}
use Rattle.trac_core.proofs.Answering.{unknown-innermost}
use Rattle.trac_core.proofs.performer.AlonePerformerUnitUnit.perform.Goals as goal

pub returns-then-needs_device-clause-done : goal.returns-then-needs_device-clause-done
returns-then-needs_device-clause-done c =
    let w = c.args.work.now in
    let asks = subst (λ front. AsksFor front w) c.in-EndOfCall.is c.requires.asks in
    let n = c.named-call.ensures.named in
    let names = sym (performs-innermost w c.named-call.result.place c.args.meta.now c.requires.sound asks.0 n.innermost) ∙ sym n.names in
    let needs = needs-innermost w c.named-call.result.place c.args.meta.now c.requires.sound asks.0 n.innermost in
    record { next = names; declined = inl (needs ∙ sym c.needs_device.ensures ∙ c.if-needs_device.true); same = refl }

pub returns-in-Idling-clause-done : goal.returns-in-Idling-clause-done
returns-in-Idling-clause-done c =
    let w = c.args.work.now in
    let meta = c.args.meta.now in
    let h = c.load_idling.ensures in
    let last = c.load_idling.result in
    let none = subst (λ front. AsksFor front w) c.in-Idling.is c.requires.asks in
    let other : slice_get (text_of_cells w.active) 0 ≢ Some 41 = λ e. (let first = ap (λ active. slice_get (text_of_cells active) 0) none in cc) in
    let uncalls = sym (performs-other w meta other) in
    performed-alone c.args.self.stops last.need last.fate (stage w meta c.args._source.now c.args._sink.now) (stage c.load_idling.new.work meta c.args._source.now c.args._sink.now)
    (unperformed (memory_of meta w) (uncalled (memory_of meta w) uncalls)) (uncalled-unasked c.args.self.stops (memory_of meta w) uncalls)
    (λ source written. tried-scanned last.fate w c.load_idling.new.work last.need h.scanned h.fits meta source written) h.fate (λ some. (h.forms, refl))

pub returns-then-asks_host-clause-done : goal.returns-then-asks_host-clause-done
returns-then-asks_host-clause-done c =
    let w = c.args.work.now in
    let asks = subst (λ front. AsksFor front w) c.in-EndOfCall.is c.requires.asks in
    let n = c.named-call.ensures.named in
    let names = sym (performs-innermost w c.named-call.result.place c.args.meta.now c.requires.sound asks.0 n.innermost) ∙ sym n.names in
    let same = unknown-innermost w c.named-call.result.place c.args.meta.now asks.0 n.innermost ∙ ap is_none (sym n.names) in
    record { next = names; declined = inr (ap (λ b. c.args.self.stops && b) same ∙ sym c.asks_host.ensures ∙ c.if-asks_host.true); same = refl }

pub returns-else-asks_host-clause-done : goal.returns-else-asks_host-clause-done
returns-else-asks_host-clause-done c =
    let w = c.args.work.now in
    let meta = c.args.meta.now in
    let asks = subst (λ front. AsksFor front w) c.in-EndOfCall.is c.requires.asks in
    let n = c.named-call.ensures.named in
    let needs = needs-innermost w c.named-call.result.place meta c.requires.sound asks.0 n.innermost in
    let same = unknown-innermost w c.named-call.result.place meta asks.0 n.innermost ∙ ap is_none (sym n.names) in
    let p = performs-closed w c.drop_active.new.self c.named-call.result.place c.requires.sound asks.0 n.innermost c.drop_active.ensures.rest in
    let h = c.perform_alone.ensures in
    performed-alone c.args.self.stops c.perform_alone.result.need c.perform_alone.result.fate (stage w meta c.args._source.now c.args._sink.now) (stage c.perform_alone.new.work c.perform_alone.new.meta c.args._source.now c.args._sink.now)
    (needs ∙ sym c.needs_device.ensures ∙ c.if-needs_device.false) (ap (λ b. c.args.self.stops && b) same ∙ sym c.asks_host.ensures ∙ c.if-asks_host.false)
    (λ source written. h.tried source written w p) h.fate (λ some. (let stays = h.stay some in (stays.0 ∙ ap (λ w. w.forms) c.drop_active.ensures.rest, stays.1)))
