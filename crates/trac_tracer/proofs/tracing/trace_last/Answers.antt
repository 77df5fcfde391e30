use Rattle.std.proofs.Common.{◌≡◌, ◌∙◌, ap, false, refl, subst, List, ℕ, Option, Some, None, Result, Ok, Err, IfOk}
use Rattle.trac_devices.specs.Devices.{Stream}
use Rattle.trac_devices.specs.Slices.{slice_input, stream_in}
use Rattle.trac_views.specs.declared.views.Views.{Views}
use Rattle.trac_tracer.specs.ShownRuns.{ShowsRun, views_from}
use Rattle.trac_tracer.specs.declared.options.Options.{Options}
use Rattle.trac_tracer.proofs.tracing.trace_last.Goals as goal

if_ok : {A E : Type 0} (r : Result A E) (P Q : A → Type 0) → ((a : A) → P a → Q a) → IfOk r P → IfOk r Q
if_ok (Ok a) P Q more p = more a p
if_ok (Err e) P Q more p = p

-- a source over memory has not ended when it is made
not_ended : (bytes : List ℕ) (fails_at : Option ℕ) → (slice_input bytes fails_at).ended ≡ false
not_ended bytes None = refl
not_ended bytes (Some place) = refl

pub returns : goal.returns
returns g c =
    let options = c.args.options.now in
    let first = c.in_ok-once.once.first in
    let source = c.new-source.result in
    let left = stream_in c.trace.new.source in
    let ended = ap (λ s. s.ended) c.new-source.ensures ∙ not_ended c.as_slice.result.now c.match-once.fails_at in
    let stream_is : stream_in source ≡ record { bytes = source.bytes; ended = false } = λ i. record { bytes = source.bytes; ended = ended i } in
    if_ok c.trace.result _ _
    (λ traced shown. (
      shown.0,
      (
        source.bytes,
        (
          left,
          (
            first,
            (
              shown.1.0,
              subst (λ (s : Stream). ShowsRun (views_from first options.views) options.cells options.steps s left traced.fate traced.first shown.0) stream_is
                  (subst (λ (v : Views). ShowsRun v options.cells options.steps (stream_in source) left traced.fate traced.first shown.0) c.beginning_at.ensures
                  (subst (λ (o : Options). ShowsRun o.views o.cells o.steps (stream_in source) left traced.fate traced.first shown.0) c.showing-options.ensures shown.1.1)),
            ),
          ),
        ),
      ),
    ))
    (c.trace.ensures.shows tt)
