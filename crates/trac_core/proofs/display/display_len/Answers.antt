use Rattle.trac_core.proofs.Imports.{◌≡◌, ◌+◌, ◌∙◌, length, slice_range, ap, sym, arith, show}
use Rattle.trac_core.proofs.Printed.{length-show-on, length-display, whole-body}
use Rattle.trac_core.proofs.display.display_len.Goals as goal

pub loop-place-preserved : goal.loop-place-preserved
loop-place-preserved c =
    let i = c.loop-place.invariant in
    let h = c.next_len-more.ensures in
    let more = length-show-on c.args.form.now.body c.loop-place.place c.next_len-more.result.1 (omega (arith, h.further)) in
    record {
      below = h.further.1;
      counted = omega (arith, i.counted, more, h.length);
      few = omega (arith, i.few, h.short, h.further);
    }

pub returns : goal.returns
returns c =
    let form = c.args.form.now in
    let i = c.loop-place.invariant in
    let end : c.loop-place.place ≡ length form.body = omega (arith, i.below) in
    i.counted ∙ ap (λ n. 3 + length (show (slice_range form.body 0 n))) end ∙ ap (λ items. 3 + length (show items)) (whole-body form.body) ∙ sym (length-display form)
