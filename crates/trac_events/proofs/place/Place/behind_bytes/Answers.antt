use Rattle.std.proofs.Common.{◌+◌, ◌∙◌, ap, arith, drop, get_or, subst, sym}
use Rattle.std.specs.Prelude.{◌≤◌, ◌^◌, ◌-◌}
use Rattle.std.proofs.lemmas.List.{drop_more}
use Rattle.trac_events.specs.Places.{behind, behind_text}
use Rattle.trac_events.specs.declared.place.Place.{Place}
use Rattle.trac_events.proofs.Columns.{column-fits, next-apart}
use Rattle.trac_events.proofs.place.Place.behind_bytes.Goals as goal

pub loop-done-preserved-then-done-bytes : goal.loop-done-preserved-then-done-bytes
loop-done-preserved-then-done-bytes c =
    let bytes = c.args.bytes.now in
    let i = c.loop-done.invariant in
    let at = c.loop-done.done + c.count_before-plain.result in
    let place = c.in_columns-place.result in
    let fits = subst (λ (p : Place). p.column ≤ 2 ^ 64 - 1) (sym c.in_columns-place.ensures) (omega arith) in
    record {
      same = ap (λ p. behind_text p (drop (at + 1) bytes)) c.behind-place.ensures
          ∙ ap (behind_text place) (sym (drop_more bytes at 0 c.if-done-bytes.true))
          ∙ ap (λ p. behind_text p (drop at bytes)) c.in_columns-place.ensures
          ∙ sym (next-apart c.loop-done.place bytes c.loop-done.done c.count_before-plain.result i.fits
          c.count_before-plain.ensures.value) ∙ i.same;
      fits = subst (λ (p : Place). p.column ≤ 2 ^ 64 - 1) (sym c.behind-place.ensures)
          (column-fits place (get_or bytes at 0) fits);
    }

pub loop-done-preserved : goal.loop-done-preserved
loop-done-preserved c =
    let bytes = c.args.bytes.now in
    let i = c.loop-done.invariant in
    let at = c.loop-done.done + c.count_before-plain.result in
    record {
      same = ap (λ p. behind_text p (drop at bytes)) c.in_columns-place.ensures
          ∙ sym (next-apart c.loop-done.place bytes c.loop-done.done c.count_before-plain.result i.fits
          c.count_before-plain.ensures.value) ∙ i.same;
      fits = subst (λ (p : Place). p.column ≤ 2 ^ 64 - 1) (sym c.in_columns-place.ensures) (omega arith);
    }
