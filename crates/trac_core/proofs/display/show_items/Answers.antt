use Rattle.trac_core.proofs.Imports.{◌∙◌, arith}
use Rattle.trac_devices.proofs.PutTexts.{prints-err}
use Rattle.trac_core.proofs.FormDisplay.{displays-on, displays-broken}
use Rattle.trac_core.proofs.display.show_items.Goals as goal

pub returns-in_err-place-clause-prints : goal.returns-in_err-place-clause-prints
returns-in_err-place-clause-prints g c = λ told.
    let i = c.loop-place.invariant in
    prints-err c.from_residual.result _ _ _ c.from_residual.ensures.0
    (displays-broken _ _ _ c.args.form.now.body c.args.from c.loop-place.place i.above (i.writes told) c.args.to i.below (c.in_err-place.ensures.prints (i.told told)))

pub loop-place-preserved : goal.loop-place-preserved
loop-place-preserved g c =
    let i = c.loop-place.invariant in
    let h = c.in_ok-place.ensures in
    record {
      above = let a = i.above in omega (arith, h.further);
      below = omega (arith, h.further);
      counts = omega (arith, h.counts, i.counts);
      kept = h.kept ∙ i.kept;
      told = λ told. h.told (i.told told);
      writes = λ told. displays-on _ _ _ c.args.form.now.body c.args.from c.loop-place.place i.above (i.writes told) _ (omega (arith, h.further)) (h.prints (i.told told));
    }
