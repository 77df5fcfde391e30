use Rattle.std.proofs.Common.{◌++◌, ap, map, refl}
use Rattle.trac_warnings.specs.Watched.{said}
use Rattle.trac_warnings.proofs.Keeping.{kept_more, kept_same}
use Rattle.trac_warnings.proofs.Unmarked.{first-mark, next-mark}
use Rattle.trac_warnings.proofs.written.look_at_spelling.Goals as goal

pub loop-place-init : goal.loop-place-init
loop-place-init g c =
    record {
      kept = kept_same _ _ refl;
      said = ap (λ t. map said c.args.warnings.now.items ++ t)
          (first-mark c.count_before-place.result c.args.input.now c.count_before-place.ensures.value);
    }

pub loop-place-preserved : goal.loop-place-preserved
loop-place-preserved g c =
    let i = c.loop-place.invariant in
    let at = c.loop-place in
    record {
      kept = kept_more _ _ _ i.kept c.look_at_mark.ensures.kept;
      said = next-mark _ _ _ at.is_reported at.is_behind_sign _ at.place c.count_before-unmarked.result
          c.args.input.now c.loop-place-test.true
          c.in_ok-is_reported.ensures.said c.in_ok-is_reported.ensures.reported
          c.count_before-unmarked.ensures.value i.said;
    }
