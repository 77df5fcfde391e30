use Rattle.std.proofs.Common.{◌++◌, ap, map, refl}
use Rattle.trac_warnings.specs.Watched.{said}
use Rattle.trac_warnings.proofs.Keeping.{kept_more, kept_same}
use Rattle.trac_warnings.proofs.Unmarked.{first-sign, next-sign}
use Rattle.trac_warnings.proofs.misspelled.look_at_names.Goals as goal

pub loop-place-init : goal.loop-place-init
loop-place-init g c =
    record {
      kept = kept_same _ _ refl;
      said = ap (λ t. map said c.args.warnings.now.items ++ t)
          (first-sign c.count_before-place.result c.args.input.now c.count_before-place.ensures.value);
    }

pub loop-place-preserved : goal.loop-place-preserved
loop-place-preserved g c =
    let i = c.loop-place.invariant in
    record {
      kept = kept_more _ _ _ i.kept c.look_at_name.ensures.kept;
      said = next-sign _ _ _ c.loop-place.place c.count_before.result c.args.input.now c.loop-place-test.true
          c.in_ok-look_at_name.ensures.said c.count_before.ensures.value i.said;
    }
