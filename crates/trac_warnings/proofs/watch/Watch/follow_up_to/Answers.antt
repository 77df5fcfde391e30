use Rattle.std.proofs.Common.{arith, refl}
use Rattle.trac_warnings.proofs.watch.Watch.follow_up_to.Goals as goal

pub loop-row-init : goal.loop-row-init
loop-row-init g c =
    record {
      steps = omega arith;
      place = omega arith;
      pending = omega arith;
      follows = record { quiet = λ k less. absurd (omega (arith, less)); left = refl; within = omega arith; trail = refl; stays = refl; none = λ e. refl };
    }
