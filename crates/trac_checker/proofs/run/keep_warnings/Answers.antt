use Rattle.std.proofs.Common.{◌∙◌, ap, refl}
use Rattle.trac_warnings.specs.declared.watch.Watch.{Watch}
use Rattle.trac_checker.specs.FoundSoFar.{found_in}
use Rattle.trac_checker.proofs.Found.{adds, taken}
use Rattle.trac_checker.proofs.run.keep_warnings.Goals as goal

pub loop-warning-preserved : goal.loop-warning-preserved
loop-warning-preserved g c =
    let e = c.in_ok-add.ensures in
    let i = c.loop-warning.invariant in
    let old = c.loop-warning.findings in
    let left = c.take_warning.new.self.warnings in
    let more = adds _ (λ a b. refl) old c.add.new.self c.in-Some.warning e.repeated e.counted e.others e.reported in
    record {
      stays = c.take_warning.ensures.stays ∙ ap (λ (w : Watch g.row.A.Denot). record w { warnings = left }) i.stays;
      found = taken c.loop-warning.watch.warnings.items left.items c.in-Some.warning (found_in old) (found_in c.add.new.self) _ c.in-Some.ensures.left more i.found;
    }
