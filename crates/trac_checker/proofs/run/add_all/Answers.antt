use Rattle.std.proofs.Common.{◌∙◌, ap, map, refl, sym}
use Rattle.trac_warnings.specs.Watched.{said}
use Rattle.trac_checker.specs.FoundSoFar.{found_in, with_all}
use Rattle.trac_checker.proofs.Found.{adds}
use Rattle.trac_checker.proofs.run.add_all.Goals as goal

pub loop-warning-preserved : goal.loop-warning-preserved
loop-warning-preserved g c =
    let e = c.in_ok-add.ensures in
    let old = c.loop-warning.findings in
    let more = adds _ (λ a b. refl) old c.add.new.self c.in-Some.warning e.repeated e.counted e.others e.reported in
    ap (with_all (map said c.next.new.self.rest.items)) more
    ∙ ap (λ items. with_all (map said items) (found_in old)) (sym c.in-Some.ensures.steps.0) ∙ c.loop-warning.invariant
