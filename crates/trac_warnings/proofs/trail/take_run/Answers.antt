use Rattle.std.proofs.Common.{◌<◌, ◌-◌, ◌∙◌, ap, arith, reverse, subst}
use Rattle.std.specs.Prelude.{slice_set}
use Rattle.trac_warnings.specs.Origins.{shortened}
use Rattle.trac_warnings.proofs.LastRun.{last_shortened}
use Rattle.trac_warnings.proofs.trail.take_run.Goals as goal

pub returns-then-count-index : goal.returns-then-count-index
returns-then-count-index g c =
    let runs = c.args.runs.now.items in
    let count = c.args.count in
    let k = c.len-len.result - 1 in
    ap (λ run. reverse (slice_set runs k run)) (c.shortened.ensures ∙ ap (shortened count) c.index-then-count-index.ensures)
    ∙ last_shortened runs k count _ _ (omega (arith, c.len-len.ensures, c.if-len-gt0.true))
    (subst (λ run. count < run.len) c.index.ensures c.if-count-index.true)
