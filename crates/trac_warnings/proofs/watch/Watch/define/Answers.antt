use Rattle.std.proofs.Common.{◌∙◌, ap, refl}
use Rattle.trac_warnings.specs.Counted.{counts_of}
use Rattle.trac_warnings.proofs.Counting.{defined}
use Rattle.trac_warnings.proofs.watch.Watch.define.Goals as goal

pub returns-in_ok-push-clause-counts : goal.returns-in_ok-push-clause-counts
returns-in_ok-push-clause-counts g c =
    ap counts_of c.in_ok-put.ensures ∙ defined _ (λ a b. refl) c.args.self.now.written.entries c.args.name _ _ refl refl

pub returns-else-branch-new-clause-counts : goal.returns-else-branch-new-clause-counts
returns-else-branch-new-clause-counts g c =
    ap counts_of c.in_ok-put.ensures ∙ defined _ (λ a b. refl) c.args.self.now.written.entries c.args.name _ _ refl refl
