use Rattle.std.proofs.Common.{◌∙◌, ap, refl}
use Rattle.trac_warnings.specs.Counted.{counts_of}
use Rattle.std.specs.Cmp.Lexicographic.{on_texts}
use Rattle.trac_warnings.proofs.Counting.{not-defined, one-more}
use Rattle.trac_warnings.proofs.InOrder.{written-is-put}
use Rattle.trac_warnings.proofs.watch.Watch.count_call.Goals as goal

pub returns-in-Some-clause-counts : goal.returns-in-Some-clause-counts
returns-in-Some-clause-counts g c =
    let entries = c.args.self.now.written.entries in
    let old = c.in-Some.written.now in
    let new = record old { calls = c.saturating_add-written.result } in
    let there = c.in-Some.ensures.value in
    ap counts_of ((c.get_mut.follows.holds new).0 ∙ written-is-put (on_texts (λ v. v.items)) c.args.name.now old new entries c.get_mut.ensures.ordered there)
    ∙ one-more _ (λ a b. refl) entries c.args.name.now old new there c.saturating_add-written.ensures

pub returns-in_default-clause-counts : goal.returns-in_default-clause-counts
returns-in_default-clause-counts g c =
    ap (λ w. counts_of w.entries) c.get_mut.follows.holds-at-none
    ∙ not-defined _ (λ a b. refl) c.args.self.now.written.entries c.args.name.now c.in_default.ensures.value
