use Rattle.std.proofs.Common.{◌≡◌, ◌∙◌, ◌++◌, ap, arith, false, length, map}
use Rattle.std.proofs.lemmas.Bool.{le-ltb}
use Rattle.std.specs.Prelude.{nat_lt, reverse}
use Rattle.trac_warnings.specs.StepWarnings.{end_warnings, ended, is_dropped_last, not_ended}
use Rattle.trac_warnings.specs.Watched.{said}
use Rattle.trac_warnings.proofs.Keeping.{kept_more}
use Rattle.trac_warnings.proofs.Said.{len_popped, next_end, next_not_ended}
use Rattle.trac_warnings.specs.declared.watch.Watch.{Watch}
use Rattle.trac_warnings.proofs.watch.Watch.warn_of_each_end.Goals as goal

pub loop-preserved : goal.loop-preserved
loop-preserved g c =
    let i = c.loop.invariant in
    let reported = c.in_ok-warn_of_end.ensures in
    let less : nat_lt c.in-Some.string.rest c.args.active ≡ false = le-ltb _ _ (omega (arith, c.if-active-string.false)) in
    let runs : c.warn_of_end.new.self.runs.items ≡ c.loop.self.runs.items = ap (λ (w : Watch g.row.A.Denot). w.runs.items) reported.stays in
    let read : c.warn_of_end.new.self.read ≡ c.loop.self.read = ap (λ (w : Watch g.row.A.Denot). w.read) reported.stays in
    let calls : c.warn_of_end.new.self.calls.items ≡ c.loop.self.calls.items = ap (λ (w : Watch g.row.A.Denot). w.calls.items) reported.stays in
    let written : c.warn_of_end.new.self.written ≡ c.loop.self.written = ap (λ (w : Watch g.row.A.Denot). w.written) reported.stays in
    let left = ap (λ (w : Watch g.row.A.Denot). w.strings.items) reported.stays in
    record {
      runs = runs ∙ i.runs;
      read = read ∙ i.read;
      kept = kept_more _ _ _ i.kept reported.kept;
      calls = calls ∙ i.calls;
      written = written ∙ i.written;
      len = omega (arith, ap length left, len_popped _ _ c.in-Some.string c.in-Some.ensures.items, i.len);
      strings = ap (λ t. not_ended c.args.active (reverse t)) left ∙ next_not_ended c.args.active _ c.in-Some.string _ _ less c.in-Some.ensures.items i.strings;
      said = ap (λ t. ended c.args.rule c.args.active c.args.here c.args.self.now.calls.items (map said c.warn_of_end.new.self.warnings.items) (reverse t)) left
          ∙ next_end c.args.rule c.args.active c.args.here c.args.self.now.calls.items _ _ _ c.is_unmatched.result c.in-Some.string _ _ less c.in-Some.ensures.items c.is_unmatched.ensures
          (reported.said ∙ ap (λ t. map said c.loop.self.warnings.items ++ end_warnings c.is_unmatched.result (is_dropped_last (map said c.loop.self.warnings.items)) c.args.here t c.in-Some.string) i.calls) i.said;
    }
