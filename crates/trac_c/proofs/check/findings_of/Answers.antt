use Rattle.std.proofs.Common.{rules, length, subst}
use Rattle.trac_devices.specs.Slices.{SliceInput, stream_in}
use Rattle.trac_lent.specs.Arenas.{Lists}
use Rattle.trac_checker.specs.Warned.{found_of, names_of}
use Rattle.trac_checker.specs.WatchedRuns.{WatchesRun}
use Rattle.trac_c.proofs.check.findings_of.Goals as goal

pub returns-clause-ok : goal.returns-clause-ok
returns-clause-ok c =
    let w = c.in_ok-watched.watched in
    let names = names_of w.watch.names.items in
    let found = found_of w.findings.counts.entries in
    let left = stream_in c.watched.new.source in
    let watches = subst (λ (s : SliceInput). WatchesRun Lists c.args.script.now (length c.args.block.now) c.args.steps (stream_in s) left names found w.report) c.new-source.ensures (c.in_ok-watched.ensures.watches tt) in
    (names, (found, (w.report, ((left, watches), search rules))))
