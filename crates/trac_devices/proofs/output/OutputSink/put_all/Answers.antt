use Rattle.trac_devices.proofs.Imports.{◌-◌, ◌≤◌, ◌++◌, length, take, drop, sym, ap, subst, ◌∙◌, arith, take-add, length-drop, Appends, Appends-trans, take-append-drop, IsSome, accepted}
use Rattle.trac_devices.proofs.Bytes.{appended_known, rest_is}
use Rattle.trac_devices.proofs.output.OutputSink.put_all.Goals as goal

pub loop-taken-preserved : goal.loop-taken-preserved
loop-taken-preserved g c =
    let done = c.loop-taken.taken in
    let n = c.in-Ok.count in
    let text = c.args.text.now in
    let rest = rest_is text c.part-rest.result done _ c.part-rest.ensures c.len-in-loop-taken.ensures in
    let before = c.loop-taken.invariant in
    let few : n ≤ length text - done = omega (arith, c.in-Ok.ensures.bound, ap length rest, length-drop done text) in
    let joined = ap (λ l. take done text ++ l) (ap (take n) rest) ∙ sym (take-add done n text) in
    record {
      within = omega (arith, few, before.within);
      counts = c.in-Ok.ensures.failures ∙ before.counts;
      appends = subst (Appends _ _) joined (Appends-trans _ _ _ _ _ before.appends c.in-Ok.ensures.bytes);
    }

pub returns-in-Err-clause-prints : goal.returns-in-Err-clause-prints
returns-in-Err-clause-prints g c = λ told.
    let taken = c.loop-taken.taken in
    let xs = c.args.text.now in
    let known = subst (λ v. IsSome (accepted g.W.Write.contents v)) (sym c.self.view_is) told in
    rw (← c.self.view_is)
    (take taken xs, (drop taken xs, (sym (take-append-drop taken xs), appended_known _ _ _ (take taken xs) c.loop-taken.invariant.appends c.in-Err.ensures.bytes known)))
