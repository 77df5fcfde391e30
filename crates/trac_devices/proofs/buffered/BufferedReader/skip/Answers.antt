use Rattle.trac_devices.proofs.Imports.{◌+◌, ◌≤◌, ap, length, arith, length-between}
use Rattle.trac_devices.proofs.Bytes.{input_skipped}
use Rattle.trac_devices.proofs.buffered.BufferedReader.skip.Goals as goal

pub returns : goal.returns
returns g c =
    let r = c.self.inside in
    let within : r.start + c.args.count ≤ r.end = omega (arith, c.requires, ap (λ v. length v.held) c.self.view_is, length-between r.bytes r.start r.end (omega arith)) in
    rw (← c.self.view_is) (input_skipped r.device r.bytes r.start c.args.count r.end within)
