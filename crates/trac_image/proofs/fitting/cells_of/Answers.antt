use Rattle.std.proofs.Common.{◌≡◌, ap, arith, length}
use Rattle.trac_image.specs.Reading.{heads_in}
use Rattle.trac_image.proofs.Fitted.{cells-read}
use Rattle.trac_image.proofs.fitting.cells_of.Goals as goal

pub returns : goal.returns
returns c =
    let body : c.heads_of.result.body ≡ (heads_in c.args.text.now).body = ap (λ h. h.body) c.heads_of.ensures in
    omega (arith, body, ap length c.name_of.ensures, cells-read c.args.text.now)
