use Rattle.std.proofs.Common.{◌≡◌, ap, arith}
use Rattle.trac_image.specs.Reading.{heads_in}
use Rattle.trac_image.proofs.fitting.is_fit.Goals as goal

pub returns : goal.returns
returns c =
    let heads = c.heads_of-heads.ensures in
    let body : c.heads_of-heads.result.body ≡ (heads_in c.args.text.now).body = ap (λ h. h.body) heads in
    let pointer : c.heads_of-heads.result.pointer ≡ (heads_in c.args.text.now).pointer = ap (λ h. h.pointer) heads in (
      λ yes. (
          let whole = c.has_items.ensures.0 yes in
          record {
            parts = whole.0;
            pointer = omega (arith, body, pointer, c.if-heads.false);
            gaps = whole.1;
          }
          ),
      λ fit. c.has_items.ensures.1 (fit.parts, fit.gaps),
    )
