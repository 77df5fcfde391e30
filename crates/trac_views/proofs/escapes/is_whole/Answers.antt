use Rattle.std.proofs.Common.{◌∙◌, arith}
use Rattle.trac_views.proofs.ShownTexts.{utf8_test, whole_is, whole_no}
use Rattle.trac_views.proofs.escapes.is_whole.Goals as goal

pub returns-then-bytes-len : goal.returns-then-bytes-len
returns-then-bytes-len c = whole_no c.args.len c.args.bytes.now c.if-bytes-len.true

pub returns : goal.returns
returns c =
    whole_is c.args.len c.args.bytes.now c.is_ok.result (omega (arith, c.if-bytes-len.false))
    (c.is_ok.ensures.value ∙ utf8_test _ _ c.from_utf8.result _ c.from_utf8.ensures.cases)
