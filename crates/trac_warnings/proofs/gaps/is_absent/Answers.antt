use Rattle.std.proofs.Common.{◌∙◌, ap, sym, arith}
use Rattle.std.specs.Prelude.{not}
use Rattle.trac_warnings.proofs.Searched.{absent}
use Rattle.trac_warnings.proofs.gaps.is_absent.Goals as goal

pub returns : goal.returns
returns c =
    let given = sym c.is_empty.ensures ∙ c.if-is_empty.false in
    let left = c.if-pointer-body_len.false in
    let from = c.pointer.ensures.value in
    let long = c.body_len.ensures.value in
    ap not c.stands_in_rest.ensures ∙ sym (absent c.args.text.now c.args.form.now given (omega (arith, left, from, long)))
