use Rattle.trac_values.proofs.Imports.{get_or, arith, sym, ap, ◌∙◌, false≢true}
use Rattle.trac_values.proofs.Texts.{read, same_more}
use Rattle.trac_values.proofs.text.equal.Goals as goal

pub returns-then-byte_in : goal.returns-then-byte_in
returns-then-byte_in c =
    let i = c.loop-i.i in
    let ra = read c.args.a.now i c.byte_in.result (omega arith) c.byte_in.ensures in
    let rb = read c.args.b.now i c.byte_in-in-loop-i.result (omega arith) c.byte_in-in-loop-i.ensures in
    ((λ t. absurd (false≢true t)), (λ same. absurd (c.if-byte_in.true (sym ra ∙ ap (λ t. get_or t i 0) same ∙ rb))))

pub loop-i-preserved : goal.loop-i-preserved
loop-i-preserved c =
    let i = c.loop-i.i in
    let ra = read c.args.a.now i c.byte_in.result (omega arith) c.byte_in.ensures in
    let rb = read c.args.b.now i c.byte_in-in-loop-i.result (omega arith) c.byte_in-in-loop-i.ensures in
    same_more c.args.a.now c.args.b.now i (omega arith) (omega arith) c.loop-i.invariant (ra ∙ c.if-byte_in.false ∙ sym rb)
