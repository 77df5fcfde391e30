use Rattle.trac_c.proofs.Imports.{◌+◌, ◌∙◌, get_or, sym, ap, arith, Byte, is_open_after}
use Rattle.trac_c.proofs.Coding.{next-call, call-before}
use Rattle.trac_c.proofs.strings.is_open_before.Goals as goal

pub returns-then-is_in_call : goal.returns-then-is_in_call
returns-then-is_in_call c =
    let i = c.loop-i.i in
    let cells = c.args.cells.now in
    let cell = get_or cells i (Byte 0) in
    let opened = next-call cells i (omega arith) ∙ ap (is_open_after cell) c.loop-i.invariant.none ∙ sym c.is_in_call.ensures ∙ c.if-is_in_call.true in
    sym (call-before cells (i + 1) c.args.place (omega arith) c.requires opened)

pub loop-i-preserved : goal.loop-i-preserved
loop-i-preserved c =
    let i = c.loop-i.i in
    let cells = c.args.cells.now in
    let cell = get_or cells i (Byte 0) in
    record {
      none =
          next-call cells i (omega arith) ∙ ap (is_open_after cell) c.loop-i.invariant.none ∙ sym c.is_in_call.ensures
          ∙ c.if-is_in_call.false;
      within = omega arith;
    }
