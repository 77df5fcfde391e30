use Rattle.trac_c.proofs.Imports.{◌++◌, drop, sym, ap, ◌∙◌}
use Rattle.trac_c.proofs.Buffers.{laid-front}
use Rattle.trac_c.proofs.filling.lay.Goals as goal

pub returns-clause-laid : goal.returns-clause-laid
returns-clause-laid c =
    let n = c.min-count.result in
    ap (λ front. front ++ drop n c.args.room.now) c.copy_from_slice.ensures.after ∙ sym (laid-front n c.args.bytes.now c.args.room.now c.min-count.ensures)
