use Rattle.std.proofs.lemmas.List.{take_rest}
use Rattle.trac_space.proofs.Imports.{ap, ◌∙◌, bytes}
use Rattle.trac_space.proofs.ByteBlocks.{last-written}
use Rattle.trac_space.proofs.byte_writing.write_many.Goals as goal

pub returns : goal.returns
returns c =
    let left = c.write_each.ensures ∙ ap bytes (take_rest c.args.text.now c.write_blocks-done.result) in
    last-written c.args.text.now c.args.cells.now c.write_blocks-done.new.cells c.write_each.new.cells c.write_blocks-done.result c.requires c.write_blocks-done.ensures.within c.write_blocks-done.ensures.written left
