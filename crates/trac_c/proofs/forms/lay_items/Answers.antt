use Rattle.trac_c.proofs.Imports.{◌∙◌, ap, arith, item_code}
use Rattle.std.proofs.lemmas.Option.{slice_get-get_or}
use Rattle.trac_language.specs.declared.item.Item.TheVariants.{Byte}
use Rattle.trac_c.specs.Forms.{code_of}
use Rattle.trac_c.proofs.Buffers.{laid-mapped}
use Rattle.trac_c.proofs.forms.lay_items.Goals as goal

pub loop-i-preserved : goal.loop-i-preserved
loop-i-preserved c =
    let body = c.args.form.now.body in
    let code = c.item_code.ensures ∙ ap code_of (c.item.ensures ∙ slice_get-get_or body c.loop-i.i (Byte 0) (omega arith)) in
    record {
      laid = laid-mapped item_code body c.args.room.now c.loop-i.i (Byte 0) _ c.loop-i.room c.put.new.room (omega arith) code c.loop-i.invariant.laid c.put.ensures;
      within = omega arith;
    }
