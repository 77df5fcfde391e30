use Rattle.trac_store.proofs.Imports.{◌∙◌, sym, arith, length-map, take_more_same, character_of, text_of_cells}
use Rattle.trac_store.proofs.Finding.{character-read, characters-differ}
use Rattle.trac_store.proofs.form_cells.is_text.Goals as goal

pub returns-then-byte_in : goal.returns-then-byte_in
returns-then-byte_in c =
    characters-differ c.args.cells.now c.args.text.now c.loop-i.i (omega (arith, c.requires.same)) (omega arith) (λ same. c.if-byte_in.true (c.byte_in.ensures ∙ same ∙ sym c.byte_in-in-loop-i.ensures))

pub loop-i-preserved : goal.loop-i-preserved
loop-i-preserved c =
    let i = c.loop-i.i in
    let a = c.args.cells.now in
    let b = c.args.text.now in
    let ra = character-read a i (omega (arith, c.requires.same)) ∙ sym c.byte_in.ensures in
    let rb = character-read b i (omega arith) ∙ sym c.byte_in-in-loop-i.ensures in
    take_more_same (text_of_cells a) (text_of_cells b) i 0 (omega (arith, length-map a character_of, c.requires.same)) (omega (arith, length-map b character_of)) c.loop-i.invariant (ra ∙ c.if-byte_in.false ∙ sym rb)
