use Rattle.trac_values.proofs.Imports.{◌≡◌, ◌+◌, ◌-◌, length, get_or, sym, ap, ◌∙◌, arith, is_octal, text_of_cells}
use Rattle.trac_values.proofs.Texts.{length-text, read_at, read_passes}
use Rattle.trac_values.proofs.DigitBits.{intersection_at, intersection_past}
use Rattle.trac_values.proofs.bit_string.intersection_digit.Goals as goal

pub returns-then-place-short : goal.returns-then-place-short
returns-then-place-short c =
    let t = text_of_cells c.args.a.now in
    let u = text_of_cells c.args.b.now in
    sym (intersection_past t u c.min-short.result (omega (arith, length-text)) c.args.k (omega (arith, length-text)))

pub returns : goal.returns
returns c =
    let a = c.args.a.now in
    let b = c.args.b.now in
    let t = text_of_cells a in
    let u = text_of_cells b in
    let lt = length-text a in
    let lu = length-text b in
    let i = c.args.k + length a - c.min-short.result in
    let j = c.args.k + length b - c.min-short.result in
    let ei : i ≡ c.args.k + length t - c.min-short.result = omega arith in
    let ej : j ≡ c.args.k + length u - c.min-short.result = omega arith in
    sym (intersection_at t u c.min-short.result (omega arith) c.args.k c.character_of.result c.character_of-2.result (omega arith)
    (read_at a i c.character_of.result 48 (omega arith) c.character_of.ensures ∙ ap (λ i. get_or t i 48) ei)
    (read_at b j c.character_of-2.result 48 (omega arith) c.character_of-2.ensures ∙ ap (λ j. get_or u j 48) ej)
    (read_passes is_octal a i c.character_of.result c.requires.left (omega arith) c.character_of.ensures)
    (read_passes is_octal b j c.character_of-2.result c.requires.right (omega arith) c.character_of-2.ensures))
