use Rattle.trac_functions.proofs.Imports.{◌∷◌, ap, ◌∙◌, refl, Union, bits, union, argument, meaning_of, bits_at, texts}
use Rattle.trac_functions.proofs.BitResults.{bits-valued}
use Rattle.trac_functions.proofs.bit_strings.union.Goals as goal

pub returns-clause-makes : goal.returns-clause-makes
unfolding meaning_of
returns-clause-makes c = λ name.
    let w = c.args.work.now in
    let ts = texts w c.args.arguments in
    let second = c.next-second.ensures.text ∙ c.next-first.ensures.later 0 in
    let right = c.digits_of-right.ensures.bits ∙ ap (λ t. bits t) second in
    c.give_bits.ensures.makes Union (name ∷ ts) c.args.arguments.scanned
    (bits-valued Union (name ∷ ts) (λ l. union l (bits (argument ts 1))) _ (λ _. refl) (λ _. refl) w.forms _ _ _ _ c.next-first.ensures.text c.digits_of-left.ensures.prefix c.digits_of-left.ensures.bits
    (ap (union (bits_at w.neutral c.digits_of-left.result)) right))
