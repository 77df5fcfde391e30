use Rattle.trac_functions.proofs.Imports.{◌∷◌, refl, Complement, complement, meaning_of, texts}
use Rattle.trac_functions.proofs.BitResults.{bits-valued}
use Rattle.trac_functions.proofs.bit_strings.complement.Goals as goal

pub returns-clause-makes : goal.returns-clause-makes
unfolding meaning_of
returns-clause-makes c = λ name.
    let w = c.args.work.now in
    let args = name ∷ texts w c.args.arguments in
    c.give_bits.ensures.makes Complement args c.args.arguments.scanned
    (bits-valued Complement args complement _ (λ _. refl) (λ _. refl) w.forms _ _ _ _ c.next-first.ensures.text c.digits_of-digits.ensures.prefix c.digits_of-digits.ensures.bits refl)
