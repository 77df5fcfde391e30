use Rattle.trac_functions.proofs.Imports.{ap, flat_map, octal_prefix, bits_of_digit}
use Rattle.trac_functions.proofs.Fronts.{octal_prefix-front, inside, front-part, front-text}
use Rattle.trac_functions.proofs.DigitParts.{part_is_octal, digits_of_part}
use Rattle.trac_functions.proofs.bit_strings.digits_of.Goals as goal

pub returns-clause-digits : goal.returns-clause-digits
returns-clause-digits c = record {
  order = inside _ _ _ _ c.requires octal_prefix octal_prefix-front _ c.text.ensures.text c.octal_start.ensures;
  within = c.requires.within;
  octal = part_is_octal _ _ _ _ c.requires _ c.text.ensures.text c.octal_start.ensures;
}

pub returns-clause-before : goal.returns-clause-before
returns-clause-before c = front-part _ _ _ _ c.requires octal_prefix octal_prefix-front _ c.text.ensures.text c.octal_start.ensures

pub returns-clause-prefix : goal.returns-clause-prefix
returns-clause-prefix c = front-text _ _ _ _ c.requires octal_prefix octal_prefix-front _ c.text.ensures.text c.octal_start.ensures

pub returns-clause-bits : goal.returns-clause-bits
returns-clause-bits c = ap (flat_map bits_of_digit) (digits_of_part _ _ _ _ c.requires _ c.text.ensures.text c.octal_start.ensures)
