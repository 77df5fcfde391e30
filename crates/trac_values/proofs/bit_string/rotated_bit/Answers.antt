use Rattle.trac_values.proofs.Imports.{◌*◌, ◌+◌, length, sym, ap, ◌∙◌, false, get_or, arith, mod-eq_of_lt, bits_of_cells}
use Rattle.trac_values.proofs.Shifts.{wrapped}
use Rattle.trac_values.proofs.bit_string.rotated_bit.Goals as goal

pub returns-then-moved-digits : goal.returns-then-moved-digits
returns-then-moved-digits c =
    c.bit_at.ensures ∙ ap (λ i. get_or (bits_of_cells c.args.digits.now) i false) (sym (mod-eq_of_lt {n = c.args.place + c.args.by} {m = 3 * length c.args.digits.now} (omega arith)))

pub returns-else-moved-digits : goal.returns-else-moved-digits
returns-else-moved-digits c =
    c.bit_at-else-moved-digits.ensures ∙ ap (λ i. get_or (bits_of_cells c.args.digits.now) i false) (sym (wrapped (c.args.place + c.args.by) (3 * length c.args.digits.now) (omega arith) (omega arith)))
