use Rattle.trac_values.proofs.Imports.{◌≡◌, nat_cmp, text_of_cells, value_upto}
use Rattle.trac_values.proofs.comparing.compare_digits.Given as goal

-- the numbers up to the place are in this order
abbrev pub invariant-loop-place : goal.invariant-loop-place
invariant-loop-place l = l.order ≡ nat_cmp (value_upto (text_of_cells l.a) l.long l.place) (value_upto (text_of_cells l.b) l.long l.place)
