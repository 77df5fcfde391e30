use Rattle.trac_image.proofs.Imports.{arith, length-take-le, sym}
use Rattle.trac_image.proofs.tests.changed.Goals as goal

pub slice_bounds-checksum_of-end : goal.slice_bounds-checksum_of-end
slice_bounds-checksum_of-end c = sym (length-take-le 37 c.altered-image.result (omega (arith, c.altered-image.type_inv)))
