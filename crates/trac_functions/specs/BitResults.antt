-- Results of bits, made of octal digits that stand in the neutral string.
use Rattle.std.specs.Prelude.{◌-◌, ◌*◌, ◌<◌, ◌≤◌, List, length, slice_range, pos}
use Rattle.trac_language.specs.Text.{Text}
use Rattle.trac_language.specs.BitString.{Bits, octal, union, intersection, complement, shifted}
use Rattle.trac_language.specs.BitString.{rotated}
use Rattle.trac_space.specs.declared.cell.Cell.{Cell}
use Rattle.trac_space.specs.declared.part.Part.{Part}
use Rattle.trac_values.specs.Digits.{IsOctal, bits_of_cells, signed}
use Rattle.trac_functions.specs.declared.bit_strings.BitResult.{BitResult}
use Rattle.trac_functions.specs.declared.bit_strings.BitResult.TheVariants.{Union, Intersection}
use Rattle.trac_functions.specs.declared.bit_strings.BitResult.TheVariants.{Complement, Shift}
use Rattle.trac_functions.specs.declared.bit_strings.BitResult.TheVariants.{Rotation}

-- the cells of a part are octal digits
pub record AreDigits (neutral : List Cell) (part : Part) : Type 0 where
  pub order : part.from ≤ part.to
  pub within : part.to ≤ length neutral
  pub octal : IsOctal (slice_range neutral part.from part.to)

-- the bits of a part
abbrev pub bits_at : List Cell → Part → Bits
bits_at neutral part = bits_of_cells (slice_range neutral part.from part.to)

-- the parts of a result are octal digits, and a rotation goes less than once round them
abbrev pub AreFor : List Cell → BitResult → Type 0
AreFor neutral (Union a b) = AreDigits neutral a × AreDigits neutral b
AreFor neutral (Intersection a b) = AreDigits neutral a × AreDigits neutral b
AreFor neutral (Complement a) = AreDigits neutral a
AreFor neutral (Shift by a) = AreDigits neutral a
AreFor neutral (Rotation by a) = AreDigits neutral a × (a.from < a.to → by < 3 * (a.to - a.from))

-- the bits of a result
abbrev pub bits_made : List Cell → BitResult → Bits
bits_made neutral (Union a b) = union (bits_at neutral a) (bits_at neutral b)
bits_made neutral (Intersection a b) = intersection (bits_at neutral a) (bits_at neutral b)
bits_made neutral (Complement a) = complement (bits_at neutral a)
bits_made neutral (Shift by a) = shifted (signed by.negative by.size) (bits_at neutral a)
bits_made neutral (Rotation by a) = rotated (pos by) (bits_at neutral a)

-- the octal digits of a result
abbrev pub octal_made : List Cell → BitResult → Text
octal_made neutral result = octal (bits_made neutral result)
