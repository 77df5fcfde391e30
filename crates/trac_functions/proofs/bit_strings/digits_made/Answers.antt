use Rattle.trac_functions.proofs.Imports.{◌∙◌, pos, signed}
use Rattle.trac_functions.proofs.BitResults.{union-digits, intersection-digits, complement-digits, shift-digits, rotation-digits}
use Rattle.trac_functions.proofs.bit_strings.digits_made.Goals as goal

pub returns-in-Union : goal.returns-in-Union
returns-in-Union c = let are = rw c.in-Union.is at c.requires in rw c.in-Union.is (c.max.ensures ∙ union-digits _ _ are.0 _ are.1)

pub returns-in-Intersection : goal.returns-in-Intersection
returns-in-Intersection c = let are = rw c.in-Intersection.is at c.requires in rw c.in-Intersection.is (c.min.ensures ∙ intersection-digits _ _ are.0 _ are.1)

pub returns-in-Complement : goal.returns-in-Complement
returns-in-Complement c = let are = rw c.in-Complement.is at c.requires in rw c.in-Complement.is (complement-digits _ _ are)

pub returns-in-Shift : goal.returns-in-Shift
returns-in-Shift c =
    let are = rw c.in-Shift.is at c.requires in
    let by = c.in-Shift.field-0 in
    rw c.in-Shift.is (shift-digits _ _ are (signed by.negative by.size))

pub returns-in-Rotation : goal.returns-in-Rotation
returns-in-Rotation c = let are = rw c.in-Rotation.is at c.requires in rw c.in-Rotation.is (rotation-digits _ _ are.0 (pos c.in-Rotation.field-0))
