use Rattle.trac_space.proofs.Imports.{◌≡◌, ℕ, suc, ◌+◌, ◌-◌, ◌≤◌, ◌%◌, ◌∙◌, ap, arith, sym, map, slice_range, length-between, numbered_part, parts_at, part_between}
use Rattle.trac_space.specs.Tags.{untagged}
use Rattle.trac_space.proofs.Filled.{part-within, part-stands, others-in}
use Rattle.trac_space.proofs.filling.part_numbered.Goals as goal
use Rattle.trac_space.proofs.filling.part_numbered.Goals.{After-part_end-end, Then-place-given}

-- the number of the part, from 0
abbrev place_of : ℕ → ℕ
place_of number = (number + 4294967295) % 4294967296

-- where it begins and ends, in order and within the cells
in_order : (c : After-part_end-end) → (c.part_begin-from.result ≤ c.part_end-end.result) × (c.part_end-end.result ≤ c.args.given.len)
in_order c =
    let part = slice_range c.args.cells.now c.args.given.start (c.args.given.start + c.args.given.len) in
    let h = part-within part c.args.given.commas c.requires.commas (place_of c.args.number) (omega (arith, c.if-place-given.false)) in (
      omega (arith, h.0, c.part_begin-from.ensures, c.part_end-end.ensures),
      omega (arith, h.1, c.part_end-end.ensures, length-between c.args.cells.now c.args.given.start (c.args.given.start + c.args.given.len) c.requires.inside),
    )

number_is : (c : After-part_end-end) → c.args.number ≡ suc (place_of c.args.number)
number_is c =
    let few = c.requires.commas.within in
    let size = length-between c.args.cells.now c.args.given.start (c.args.given.start + c.args.given.len) c.requires.inside in
    omega (arith, c.if-place-given.false, few, size, c.requires.inside, c.requires.bounded)

pub overflow_sub-result : goal.overflow_sub-result
overflow_sub-result c = (in_order (goal.at.overflow_sub-result c).After-part_end-end).0

pub overflow_add-result : goal.overflow_add-result
overflow_add-result c =
    let h = in_order (goal.at.overflow_add-result c).After-part_end-end in
    omega (arith, h.0, h.1, c.requires.inside, c.requires.bounded)

pub returns-clause-within : goal.returns-clause-within
returns-clause-within c =
    let h = in_order (goal.at.returns-clause-within c).After-part_end-end in
    omega (arith, h.0, h.1)

pub returns-clause-cells : goal.returns-clause-cells
returns-clause-cells c =
    let k = (goal.at.returns-clause-cells c).After-part_end-end in
    let h = in_order k in
    let start = c.args.given.start in
    let given = map untagged (slice_range c.args.cells.now start (start + c.args.given.len)) in
    part-stands c.args.cells.now start c.args.given.len c.part_begin-from.result c.part_end-end.result h.0 h.1 c.requires.inside
    ∙ ap (λ a. slice_range given a c.part_end-end.result) c.part_begin-from.ensures
    ∙ ap (λ b. slice_range given (numbered_part (parts_at 0 0 given) (suc (place_of c.args.number))).0 b) c.part_end-end.ensures
    ∙ ap (part_between given) (sym (number_is k))

pub returns-clause-others : goal.returns-clause-others
returns-clause-others c =
    let h = in_order (goal.at.returns-clause-others c).After-part_end-end in
    others-in c.args.cells.now c.args.given.start c.args.given.len c.args.given.commas c.part_begin-from.result (c.part_end-end.result - c.part_begin-from.result) c.requires.inside c.requires.commas (omega (arith, h.0, h.1))
