use Rattle.trac_space.proofs.Imports.{◌≡◌, ℕ, ◌+◌, ◌-◌, ◌≤◌, List, length, take, replicate, arith, rules, take-length, places, same_lists, elements, put_mid, Cell, Byte}
use Rattle.trac_space.proofs.block.blank_by.Goals as goal

-- the first n of the blank cells in `part` are put behind `done` blank cells
module _ (was part new : List Cell) (done n : ℕ) (within : done + n ≤ length was) (few : n ≤ length part) (is : new ≡ take (done + n - done) part) where
  more-blank : take done was ≡ replicate done (Byte 0) → part ≡ replicate (length part) (Byte 0) → take (done + n) (put_mid done (done + n - done) was new) ≡ replicate (done + n) (Byte 0)
  more-blank before blank = rw is (same_lists _ _ (search (rules, places)) (λ i d less. grind (arith, elements)))

  still-long : done + n ≤ length (put_mid done (done + n - done) was new)
  still-long = rw is (search (rules, places))

pub loop-done-preserved : goal.loop-done-preserved
loop-done-preserved c =
    let was = c.loop-done.cells in
    let part = c.args.part.now in
    let n = c.min.result in
    let within : c.loop-done.done + n ≤ length was = omega (arith, c.min.ensures, c.loop-done-test.true) in
    let few : n ≤ length part = omega (arith, c.min.ensures) in
    record {
      within = still-long was part c.copy_from_slice.new.self c.loop-done.done n within few c.copy_from_slice.ensures.after;
      blank = more-blank was part c.copy_from_slice.new.self c.loop-done.done n within few c.copy_from_slice.ensures.after c.loop-done.invariant.blank c.requires.blank;
    }

pub returns : goal.returns
returns c = rw (← take-length c.loop-done.cells) (grind (arith, c.loop-done.invariant.blank))
