use Rattle.trac_space.proofs.Imports.{◌≡◌, ℕ, ◌+◌, ◌*◌, ◌/◌, ◌<◌, ◌≤◌, List, ◌++◌, ◌-◌, length, take, replicate, sym, ap, ◌∙◌, arith, rules, mod-lt, take-length, div-add-mod', places, same_lists, length-replicate, elements, Cell, Byte}
use Rattle.trac_space.proofs.block.put_blanks.Goals as goal

-- blank cells behind blank cells
more-blank : (was part : List Cell) (n : ℕ) → was ≡ replicate (length was) (Byte 0) → part ≡ replicate (length part) (Byte 0) → n ≤ length part → was ++ take n part ≡ replicate (length was + n) (Byte 0)
more-blank was part n before blank within =
    same_lists _ _ (search (rules, places)) (λ i d less. grind (arith, elements))

-- after all whole parts there is room for less than one
few-left : (cells was now n : ℕ) → 0 < n → was ≤ cells → now ≡ was + (cells - was) / n * n → (now ≤ cells) × (cells - now ≤ n)
few-left cells was now n some fewer parts =
    let split = div-add-mod' (cells - was) n in
    let rest = mod-lt (cells - was) some in
    (omega arith, omega arith)

pub loop-part-preserved : goal.loop-part-preserved
loop-part-preserved c =
    let was = c.loop-part.block.items in
    let part = c.args.part.now in
    let now = c.extend_from_slice.new.self.items in
    let n = length part in
    let made : now ≡ was ++ part = c.in_ok-extend_from_slice.ensures.items in
    let all = made ∙ ap (λ cells. was ++ cells) (sym (take-length part)) ∙ more-blank was part n c.loop-part.invariant.blank c.requires.blank (omega arith) in
    let long : length now ≡ length was + n = ap length all ∙ length-replicate (length was + n) (Byte 0) in
    let parts = c.loop-part.invariant.parts in
    record {
      blank = all ∙ ap (λ k. replicate k (Byte 0)) (sym long);
      parts = omega arith;
    }

pub returns : goal.returns
returns c =
    let was = c.loop-part.block.items in
    let n = c.args.cells - c.len-2.result in
    let len = c.len-2.ensures in
    let before = length c.args.block.now.items in
    let part = length c.args.part.now in
    let same : c.len.result ≡ before = omega (arith, c.len.ensures) in
    let room : (c.args.cells - c.len.result) / part ≡ (c.args.cells - before) / part = ap (λ len. (c.args.cells - len) / part) same in
    let all : c.loop-part._part ≡ (c.args.cells - before) / part = omega (arith, room, c.loop-part-test.false, c.loop-part.auto._part-end) in
    let few = few-left c.args.cells before (length was) part c.requires.some c.requires.fewer (c.loop-part.invariant.parts ∙ ap (λ k. before + k * part) all) in
    let all = c.in_ok-extend_from_slice-2.ensures.items ∙ more-blank was c.args.part.now n c.loop-part.invariant.blank c.requires.blank (omega (arith, few.1)) in
    all ∙ ap (λ k. replicate k (Byte 0)) (omega (arith, few.0))
