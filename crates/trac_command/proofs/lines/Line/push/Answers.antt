use Rattle.std.proofs.Common.{◌≡◌, ◌+◌, ◌-◌, ◌≤◌, ◌<◌, take, drop, length, arith, List, ℕ, Some, ap, sym, ◌∙◌}
use Rattle.std.proofs.Common.{slice_get, set}
use Rattle.std.proofs.lemmas.Grind.{common_steps}
use Rattle.std.proofs.lemmas.List.{take-set, length-set, get_or-set_same, length-drop}
use Rattle.std.proofs.lemmas.Option.{slice_get-get_or}
use Rattle.std.proofs.lemmas.Slice.{take-put_mid, drop-put_mid}
use Rattle.trac_command.proofs.OneLine.{one_line-append}
use Rattle.trac_command.proofs.lines.Line.push.Goals as goal

-- a byte that was written at a place is read there
read_back : (bytes : List ℕ) (n b : ℕ) → n < length bytes → slice_get (set bytes n b) n ≡ Some b
read_back bytes n b inside =
    slice_get-get_or (set bytes n b) n 0 (rw length-set inside) ∙ ap Some (get_or-set_same bytes n b 0 inside)

-- a list is longer than a place if something stands behind it
longer : (xs ys : List ℕ) (n : ℕ) → drop n xs ≡ drop n ys → n < length ys → n < length xs
longer xs ys n same inside = omega (arith, length-drop n xs, length-drop n ys, ap length same)

pub invariant_of-self : goal.invariant_of-self
invariant_of-self c =
    let old = c.self.inside in
    let text = c.args.text.now in
    let seen : take old.len old.bytes ≡ c.args.self.now = c.self.view_is in
    let long : old.len + length text ≤ 80 = grind (arith, common_steps) in
    let written : c.copy_from_slice.new.self ≡ text = c.copy_from_slice.ensures.after in
    let count = ap length written in
    let after = take-put_mid old.len (old.len + length text - old.len) old.bytes c.copy_from_slice.new.self (old.len + length text)
    (ap (λ (ys : List ℕ). old.len + length ys) (sym written)) (omega arith) in
    let behind = drop-put_mid old.len (old.len + length text - old.len) old.bytes c.copy_from_slice.new.self (old.len + length text)
    (omega arith) (omega arith) (omega (arith, count)) in
    let inside = longer _ old.bytes (old.len + length text) behind (omega arith) in
    (long, rw (take-set, after, written) (one_line-append (take old.len old.bytes) text c.self.invariant.1 c.requires.one_line), read_back _ _ _ inside)
