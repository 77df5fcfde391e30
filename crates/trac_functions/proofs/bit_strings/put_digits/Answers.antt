use Rattle.trac_functions.proofs.Imports.{◌≡◌, ◌<◌, length, take, Some, sym, ap, ◌∙◌, arith, slice_get, OnTrue_at, none-some, slice_get-get_or, octal, bits_made}
use Rattle.trac_functions.proofs.PutCharacters.{with-more, fits-more}
use Rattle.trac_functions.proofs.BitResults.{behind-made}
use Rattle.trac_functions.proofs.bit_strings.put_digits.Goals as goal
use Rattle.trac_functions.proofs.bit_strings.put_digits.Goals.{in-Some, in_default}

pub loop-place-preserved : goal.loop-place-preserved
loop-place-preserved c =
    let old = c.args.work.now in
    let now = c.loop-place.work in
    let k = c.loop-place.place in
    let digits = octal (bits_made old.neutral c.args.bits) in
    let lt : k < length digits = omega arith in
    let same = behind-made old now (take k digits) c.args.bits c.requires.parts c.loop-place.invariant.put in
    elim c.match-digit_made.branch [
      | in-Some w ↦
          let here : slice_get digits k ≡ Some w.in-Some.digit = ap (λ t. slice_get t k) (sym same) ∙ sym w.in-Some.ensures in
          let put = OnTrue_at (w.push_neutral.ensures.pushed.1 (fits-more old now digits k c.loop-place.invariant.put lt c.requires.fits)) w.push_neutral.ensures.last in
          rw w.work-is (record { put = with-more old now w.push_neutral.new.self digits k w.in-Some.digit c.loop-place.invariant.put here put; sound = w.push_neutral.ensures.sound })
      | in_default w ↦ absurd (none-some _ (w.in_default.ensures ∙ ap (λ t. slice_get t k) same ∙ slice_get-get_or digits k 0 lt))
    ]
