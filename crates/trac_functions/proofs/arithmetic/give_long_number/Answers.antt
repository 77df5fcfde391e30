use Rattle.std.specs.Prelude.{◌++◌, ◌%◌, ◌/◌, ◌^◌, ◌<◌, int_lt, pos, unsigned_abs}
use Rattle.std.proofs.Common.{to_z, of_z}
use Rattle.std.specs.Int.{w128}
use Rattle.std.specs.Fmt.{decimal, signed_decimal}
use Rattle.std.proofs.lemmas.Fmt.{length-decimal-le_wide}
use Rattle.std.proofs.Math.Nat.{div-add-mod, mod-lt}
use Rattle.trac_values.specs.Digits.{padded_text, signed}
use Rattle.trac_functions.proofs.Imports.{◌≡◌, false, length, ap, sym, subst, ◌∙◌, arith, part_text, to_z-of_z}
use Rattle.trac_functions.specs.Calls.{Valued}
use Rattle.trac_functions.proofs.LongNumbers.{long-number, signed-kept}
use Rattle.trac_functions.proofs.arithmetic.give_long_number.Goals as goal

pub give_digits-requires-clause-short : goal.give_digits-requires-clause-short
give_digits-requires-clause-short c =
    let rest = mod-lt c.unsigned_abs.result {m = 10 ^ 19} (omega arith) in
    let is = c.parted-quotient.ensures.remainder in
    let few : c.parted-quotient.result.1 < 10 ^ 19 = omega (arith, rest, is) in
    let short = length-decimal-le_wide 19 c.parted-quotient.result.1 (omega arith) few (omega (arith, few)) in
    let first = ap length c.as_bytes-first.ensures.value in
    let last = ap length (c.as_bytes.ensures.value ∙ c.format-2.ensures.text) in
    (omega (arith, first, c.format.ensures.short), omega (arith, last, short))

pub returns-clause-makes : goal.returns-clause-makes
returns-clause-makes c = λ function args valued.
    let w = c.args.work.now in
    let before = part_text w.neutral c.args.prefix.from c.args.prefix.to in
    let n = unsigned_abs c.args.number in
    let same = to_z-of_z w128 c.args.number c.ranges.number in
    let size = c.unsigned_abs.ensures.value ∙ ap unsigned_abs same in
    let is_negative = int_lt c.args.number (pos 0) in
    let quotient : c.parted-quotient.result.0 ≡ n / 10 ^ 19 = c.parted-quotient.ensures.quotient ∙ ap (λ n. n / 10 ^ 19) size in
    let rest : c.parted-quotient.result.1 ≡ n % 10 ^ 19 = c.parted-quotient.ensures.remainder ∙ ap (λ n. n % 10 ^ 19) size in
    let parts = div-add-mod n (10 ^ 19) in
    let few : c.parted-quotient.result.0 < 2 ^ 64 = omega (arith, parts, quotient, c.unsigned_abs.ensures.bound, size) in
    let number = c.with_sign.ensures.number in
    let with_sign = ap (λ z. to_z w128 (of_z w128 z)) number ∙ signed-kept (int_lt (to_z w128 (of_z w128 c.args.number)) (pos 0)) c.parted-quotient.result.0 few in
    let first = c.as_bytes-first.ensures.value ∙ c.format.ensures.text ∙ ap signed_decimal (with_sign ∙ ap (λ number. signed (int_lt number (pos 0)) c.parted-quotient.result.0) same ∙ ap (signed is_negative) quotient) in
    let last = c.as_bytes.ensures.value ∙ c.format-2.ensures.text ∙ ap decimal rest in
    let text = ap (λ t. t ++ padded_text 19 c.as_bytes.result.now) first ∙ ap (λ t. signed_decimal (signed is_negative (n / 10 ^ 19)) ++ padded_text 19 t) last
    ∙ long-number c.args.number c.requires.long (let bound = c.unsigned_abs.ensures.bound in omega (arith, bound, size)) in
    c.give_digits.ensures.makes function args (subst (λ t. Valued function args w.forms (before ++ t) false w.forms) (sym text) valued)
