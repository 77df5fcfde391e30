use Rattle.trac_functions.proofs.Imports.{◌≡◌, ◌+◌, ◌-◌, length, refl, ap, ◌∙◌, arith, defined, argument, meaning_of, silent, part_text, world, texts}
use Rattle.trac_functions.proofs.ArgumentLemmas.{part-long}
use Rattle.trac_functions.proofs.form_calls.define_string.Goals as goal

pub returns-in-Ok-clause-makes : goal.returns-in-Ok-clause-makes
unfolding meaning_of
returns-in-Ok-clause-makes c = λ name.
    let old = c.args.work.now in
    let ts = texts old c.args.arguments in
    let first = c.next-name.ensures.text in
    let second = c.next-text.ensures.text ∙ c.next-name.ensures.later 0 in
    let n = part-long old.neutral c.next-name.result.from c.next-name.result.to c.next-name.ensures.part in
    let m = part-long old.neutral c.next-text.result.from c.next-text.result.to c.next-text.ensures.part in
    let named = part_text old.neutral c.next-name.result.from c.next-name.result.to in
    let body = part_text old.neutral c.next-text.result.from c.next-text.result.to in
    let same : defined (argument ts 0) (argument ts 1) old.forms ≡ defined named body old.forms = rw (first, second) refl in
    let cells : 3 + length (argument ts 0) + length (argument ts 1) ≡ 3 + (c.next-name.result.to - c.next-name.result.from) + (c.next-text.result.to - c.next-text.result.from) =
    omega (arith, n, m, ap length first, ap length second) in
    rw c.in-Ok.ensures.ok
    (record {
      means = λ meta input. ap (λ forms. silent (world forms meta input)) same;
      builds = λ meta input. cells;
      fits = grind (arith, c.in-Ok.ensures.full);
      stands = refl;
    })
