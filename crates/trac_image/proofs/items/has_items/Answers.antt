use Rattle.std.proofs.Common.{◌∙◌, ◌≡◌, ap, arith, eq-eqb, length, subst, sym}
use Rattle.std.proofs.lemmas.Bool.{eqb-true}
use Rattle.trac_image.specs.Items.{items_of}
use Rattle.trac_image.specs.Reading.{GapsFit, characters_in, form_in, gap_count, gaps_in, heads_in}
use Rattle.trac_image.proofs.ReadBack.{fit-both, fit-first, fit-rest, gaps-few, gaps-next, length-woven, no-items}
use Rattle.trac_image.proofs.items.has_items.Goals as goal

pub loop-init : goal.loop-init
loop-init c =
    let t = c.args.text.now in
    let all = c.of-items.ensures in
    let body : c.heads_of-heads.result.body ≡ (heads_in t).body = ap (λ h. h.body) c.heads_of-heads.ensures in
    record {
      left = omega (arith, body, ap length all, length-woven (heads_in t).body 0 (gaps_in t) (characters_in t));
      gaps = omega (arith, ap gap_count all);
      passed = subst GapsFit all;
      whole = subst GapsFit (sym all);
    }

pub split-next-requires : goal.split-next-requires
split-next-requires c = omega (arith, c.loop-test.true, c.loop.invariant.left)

pub returns-then-not-is_fit : goal.returns-then-not-is_fit
returns-then-not-is_fit c = (
  λ same. absurd (cc same),
  λ whole. (let next = subst GapsFit c.split-next.ensures (c.loop.invariant.whole whole.1) in let fit = c.is_fit.ensures.1 (fit-first c.split-next.result.item (items_of c.split-next.result.rest) next) in absurd (cc (fit, c.if-not-is_fit.true))),
)

pub overflow_add-gaps : goal.overflow_add-gaps
overflow_add-gaps c =
    let t = c.args.text.now in
    let next = ap gap_count c.split-next.ensures ∙ gaps-next c.split-next.result.item (items_of c.split-next.result.rest) in
    let long = length-woven (heads_in t).body 0 (gaps_in t) (characters_in t) in
    let body : c.heads_of-heads.result.body ≡ (heads_in t).body = ap (λ h. h.body) c.heads_of-heads.ensures in
    omega (arith, next, gaps-few (form_in t).body, long, body, c.loop.invariant.gaps, c.gap_number-gaps.ensures, c.heads_of-heads.type_inv)

pub loop-preserved : goal.loop-preserved
loop-preserved c =
    let item = c.split-next.result.item in
    let rest = items_of c.split-next.result.rest in
    let fit = c.is_fit.ensures.0 c.if-not-is_fit.false in
    record {
      left = omega (arith, c.loop.invariant.left, ap length c.split-next.ensures);
      gaps = omega (arith, c.loop.invariant.gaps, c.gap_number-gaps.ensures, ap gap_count c.split-next.ensures, gaps-next item rest);
      passed = λ behind. c.loop.invariant.passed (subst GapsFit (sym c.split-next.ensures) (fit-both item rest fit behind));
      whole = λ all. fit-rest item rest (subst GapsFit c.split-next.ensures (c.loop.invariant.whole all));
    }

pub returns : goal.returns
returns c =
    let t = c.args.text.now in
    let h = c.heads_of-heads.ensures in
    let body : c.heads_of-heads.result.body ≡ (heads_in t).body = ap (λ h. h.body) h in
    let characters : c.heads_of-heads.result.characters ≡ (heads_in t).characters = ap (λ h. h.characters) h in
    let none = no-items (items_of c.loop.items) (omega (arith, c.loop.invariant.left, c.loop-test.false)) in
    let gaps : c.loop.gaps ≡ gap_count (form_in t).body = omega (arith, c.loop.invariant.gaps, ap gap_count none) in (
      λ same. (
        record {
          room = c.requires;
          counted = omega (arith, gaps, eqb-true _ _ same, body, characters, c.requires.fewer);
        },
        c.loop.invariant.passed (subst GapsFit (sym none) tt),
      ),
      λ whole. eq-eqb _ _ (omega (arith, gaps, whole.0.counted, body, characters)),
    )
