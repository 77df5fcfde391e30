use Rattle.std.proofs.Common.{◌+◌, ◌-◌, ◌≡◌, arith, refl, subst, suc, sym, ℕ}
use Rattle.trac_language.specs.Store.{NoneNamed}
use Rattle.trac_image.specs.Fitting.{AreDistinct}
use Rattle.trac_image.specs.Reading.{forms_in, name_in}
use Rattle.trac_image.proofs.Fitted.{all-left, distinct-first, distinct-next}
use Rattle.trac_image.proofs.fitting.are_distinct.Goals as goal

pub loop-i-init : goal.loop-i-init
loop-i-init c =
    let distinct = λ (n : ℕ). AreDistinct (forms_in n c.args.forms.now) in
    record {
      passed = subst distinct (all-left c.args.count);
      whole = subst distinct (sym (all-left c.args.count));
    }

pub returns-then-not-is_new : goal.returns-then-not-is_new
returns-then-not-is_new c =
    let m = c.args.count - c.loop-i.i - 1 in
    let one : c.args.count - c.loop-i.i ≡ suc m = omega (arith, c.loop-i-test.true) in
    let others = forms_in m c.behind_form-others.result.now in (
      λ same. absurd (cc same),
      λ all. (
          let none = distinct-first _ m c.loop-i.rest.now c.behind_form-others.result.now one c.behind_form-others.ensures (c.loop-i.invariant.whole all) in
          let new = c.is_new.ensures.1 (subst (λ name. NoneNamed name others) (sym c.name_of.ensures) none) in
          absurd (cc (new, c.if-not-is_new.true))
          ),
    )

pub loop-i-preserved : goal.loop-i-preserved
loop-i-preserved c =
    let m = c.args.count - c.loop-i.i - 1 in
    let n = c.args.count - (c.loop-i.i + 1) in
    let same : m ≡ n = omega arith in
    let one : c.args.count - c.loop-i.i ≡ suc n = omega (arith, c.loop-i-test.true) in
    let rest = c.behind_form-others.result.now in
    let new = subst (λ k. NoneNamed (name_in c.loop-i.rest.now) (forms_in k rest)) same (subst (λ name. NoneNamed name (forms_in m rest)) c.name_of.ensures (c.is_new.ensures.0 c.if-not-is_new.false)) in
    let next = distinct-next _ n c.loop-i.rest.now rest one c.behind_form-others.ensures new in
    record {
      passed = λ all. c.loop-i.invariant.passed (next.passed all);
      whole = λ all. next.whole (c.loop-i.invariant.whole all);
    }

pub returns : goal.returns
returns c =
    let none : c.args.count - c.loop-i.i ≡ 0 = omega (arith, c.loop-i-test.false) in (
      λ yes. c.loop-i.invariant.passed (subst (λ n. AreDistinct (forms_in n c.loop-i.rest.now)) (sym none) tt),
      λ all. refl,
    )
