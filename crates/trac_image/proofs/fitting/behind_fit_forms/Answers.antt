use Rattle.std.proofs.Common.{◌+◌, ◌-◌, ◌∙◌, ◌≡◌, ◌≤◌, ap, arith, subst, suc, sym, ℕ}
use Rattle.trac_language.specs.Store.{form_cells}
use Rattle.trac_image.specs.Fitting.{AreFit}
use Rattle.trac_image.specs.Reading.{behind_forms, form_in}
use Rattle.trac_image.proofs.Fitted.{all-left, behind-next, fit-first, fit-next}
use Rattle.trac_image.proofs.fitting.behind_fit_forms.Goals as goal

pub loop-i-init : goal.loop-i-init
loop-i-init c =
    let fit = λ (n : ℕ). AreFit n c.args.room c.args.forms.now in
    record {
      passed = subst fit (all-left c.args.count);
      whole = subst fit (sym (all-left c.args.count));
      behind = ap (λ n. behind_forms n c.args.forms.now) (all-left c.args.count);
    }

pub returns-then-not-is_fit : goal.returns-then-not-is_fit
returns-then-not-is_fit c =
    let one : c.args.count - c.loop-i.i ≡ suc (c.args.count - (c.loop-i.i + 1)) = omega (arith, c.loop-i-test.true) in
    λ all. (
    let fit = c.is_fit.ensures.1 (fit-first _ _ c.loop-i.left c.loop-i.rest.now one (c.loop-i.invariant.whole all)).0 in
    absurd (cc (fit, c.if-not-is_fit.true))
    )

pub returns-then-left-cells : goal.returns-then-left-cells
returns-then-left-cells c =
    let one : c.args.count - c.loop-i.i ≡ suc (c.args.count - (c.loop-i.i + 1)) = omega (arith, c.loop-i-test.true) in
    λ all. (
    let few = (fit-first _ _ c.loop-i.left c.loop-i.rest.now one (c.loop-i.invariant.whole all)).1 in
    omega (arith, few, c.if-left-cells.true, c.cells_of-cells.ensures)
    )

pub loop-i-preserved : goal.loop-i-preserved
loop-i-preserved c =
    let one : c.args.count - c.loop-i.i ≡ suc (c.args.count - (c.loop-i.i + 1)) = omega (arith, c.loop-i-test.true) in
    let few : form_cells (form_in c.loop-i.rest.now) ≤ c.loop-i.left = omega (arith, c.if-left-cells.false, c.cells_of-cells.ensures) in
    let left : c.loop-i.left - c.cells_of-cells.result ≡ c.loop-i.left - form_cells (form_in c.loop-i.rest.now) = ap (λ n. c.loop-i.left - n) c.cells_of-cells.ensures in
    let next = fit-next _ _ c.loop-i.rest.now _ one c.behind_form-rest.ensures c.loop-i.left _ (c.is_fit.ensures.0 c.if-not-is_fit.false) few left in
    record {
      passed = λ all. c.loop-i.invariant.passed (next.passed all);
      whole = λ all. next.whole (c.loop-i.invariant.whole all);
      behind = behind-next _ _ c.loop-i.rest.now _ one c.behind_form-rest.ensures ∙ c.loop-i.invariant.behind;
    }

pub returns : goal.returns
returns c =
    let none : c.args.count - c.loop-i.i ≡ 0 = omega (arith, c.loop-i-test.false) in (
      c.loop-i.invariant.passed (subst (λ n. AreFit n c.loop-i.left c.loop-i.rest.now) (sym none) tt),
      ap (λ n. behind_forms n c.loop-i.rest.now) (sym none) ∙ c.loop-i.invariant.behind,
    )
