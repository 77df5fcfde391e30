use Rattle.std.proofs.Common.{◌+◌, ◌-◌, ◌∙◌, ◌≡◌, arith, refl, subst, suc, sym, ℕ, ◌≢◌}
use Rattle.std.proofs.lemmas.Bool.Decides.{Decides-eqb}
use Rattle.std.proofs.lemmas.Slice.Eq.{slice_eq-Decides}
use Rattle.trac_language.specs.Store.{NoneNamed}
use Rattle.trac_image.specs.Reading.{forms_in, name_in}
use Rattle.trac_image.proofs.Fitted.{all-left, new-next, new-not}
use Rattle.trac_image.proofs.fitting.is_new.Goals as goal

pub loop-i-init : goal.loop-i-init
loop-i-init c =
    let none = λ (n : ℕ). NoneNamed c.args.name.now (forms_in n c.args.forms.now) in
    record {
      passed = subst none (all-left c.args.count);
      whole = subst none (sym (all-left c.args.count));
    }

pub returns-then-eq : goal.returns-then-eq
returns-then-eq c =
    let same = slice_eq-Decides Decides-eqb c.name_of.result.now c.args.name.now c.eq.result c.eq.ensures in
    let one : c.args.count - c.loop-i.i ≡ suc (c.args.count - (c.loop-i.i + 1)) = omega (arith, c.loop-i-test.true) in (
      λ same. absurd (cc same),
      λ none. absurd (new-not c.args.name.now _ _ c.loop-i.rest.now one (sym c.name_of.ensures ∙ same.0 c.if-eq.true) (c.loop-i.invariant.whole none)),
    )

pub loop-i-preserved : goal.loop-i-preserved
loop-i-preserved c =
    let same = slice_eq-Decides Decides-eqb c.name_of.result.now c.args.name.now c.eq.result c.eq.ensures in
    let one : c.args.count - c.loop-i.i ≡ suc (c.args.count - (c.loop-i.i + 1)) = omega (arith, c.loop-i-test.true) in
    let other : name_in c.loop-i.rest.now ≢ c.args.name.now = λ is. (let found = same.1 (c.name_of.ensures ∙ is) in absurd (cc (found, c.if-eq.false))) in
    let next = new-next _ _ c.loop-i.rest.now _ one c.behind_form-rest.ensures c.args.name.now other in
    record {
      passed = λ none. c.loop-i.invariant.passed (next.passed none);
      whole = λ none. next.whole (c.loop-i.invariant.whole none);
    }

pub returns : goal.returns
returns c =
    let none : c.args.count - c.loop-i.i ≡ 0 = omega (arith, c.loop-i-test.false) in (
      λ yes. c.loop-i.invariant.passed (subst (λ n. NoneNamed c.args.name.now (forms_in n c.loop-i.rest.now)) (sym none) tt),
      λ new. refl,
    )
