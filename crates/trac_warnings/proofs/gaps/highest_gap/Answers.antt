use Rattle.std.proofs.Common.{◌+◌, ◌∙◌, ap, sym, arith, drop}
use Rattle.std.proofs.lemmas.List.{drop_all}
use Rattle.trac_warnings.specs.Gaps.{highest_gap}
use Rattle.trac_warnings.proofs.Grown.{head_is, is_inside, none_left}
use Rattle.trac_warnings.proofs.gaps.highest_gap.Goals as goal

pub loop-place-preserved : goal.loop-place-preserved
loop-place-preserved c =
    let body = c.args.form.now.body in
    let gap = c.behind_characters-gap.result in
    let i = c.loop-place.invariant in
    let h = c.behind_characters-gap.ensures in
    let is = sym c.item.ensures ∙ c.in-Some.is in
    record {
      within = omega (arith, is_inside body gap c.in-Some.item is);
      highest = ap (λ n. highest_gap n (drop (gap + 1) body)) c.with_gap-highest.ensures
          ∙ sym (ap (highest_gap c.loop-place.highest) (head_is body gap c.in-Some.item is))
          ∙ h.characters c.loop-place.highest ∙ i.highest;
    }

pub returns-in_default : goal.returns-in_default
returns-in_default c =
    let body = c.args.form.now.body in
    let gap = c.behind_characters-gap.result in
    sym (ap (highest_gap c.loop-place.highest) (none_left body gap (sym c.item.ensures ∙ c.in_default.is)))
    ∙ c.behind_characters-gap.ensures.characters c.loop-place.highest ∙ c.loop-place.invariant.highest

pub returns : goal.returns
returns c =
    let body = c.args.form.now.body in
    sym (ap (highest_gap c.loop-place.highest) (drop_all c.loop-place.place body (omega (arith, c.loop-place-test.false, c.body_len.ensures.value))))
    ∙ c.loop-place.invariant.highest
