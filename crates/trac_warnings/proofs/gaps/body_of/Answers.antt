use Rattle.std.proofs.Common.{◌∷◌, [], ◌++◌, ◌∙◌, ap, sym, arith}
use Rattle.trac_warnings.proofs.Grown.{grown, is_there}
use Rattle.trac_warnings.proofs.gaps.body_of.Goals as goal
use Rattle.trac_warnings.proofs.gaps.body_of.Goals.{in-Some+in_ok-push, in_default}

pub loop-place-preserved : goal.loop-place-preserved
loop-place-preserved g c =
    let body = c.args.form.now.body in
    let place = c.loop-place.place in
    let less = c.loop-place-test.true in
    let long = c.body_len-place-end.ensures in
    elim c.match-item.branch [
      | in-Some+in_ok-push w ↦ ap (λ v. v.items) w.items-is ∙ w.in_ok-push.ensures.items
          ∙ ap (λ t. t ++ w.in-Some.item ∷ []) c.loop-place.invariant
          ∙ sym (grown body place w.in-Some.item (sym c.item.ensures ∙ w.in-Some.is))
      | in_default w ↦ absurd (is_there body place (sym c.item.ensures ∙ w.in_default.is) (omega (arith, less, long)))
    ]
