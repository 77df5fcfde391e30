use Rattle.trac_views.proofs.Texts.{after, on_ok}
use Rattle.trac_views.proofs.lines.push_end.Goals as goal

pub returns : goal.returns
returns g c =
    let to_1 = after _ _ _ _ _ (rw c.ending.ensures at c.in_ok-push.ensures) c.in_ok-push-2.ensures in
    let to_2 = after _ _ _ _ _ (after _ _ _ _ _ to_1 c.in_ok-push_number.ensures) c.in_ok-push-3.ensures in
    let to_3 = after _ _ _ _ _ to_2 (rw c.from.ensures at c.in_ok-push_number-2.ensures) in
    on_ok c.push-4.result _ _ (λ last. after _ _ _ _ _ to_3 last) c.push-4.ensures
