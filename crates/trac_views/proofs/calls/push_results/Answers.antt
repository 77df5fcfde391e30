use Rattle.trac_views.proofs.Texts.{after, on_ok}
use Rattle.trac_views.proofs.calls.push_results.Goals as goal

pub returns : goal.returns
returns g c =
    let to_1 = (rw (c.unless_empty.ensures, c.is_empty.ensures) at c.in_ok-push.ensures) in
    let to_2 = after _ _ _ _ _ to_1 c.in_ok-push_cells_cut.ensures in
    let to_3 = after _ _ _ _ _ to_2 (rw (c.unless_empty-2.ensures, c.is_empty-2.ensures) at c.in_ok-push-2.ensures) in
    let to_4 = after _ _ _ _ _ to_3 c.in_ok-push_cut.ensures in
    let to_5 = after _ _ _ _ _ to_4 (rw (c.unless_empty-3.ensures, c.is_empty-3.ensures) at c.in_ok-push-3.ensures) in
    on_ok c.push-4.result _ _ (λ last. after _ _ _ _ _ to_5 last) c.push-4.ensures
