use Rattle.trac_views.proofs.Texts.{after, on_ok}
use Rattle.trac_views.proofs.calls.push_call.Goals as goal

pub returns : goal.returns
returns g c =
    let to_1 = after _ _ _ _ _ c.in_ok-push_column.ensures c.in_ok-push_indent.ensures in
    let to_2 = after _ _ _ _ _ to_1 (rw c.opening.ensures at c.in_ok-push.ensures) in
    let to_3 = after _ _ _ _ _ (after _ _ _ _ _ to_2 c.in_ok-push_cells_cut.ensures) c.in_ok-push-2.ensures in
    let to_4 = after _ _ _ _ _ (after _ _ _ _ _ to_3 c.in_ok-push_results.ensures) c.in_ok-push-3.ensures in
    let to_5 = after _ _ _ _ _ to_4 (rw c.oddity_text.ensures at c.in_ok-push-4.ensures) in
    on_ok c.push-5.result _ _ (λ last. after _ _ _ _ _ to_5 last) c.push-5.ensures
