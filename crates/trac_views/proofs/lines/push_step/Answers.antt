use Rattle.trac_views.proofs.Texts.{after, on_ok}
use Rattle.trac_views.proofs.lines.push_step.Goals as goal

pub returns : goal.returns
returns g c =
    let name = after _ _ _ _ _ (after _ _ _ _ _ c.in_ok-push_column.ensures c.in_ok-push.ensures) (rw c.name.ensures at c.in_ok-push-2.ensures) in
    let size = after _ _ _ _ _ name (rw c.from.ensures at c.in_ok-push_column-2.ensures) in
    let need = after _ _ _ _ _ size (rw c.from-2.ensures at c.in_ok-push_column-3.ensures) in
    let neutral = after _ _ _ _ _ (after _ _ _ _ _ need c.in_ok-push-3.ensures) c.in_ok-push_string.ensures in
    let active = after _ _ _ _ _ (after _ _ _ _ _ neutral c.in_ok-push-4.ensures) c.in_ok-push_string-2.ensures in
    on_ok c.push-5.result _ _ (λ last. after _ _ _ _ _ active last) c.push-5.ensures
