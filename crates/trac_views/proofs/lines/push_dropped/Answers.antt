use Rattle.std.proofs.Common.{◌≡◌, ◌∙◌, ◌++◌, ap, codes, decimal}
use Rattle.trac_views.proofs.Texts.{after, on_ok}
use Rattle.trac_views.proofs.lines.push_dropped.Goals as goal

pub returns : goal.returns
returns g c =
    let old = c.args.line.now.items in
    let first : c.push.new.line.items ≡ old ++ codes "        drops: " = c.in_ok-push.ensures in
    let counted = after old c.push.new.line.items c.push_number.new.line.items (codes "        drops: ") (decimal c.args.count) first
    (c.in_ok-push_number.ensures ∙ ap (λ n. c.push.new.line.items ++ decimal n) c.from.ensures) in
    on_ok c.push-2.result _ _ (λ last. after old c.push_number.new.line.items c.push-2.new.line.items (codes "        drops: " ++ decimal c.args.count)
    (codes " characters, since a left parenthesis has no match\n") counted last) c.push-2.ensures
