use Rattle.std.proofs.Common.{◌≡◌, ◌++◌, codes}
use Rattle.std.specs.Prelude.{decimal}
use Rattle.trac_views.proofs.Texts.{after, on_ok}
use Rattle.trac_checker.proofs.lines.push_calls.Goals as goal

pub returns : goal.returns
returns g c =
    let old = c.args.line.now.items in
    let to_1 : c.push.new.line.items ≡ old ++ (codes " was called ") = c.in_ok-push.ensures in
    let to_2 : c.push_number.new.line.items ≡ old ++ (codes " was called " ++ decimal c.args.count) = after old c.push.new.line.items c.push_number.new.line.items (codes " was called ") (decimal c.args.count) to_1 c.in_ok-push_number.ensures in
    on_ok c.push-2.result _ _ (λ last. after old c.push_number.new.line.items c.push-2.new.line.items (codes " was called " ++ decimal c.args.count) (codes " times") to_2 last) c.push-2.ensures
