use Rattle.std.proofs.Common.{◌≡◌, ◌++◌, codes}
use Rattle.trac_views.specs.Lines.{bytes_text}
use Rattle.trac_views.proofs.Texts.{after, on_ok}
use Rattle.trac_views.proofs.lines.push_printed.Goals as goal

pub returns : goal.returns
returns g c =
    let old = c.args.line.now.items in
    let first : c.push.new.line.items ≡ old ++ (codes "        prints: ") = c.in_ok-push.ensures in
    let upto-2 : c.push_bytes.new.line.items ≡ old ++ (codes "        prints: " ++ bytes_text c.args.bytes.now) = after old c.push.new.line.items c.push_bytes.new.line.items (codes "        prints: ") (bytes_text c.args.bytes.now) first c.in_ok-push_bytes.ensures in
    on_ok c.push-2.result _ _ (λ last. after old c.push_bytes.new.line.items c.push-2.new.line.items (codes "        prints: " ++ bytes_text c.args.bytes.now) (codes "\n") upto-2 last) c.push-2.ensures
