use Rattle.std.proofs.Common.{◌≡◌, ◌++◌, ◌+◌, ◌-◌, ◌^◌, codes}
use Rattle.std.specs.Prelude.{decimal, min}
use Rattle.trac_views.specs.Shown.{shown_text}
use Rattle.trac_views.proofs.Texts.{after, on_ok}
use Rattle.trac_checker.proofs.lines.push_value_of.Goals as goal

pub returns : goal.returns
returns g c =
    let old = c.args.line.now.items in
    let to_1 : c.push.new.line.items ≡ old ++ (codes "in the value of ") = c.in_ok-push.ensures in
    let to_2 : c.push_text.new.line.items ≡ old ++ (codes "in the value of " ++ shown_text c.args.form.now) = after old c.push.new.line.items c.push_text.new.line.items (codes "in the value of ") (shown_text c.args.form.now) to_1 c.in_ok-push_text.ensures in
    let to_3 : c.push-2.new.line.items ≡ old ++ (codes "in the value of " ++ shown_text c.args.form.now ++ codes ", column ") = after old c.push_text.new.line.items c.push-2.new.line.items (codes "in the value of " ++ shown_text c.args.form.now) (codes ", column ") to_2 c.in_ok-push-2.ensures in
    let to_4 : c.push_number.new.line.items ≡ old ++ (codes "in the value of " ++ shown_text c.args.form.now ++ codes ", column " ++ decimal (min (c.args.column + 1) (2 ^ 64 - 1))) = after old c.push-2.new.line.items c.push_number.new.line.items (codes "in the value of " ++ shown_text c.args.form.now ++ codes ", column ") (decimal (min (c.args.column + 1) (2 ^ 64 - 1))) to_3 (rw c.saturating_add.ensures at c.in_ok-push_number.ensures) in
    on_ok c.push-3.result _ _ (λ last. after old c.push_number.new.line.items c.push-3.new.line.items (codes "in the value of " ++ shown_text c.args.form.now ++ codes ", column " ++ decimal (min (c.args.column + 1) (2 ^ 64 - 1))) (codes ": ") to_4 last) c.push-3.ensures
