use Rattle.std.proofs.Common.{◌≡◌, ◌++◌, codes}
use Rattle.trac_views.specs.CallLines.{place_text}
use Rattle.trac_checker.specs.Warned.{said_text, times_text, value_text}
use Rattle.trac_warnings.specs.Watched.{said}
use Rattle.trac_views.proofs.Texts.{after, on_ok}
use Rattle.trac_checker.proofs.lines.push_warning.Goals as goal

pub returns : goal.returns
returns g c =
    let old = c.args.line.now.items in
    let to_1 : c.push_place.new.lines.items ≡ old ++ (place_text c.args.place) = c.in_ok-push_place.ensures in
    let to_2 : c.push.new.line.items ≡ old ++ (place_text c.args.place ++ codes ": ") = after old c.push_place.new.lines.items c.push.new.line.items (place_text c.args.place) (codes ": ") to_1 c.in_ok-push.ensures in
    let to_3 : c.push_value.new.line.items ≡ old ++ (place_text c.args.place ++ codes ": " ++ value_text c.args.warning.now.origin c.args.form.now) = after old c.push.new.line.items c.push_value.new.line.items (place_text c.args.place ++ codes ": ") (value_text c.args.warning.now.origin c.args.form.now) to_2 c.in_ok-push_value.ensures in
    let to_4 : c.push_said.new.line.items ≡ old ++ (place_text c.args.place ++ codes ": " ++ value_text c.args.warning.now.origin c.args.form.now ++ said_text (said c.args.warning.now)) = after old c.push_value.new.line.items c.push_said.new.line.items (place_text c.args.place ++ codes ": " ++ value_text c.args.warning.now.origin c.args.form.now) (said_text (said c.args.warning.now)) to_3 c.in_ok-push_said.ensures in
    let to_5 : c.push_times.new.line.items ≡ old ++ (place_text c.args.place ++ codes ": " ++ value_text c.args.warning.now.origin c.args.form.now ++ said_text (said c.args.warning.now) ++ times_text c.args.times) = after old c.push_said.new.line.items c.push_times.new.line.items (place_text c.args.place ++ codes ": " ++ value_text c.args.warning.now.origin c.args.form.now ++ said_text (said c.args.warning.now)) (times_text c.args.times) to_4 c.in_ok-push_times.ensures in
    on_ok c.push-2.result _ _ (λ last. after old c.push_times.new.line.items c.push-2.new.line.items (place_text c.args.place ++ codes ": " ++ value_text c.args.warning.now.origin c.args.form.now ++ said_text (said c.args.warning.now) ++ times_text c.args.times) (codes "\n") to_5 last) c.push-2.ensures
