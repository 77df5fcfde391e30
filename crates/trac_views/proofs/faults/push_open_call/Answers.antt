use Rattle.std.proofs.Common.{◌≡◌, ◌∙◌, ◌++◌, ap, codes, List, ℕ}
use Rattle.trac_views.specs.Shown.{cut_text, opening_text, raw_cell}
use Rattle.std.specs.List.{flat_map}
use Rattle.trac_views.proofs.Texts.{after, on_ok}
use Rattle.trac_views.proofs.faults.push_open_call.Goals as goal

pub returns : goal.returns
returns g c =
    let old = c.args.lines.now.items in
    let upto-1 : c.push.new.line.items ≡ old ++ (codes "open call: ") = c.in_ok-push.ensures in
    let upto-2 : c.push-2.new.line.items ≡ old ++ (codes "open call: " ++ opening_text c.args.mode) = after old c.push.new.line.items c.push-2.new.line.items (codes "open call: ") (opening_text c.args.mode) upto-1 (c.in_ok-push-2.ensures ∙ ap (λ (t : List ℕ). c.push.new.line.items ++ t) c.opening.ensures) in
    let upto-3 : c.push_cells_cut.new.line.items ≡ old ++ (codes "open call: " ++ opening_text c.args.mode ++ cut_text c.args.width (flat_map raw_cell c.args.arguments.now)) = after old c.push-2.new.line.items c.push_cells_cut.new.line.items (codes "open call: " ++ opening_text c.args.mode) (cut_text c.args.width (flat_map raw_cell c.args.arguments.now)) upto-2 c.in_ok-push_cells_cut.ensures in
    on_ok c.push-3.result _ _ (λ last. after old c.push_cells_cut.new.line.items c.push-3.new.line.items (codes "open call: " ++ opening_text c.args.mode ++ cut_text c.args.width (flat_map raw_cell c.args.arguments.now)) (codes "\n") upto-3 last) c.push-3.ensures
