use Rattle.std.proofs.Common.{◌≡◌, ◌∙◌, ap, map, refl}
use Rattle.std.proofs.lemmas.List.Elements.{same_from_all_zip}
use Rattle.std.specs.Cmp.Lexicographic.{slice_cmp}
use Rattle.std.specs.Ordering.{nat_cmp}
use Rattle.trac_warnings.specs.Findings.{texts_of, with_text}
use Rattle.trac_warnings.proofs.Noted.{map_insert}
use Rattle.trac_warnings.proofs.findings.note_name.Goals as goal

pub returns-clause-noted : goal.returns-clause-noted
returns-clause-noted g c =
    let same : c.in_ok-name.name.items ≡ c.args.name.now.items = same_from_all_zip _ c.args.name.now.items c.in_ok-name.name.items c.in_ok-name.ensures.cases.0 (λ x y e. e) in
    ap (map (λ text. text.items)) c.in_ok-insert.ensures.keys
    ∙ map_insert (λ text. text.items) _ (slice_cmp nat_cmp) (λ a b. refl) c.args.names.now.keys c.in_ok-name.name
    ∙ ap (λ t. with_text t (texts_of c.args.names.now)) same
