use Rattle.std.proofs.Common.{◌≡◌, ◌∙◌, ◌+◌, ◌<◌, Some, ap, arith, drop, length, subst, sym, take}
use Rattle.std.proofs.lemmas.List.{length-map}
use Rattle.std.proofs.lemmas.List.Sums.{prefix_len-drop_yes}
use Rattle.trac_language.specs.Protected.{protected}
use Rattle.trac_core.proofs.Scanning.{read-text, text-from}
use Rattle.trac_space.specs.Texts.{character_of, text_of_cells}
use Rattle.trac_warnings.specs.Rows.{is_plain}
use Rattle.trac_warnings.proofs.Rows.{active-mark, comma-mark, neutral-mark, protected-mark}
use Rattle.trac_warnings.proofs.watch.rows.mark_at.Goals as goal

pub returns-in-44 : goal.returns-in-44
returns-in-44 c =
    let here = read-text c.args.active.now c.args.place c.character_of-character.result c.requires c.character_of-character.ensures in
    comma-mark (text_of_cells c.args.active.now) c.args.place here.0 (sym here.1 ∙ c.in-44.is)

pub returns-in-35 : goal.returns-in-35
returns-in-35 c =
    let here = read-text c.args.active.now c.args.place c.character_of-character.result c.requires c.character_of-character.ensures in
    active-mark (text_of_cells c.args.active.now) c.args.place here.0 (sym here.1 ∙ c.in-35.is) (sym c.is_at.ensures ∙ c.if-is_at.true)

pub returns-in-35-2 : goal.returns-in-35-2
returns-in-35-2 c =
    let here = read-text c.args.active.now c.args.place c.character_of-character.result c.requires c.character_of-character.ensures in
    neutral-mark (text_of_cells c.args.active.now) c.args.place here.0 (sym here.1 ∙ c.in-35.is) (sym c.if-is_at-2.ensures) (sym c.is_at-then-is_at-2.ensures ∙ c.if-is_at-3.true)

pub returns-in-Some : goal.returns-in-Some
returns-in-Some c =
    let cells = c.args.active.now in
    let place = c.args.place in
    let text = text_of_cells cells in
    let len = c.in-Some.len in
    let behind = text-from (place + 1) cells in
    let here = read-text cells place c.character_of-character.result c.requires c.character_of-character.ensures in
    let near : len < length (drop (place + 1) text) = subst (λ n. len < n) (sym (length-map _ character_of) ∙ ap (λ t. length t) behind) c.in-Some.ensures.0 in
    protected-mark text place len here.0 (sym here.1 ∙ c.in-40.is) near
    (subst (λ t. protected t ≡ Some (take len t, drop (len + 1) t)) behind c.in-Some.ensures.1)

pub returns-then-is_plain : goal.returns-then-is_plain
returns-then-is_plain c =
    let here = read-text c.args.active.now c.args.place c.character_of-character.result c.requires c.character_of-character.ensures in
    let plain = ap is_plain (sym here.1) ∙ sym c.is_plain.ensures ∙ c.if-is_plain.true in
    omega (arith, prefix_len-drop_yes is_plain (text_of_cells c.args.active.now) c.args.place 0 here.0 plain)
