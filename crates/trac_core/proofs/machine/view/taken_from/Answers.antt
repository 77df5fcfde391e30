use Rattle.std.proofs.lemmas.List.{length-map, take_all}
use Rattle.trac_core.proofs.Imports.{◌≡◌, ◌+◌, ◌-◌, length, drop, take, All, All-drop, None, Some, ap, sym, subst, ◌∙◌, arith, protected, IsByte, character_of, text_of_cells, length-drop}
use Rattle.std.proofs.Math.Seq.{length-take-le}
use Rattle.trac_core.specs.View.{taken_in_row}
use Rattle.trac_core.proofs.Scanning.{text-from}
use Rattle.trac_core.proofs.RuleRows.{taken-other, taken-within, taken-parenthesis}
use Rattle.trac_core.proofs.machine.view.taken_from.Goals as goal

pub returns-then-not-is_in-clause-taken : goal.returns-then-not-is_in-clause-taken
returns-then-not-is_in-clause-taken c =
    let text = text_of_cells c.args.active.now in
    c.taken_in_row.ensures ∙ ap taken_in_row c.rule_of.ensures.row
    ∙ taken-other text (length text) (λ first. (let t = c.is_in.ensures.1 first in let f = c.if-not-is_in.true in cc))

pub returns-then-not-is_in-clause-within : goal.returns-then-not-is_in-clause-within
returns-then-not-is_in-clause-within c =
    omega (arith, c.taken_in_row.ensures ∙ ap taken_in_row c.rule_of.ensures.row, taken-within (text_of_cells c.args.active.now), length-map c.args.active.now character_of)

pub matching-requires-clause-bytes : goal.matching-requires-clause-bytes
matching-requires-clause-bytes c =
    let active = c.args.active.now in
    subst (All IsByte) (sym (take_all (length active - 1) (drop 1 active) (omega (arith, length-drop 1 active)))) (All-drop IsByte 1 active c.requires.bytes)

pub returns-in-Some-clause-taken : goal.returns-in-Some-clause-taken
returns-in-Some-clause-taken c =
    let active = c.args.active.now in
    let text = text_of_cells active in
    let rest = text-from 1 active in
    let found = subst (λ t. protected t ≡ Some (take c.in-Some.len t, drop (c.in-Some.len + 1) t)) rest c.in-Some.ensures.1 in
    let few = c.in-Some.ensures.0 in
    let all = take_all (length active - 1) (drop 1 active) (omega (arith, length-drop 1 active)) in
    let inside = length-take-le c.in-Some.len (drop 1 text) (omega (arith, few, ap (λ l. length l) all, length-drop 1 active, length-drop 1 text, length-map active character_of)) in
    ap (λ n. n + 2) (sym inside) ∙ taken-parenthesis text _ (length text) (let t = c.if-not-is_in.false in c.is_in.ensures.0 cc) found

pub returns-in-None-clause-taken : goal.returns-in-None-clause-taken
returns-in-None-clause-taken c =
    let active = c.args.active.now in
    let text = text_of_cells active in
    let none = subst (λ t. protected t ≡ None) (text-from 1 active) c.in-None.ensures in
    sym (length-map active character_of) ∙ taken-parenthesis text None (length text) (let t = c.if-not-is_in.false in c.is_in.ensures.0 cc) none
