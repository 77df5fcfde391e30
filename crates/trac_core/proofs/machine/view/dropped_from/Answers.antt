use Rattle.std.proofs.lemmas.Grind.{common_steps}
use Rattle.std.proofs.lemmas.List.{length-map}
use Rattle.trac_core.proofs.Imports.{character_of, ◌≡◌, ◌+◌, ◌-◌, take, length, All-take, All-drop, drop, subst, sym, ◌∙◌, All, None, Some, protected, IsByte, arith, text_of_cells}
use Rattle.trac_functions.proofs.ArgumentLemmas.{bytes-seen}
use Rattle.trac_core.proofs.RuleRows.{dropped-other, dropped-parenthesis}
use Rattle.trac_core.proofs.Scanning.{text-after}
use Rattle.trac_core.proofs.machine.view.dropped_from.Goals as goal

pub matching-requires-clause-bytes : goal.matching-requires-clause-bytes
matching-requires-clause-bytes c =
    let active = c.args.work.now.active in
    bytes-seen c.active_part.result.now (subst (All IsByte) (sym c.active_part.ensures) (All-take IsByte (c.active_len.result - 1) (drop 1 active) (All-drop IsByte 1 active c.requires.sound.active)))

pub returns-then-not-is_at : goal.returns-then-not-is_at
returns-then-not-is_at c =
    let text = text_of_cells c.args.work.now.active in
    dropped-other text (length text) (λ first. (let opens = c.is_at.ensures.1 first in absurd (grind (arith, common_steps))))

pub returns-in-Some : goal.returns-in-Some
returns-in-Some c =
    let active = c.args.work.now.active in
    let text = text-after active c.active_part.result.now c.active_len.result c.active_part.ensures c.active_len.ensures.value in
    let found = subst (λ t. protected t ≡ Some (take c.in-Some.field-0 t, drop (c.in-Some.field-0 + 1) t)) text c.in-Some.ensures.1 in
    dropped-parenthesis (text_of_cells active) _ (length (text_of_cells active)) (c.is_at.ensures.0 (grind (arith, common_steps))) found

pub returns-in-None : goal.returns-in-None
returns-in-None c =
    let active = c.args.work.now.active in
    let text = text-after active c.active_part.result.now c.active_len.result c.active_part.ensures c.active_len.ensures.value in
    let none = subst (λ t. protected t ≡ None) text c.in-None.ensures in
    let long = c.active_len-in-None.ensures.value ∙ sym (length-map active character_of) in
    long ∙ dropped-parenthesis (text_of_cells active) None (length (text_of_cells active)) (c.is_at.ensures.0 (grind (arith, common_steps))) none
