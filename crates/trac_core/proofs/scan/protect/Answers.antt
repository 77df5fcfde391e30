use Rattle.trac_core.proofs.Imports.{◌≡◌, ◌+◌, ◌++◌, take, drop, All, ◌-◌, Some, None, sym, ap, ◌∙◌, subst, All-take, All-drop, protected, IsByte, Contents}
use Rattle.trac_functions.proofs.ArgumentLemmas.{bytes-seen}
use Rattle.trac_core.proofs.Scanning.{scans-protected, scans-unmatched, text-after}
use Rattle.trac_core.proofs.scan.protect.Goals as goal

pub matching-requires-clause-bytes : goal.matching-requires-clause-bytes
matching-requires-clause-bytes c =
    let active = c.args.work.now.active in
    bytes-seen c.active_part.result.now (subst (All IsByte) (sym c.active_part.ensures) (All-take IsByte (c.active_len.result - 1) (drop 1 active) (All-drop IsByte 1 active c.requires.sound.active)))

pub returns-in-Some-clause-scans : goal.returns-in-Some-clause-scans
returns-in-Some-clause-scans c =
    let old = c.args.work.now in
    let len = c.in-Some.len in
    let text = text-after old.active c.active_part.result.now c.active_len.result c.active_part.ensures c.active_len.ensures.value in
    let found = subst (λ t. protected t ≡ Some (take len t, drop (len + 1) t)) text c.in-Some.ensures.1 in
    let moved = c.drop_active-in-Some.ensures.rest
    ∙ ap (λ (w : Contents). record w { active = drop 1 w.active })
    (c.active_to_neutral.ensures.moved ∙ ap (λ (w : Contents). record w { neutral = w.neutral ++ take len w.active; active = drop len w.active }) c.drop_active.ensures.rest) in
    rw moved (scans-protected old len c.requires.sound c.requires.first found)

pub returns-in-None-clause-scans : goal.returns-in-None-clause-scans
returns-in-None-clause-scans c =
    let old = c.args.work.now in
    let text = text-after old.active c.active_part.result.now c.active_len.result c.active_part.ensures c.active_len.ensures.value in
    rw c.clear_active.ensures.empty (scans-unmatched old c.requires.first (subst (λ t. protected t ≡ None) text c.in-None.ensures))
