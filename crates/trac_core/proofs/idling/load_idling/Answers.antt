use Rattle.trac_core.proofs.Imports.{◌≡◌, ◌+◌, ⊎_elim, ap, ◌∙◌, arith, length, map, cases_lt, Byte, Contents, cells, idling, need, used, memory_of, state_with}
use Rattle.trac_core.specs.StepsInRow.{idling_loaded}
use Rattle.trac_core.proofs.Scanning.{scans-idling, idling-need}
use Rattle.trac_core.proofs.idling.load_idling.Goals as goal

pub returns-then-load_active-clause-scanned : goal.returns-then-load_active-clause-scanned
returns-then-load_active-clause-scanned c =
    let old = c.args.work.now in
    let made : c.load_active.new.self ≡ idling_loaded old = c.if-load_active.ensures.is_text ∙ ap (λ (w : Contents). record w { active = map Byte idling }) c.clear_neutral.ensures.empty in
    let need : c.used.result ≡ cells old.forms + 11 = c.used.ensures.value ∙ ap used made ∙ omega arith in
    rw (made, need) (scans-idling old c.requires)

pub returns-else-load_active-clause-scanned : goal.returns-else-load_active-clause-scanned
returns-else-load_active-clause-scanned c = λ meta input output.
    let old = c.args.work.now in
    let need_is = idling-need old c.requires meta input output in
    let cells_are = ap used c.clear_neutral.ensures.empty in
    let room = ap (λ (w : Contents). w.room) c.clear_neutral.ensures.empty in
    ⊎_elim
    (λ lt. lt)
    (λ le. absurd (let fits = c.if-load_active.ensures.loaded.1 (omega (arith, cells_are, room, ap length c.requires)) in cc))
    (cases_lt old.room (need (state_with (memory_of meta old) input output)))
