use Rattle.trac_core.proofs.Imports.{◌≡◌, ◌++◌, ◌∙◌, sym, ap, subst, drop, length, All, drop-append_seam, flat_text, IsByte, Contents}
use Rattle.trac_functions.proofs.ArgumentLemmas.{bytes-flat}
use Rattle.trac_core.proofs.machine.answering.end_answered.Goals as goal

pub move_value-requires-clause-value : goal.move_value-requires-clause-value
move_value-requires-clause-value c =
    let old = c.args.work.now in
    let value = c.args.value.now in
    let new = c.push_bytes-fits.new.self in
    let behind = ap (λ (w : Contents). w.neutral) c.if-prove.ensures.last ∙ ap (λ (w : Contents). w.neutral ++ flat_text value) c.drop_active.ensures.rest in
    let text : drop c.neutral_len-end.result new.neutral ≡ flat_text value = ap (λ n. drop n new.neutral) c.neutral_len-end.ensures.value ∙ ap (drop (length old.neutral)) behind ∙ drop-append_seam old.neutral (flat_text value) in
    subst (All IsByte) (sym text) (bytes-flat value)
