use Rattle.trac_c.proofs.Imports.{◌≡◌, ◌++◌, length, min, take, drop, sym, ap, ◌∙◌, arith, length-drop, length-take-le}
use Rattle.trac_language.specs.Meaning.{show_form}
use Rattle.trac_c.proofs.Buffers.{laid-front}
use Rattle.trac_c.proofs.forms.lay_shown.Goals as goal

pub returns-clause-laid : goal.returns-clause-laid
returns-clause-laid c =
    let text = drop c.args.from (show_form c.args.form.now) in
    let room = c.args.room.now in
    let n = c.min-fitting.result in
    let least : n ≡ min (length text) (length room) = omega (arith, c.min-fitting.ensures, c.saturating_sub-len.ensures, c.display_len.ensures, length-drop c.args.from (show_form c.args.form.now)) in
    let size : length (take n room) ≡ n = length-take-le n room (omega arith) in
    ap (λ r. r ++ drop n room) (c.fill_with.ensures ∙ ap (λ k. take k text) size) ∙ sym (laid-front n text room least)
