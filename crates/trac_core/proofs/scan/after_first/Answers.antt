use Rattle.trac_core.proofs.Imports.{◌≡◌, ◌-◌, length, take, drop, All, sym, ap, ◌∙◌, subst, arith, length-take, length-drop, length-map, All-take, All-drop, IsByte, text_of_cells, character_of}
use Rattle.trac_functions.proofs.ArgumentLemmas.{text_of_cells-seen, bytes-seen}
use Rattle.trac_core.proofs.Scanning.{take-text, drop-text}
use Rattle.trac_core.proofs.scan.after_first.Goals as goal

pub returns-clause-text : goal.returns-clause-text
returns-clause-text c =
    let active = c.args.work.now.active in
    let most = c.min.result - 1 in
    let cells = c.active_part.result.now in
    let rest = drop 1 (text_of_cells active) in
    let text : text_of_cells cells ≡ take most rest = sym (text_of_cells-seen cells) ∙ ap text_of_cells c.active_part.ensures ∙ take-text most (drop 1 active) ∙ ap (take most) (drop-text 1 active) in
    let long : length (text_of_cells cells) ≡ length cells = length-map cells character_of in
    let all : length (text_of_cells active) ≡ length active = length-map active character_of in
    let cut = length-take most rest in
    let less = length-drop 1 (text_of_cells active) in
    let size : most ≡ length cells = omega (arith, sym long ∙ ap length text, cut, less, all, c.min.ensures, c.from.ensures, c.active_len-all.ensures.value) in
    text ∙ ap (λ k. take k rest) size

pub returns-clause-bytes : goal.returns-clause-bytes
returns-clause-bytes c =
    let active = c.args.work.now.active in
    bytes-seen c.active_part.result.now (subst (All IsByte) (sym c.active_part.ensures) (All-take IsByte (c.min.result - 1) (drop 1 active) (All-drop IsByte 1 active c.requires.sound.active)))
