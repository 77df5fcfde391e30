use Rattle.trac_space.proofs.Imports.{◌≡◌, ℕ, ◌+◌, ◌-◌, ◌<◌, ◌∙◌, ◌==◌, ap, arith, drop, get_or, get_or-drop, get_or-take, length, slice_range}
use Rattle.std.specs.Prelude.{not}
use Rattle.trac_space.proofs.ByteWords.{found, same_flags}
use Rattle.trac_space.proofs.byte_search.has_byte.Goals as goal

pub returns : goal.returns
returns c =
    let text = c.args.text.now in
    let byte = c.args.byte in
    let long = c.requires in
    let front : (j : ℕ) → j < 8 → get_or (slice_range text 0 8) j 0 ≡ get_or text j 0 = λ j less. get_or-take 8 text j 0 less in
    let back : (j : ℕ) → j < 8 → get_or (slice_range text 8 (length text)) j 0 ≡ get_or text (8 + j) 0 = λ j less. get_or-take (length text - 8) (drop 8 text) j 0 (omega arith) ∙ get_or-drop 8 text j 0 in
    found text byte c.others.result c.others-2.result c.requires
    (c.others.ensures ∙ same_flags _ _ (λ j less. ap (λ b. not (b == byte)) (front j less)))
    (c.others-2.ensures ∙ same_flags _ _ (λ j less. ap (λ b. not (b == byte)) (back j less)))
