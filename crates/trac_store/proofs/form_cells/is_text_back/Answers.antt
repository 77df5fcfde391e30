use Rattle.trac_store.proofs.Imports.{◌≡◌, ℕ, ◌+◌, ◌-◌, ◌<◌, ◌≤◌, List, ◌∷◌, length, drop, get_or, sym, ap, ◌∙◌, arith, length-map, drop_more, character_of, text_of_cells}
use Rattle.trac_store.proofs.Finding.{character-read}
use Rattle.trac_store.proofs.form_cells.is_text_back.Goals as goal

-- one number more before those that are the same
same_before : (a b : List ℕ) (n : ℕ) → 0 < n → n ≤ length a → n ≤ length b →
    get_or a (n - 1) 0 ≡ get_or b (n - 1) 0 → drop n a ≡ drop n b → drop (n - 1) a ≡ drop (n - 1) b
same_before a b n some in_a in_b first same =
    let next : n - 1 + 1 ≡ n = omega arith in
    let rest : drop (n - 1 + 1) a ≡ drop (n - 1 + 1) b =
    ap (λ k. drop k a) next ∙ same ∙ sym (ap (λ k. drop k b) next) in
    drop_more a (n - 1) 0 (omega arith)
    ∙ ap (λ c. c ∷ drop (n - 1 + 1) a) first
    ∙ ap (λ cs. get_or b (n - 1) 0 ∷ cs) rest
    ∙ sym (drop_more b (n - 1) 0 (omega arith))

pub loop-left-preserved : goal.loop-left-preserved
loop-left-preserved c =
    let a = c.args.cells.now in
    let b = c.args.text.now in
    let n = c.loop-left.left in
    let within = c.loop-left.invariant.within in
    let ra = character-read a (n - 1) (omega (arith, c.requires.same)) ∙ sym c.byte_in.ensures in
    let rb = character-read b (n - 1) (omega arith) ∙ sym c.byte_in-in-loop-left.ensures in
    let in_a : n ≤ length (text_of_cells a) = omega (arith, length-map a character_of, c.requires.same) in
    let in_b : n ≤ length (text_of_cells b) = omega (arith, length-map b character_of) in
    let before = same_before (text_of_cells a) (text_of_cells b) n (omega arith) in_a in_b (ra ∙ c.if-byte_in.false ∙ sym rb) in
    record { within = omega arith; same = before c.loop-left.invariant.same }
