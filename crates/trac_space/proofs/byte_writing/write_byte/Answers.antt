use Rattle.trac_space.proofs.Imports.{◌≡◌, ℕ, ◌+◌, ◌<◌, List, [], ◌∷◌, ◌++◌, length, take, drop, set, get_or, ◌∙◌, arith, drop_more, take_more, map-append, set_at, append_assoc, length-map, length-take-le, Cell, Byte, bytes, written_up_to}
use Rattle.trac_space.proofs.byte_writing.write_byte.Goals as goal

-- one byte more of a text is written
written-more : (text : List ℕ) (was now : List Cell) (i : ℕ) → length was ≡ length text → i < length text → now ≡ written_up_to i text was → set now i (Byte (get_or text i 0)) ≡ bytes (take (i + 1) text) ++ drop (i + 1) was
written-more text was now i same within is =
    let cell = Byte (get_or text i 0) in
    let split = drop_more was i cell (omega arith) in
    let len : length (bytes (take i text)) ≡ i = length-map (take i text) Byte ∙ length-take-le i text (omega arith) in
    rw (is, split, set_at (bytes (take i text)) (get_or was i cell) (drop (i + 1) was) cell i len, take_more text i 0 within, map-append Byte (take i text) (get_or text i 0 ∷ []), append_assoc (bytes (take i text)) (cell ∷ []) (drop (i + 1) was))

pub returns-clause-written : goal.returns-clause-written
returns-clause-written c = λ was next e long is.
    rw e (written-more c.args.text.now was c.args.cells.now c.args.i long c.requires.within is)
