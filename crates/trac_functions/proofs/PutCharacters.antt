-- Characters put behind the neutral string.
use Rattle.trac_functions.proofs.Imports.{◌≡◌, ℕ, ◌+◌, ◌<◌, ◌≤◌, Bool, List, [], ◌∷◌, ◌++◌, length, take, Some, refl, sym, ap, ◌∙◌, subst, arith, append_assoc, slice_get, length-append, length-map, length-take, map-append, Function, Text, Cell, Byte, flat_text, Contents, used, IsSound, Valued, IsValue}
use Rattle.trac_functions.proofs.DigitParts.{flat_more}

-- the contents with a text put behind
abbrev pub with_text : Contents → Text → Contents
with_text w text = record w { neutral = w.neutral ++ flat_text text }

pub used-with : (w : Contents) (text : Text) → used (with_text w text) ≡ used w + length text
used-with w text = omega (arith, length-append w.neutral (flat_text text), length-map text Byte)

-- one more character of a text stands at the end of the neutral string
pub with-more : (w now next : Contents) (text : Text) (k c : ℕ) → now ≡ with_text w (take k text) → slice_get text k ≡ Some c → next ≡ record now { neutral = now.neutral ++ Byte c ∷ [] } → next ≡ with_text w (take (k + 1) text)
with-more w now next text k c so_far here more =
    more
    ∙ ap (λ (v : Contents). let u : Contents = record v { neutral = v.neutral ++ Byte c ∷ [] } in u) so_far
    ∙ ap (λ (cells : List Cell). let u : Contents = record w { neutral = cells } in u) (flat_more w.neutral (w.neutral ++ flat_text (take k text)) (w.neutral ++ flat_text (take k text) ++ Byte c ∷ []) text k c refl here refl)

pub fits-more : (w now : Contents) (text : Text) (k : ℕ) → now ≡ with_text w (take k text) → k < length text → used w + length text ≤ w.room → used now < now.room
fits-more w now text k so_far lt fits =
    let long = length-take k text in
    let cells = used-with w (take k text) in
    let more : used (with_text w (take k text)) < w.room = omega arith in
    subst (λ v. used v < v.room) (sym so_far) more

-- a text behind a text
pub with-both : (w : Contents) (a b : Text) → with_text (with_text w a) b ≡ with_text w (a ++ b)
with-both w a b = ap (λ (cells : List Cell). let u : Contents = record w { neutral = cells } in u) (append_assoc w.neutral (flat_text a) (flat_text b) ∙ ap (λ cells. w.neutral ++ cells) (sym (map-append Byte a b)))

-- a value that stands there
pub stands-behind : (function : Function) (args : List Text) (old new : Contents) (value : Text) (forced : Bool) → Valued function args old.forms value forced old.forms → IsSound new → new ≡ with_text old value → IsValue function args old new forced value
stands-behind function args old new value forced valued sound e =
    let forms : new.forms ≡ old.forms = ap (λ (w : Contents). w.forms) e in
    record {
      valued = subst (λ f. Valued function args old.forms value forced f) (sym forms) valued;
      fits = let cells = ap used e ∙ used-with old value in let room = ap (λ (w : Contents). w.room) e in let fits = sound.fits in omega arith;
      stands = e ∙ ap (λ f. let u : Contents = record old { forms = f; neutral = old.neutral ++ flat_text value } in u) (sym forms);
    }
