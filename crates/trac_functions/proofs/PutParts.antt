-- A value that is put at the end of the neutral string part by part.
use Rattle.trac_functions.proofs.Imports.{◌≡◌, ℕ, ◌+◌, ◌<◌, ◌≤◌, false, List, [], ◌++◌, length, slice_range, refl, sym, ap, ◌∙◌, arith, append_assoc, append-nil, length-append, Function, Text}
use Rattle.trac_functions.proofs.Imports.{flat_text, Contents, used, IsSound, IsTextPart, part_text, Valued, IsValue}
use Rattle.trac_functions.proofs.CellRanges.{part-append}
use Rattle.trac_functions.proofs.PutCharacters.{with_text, used-with, with-both, stands-behind}

module _ (old : Contents) (whole : Text) where
  -- of the text `whole`, `left` is left to put, and what was put stands at the end of the neutral string
  pub record HasPut (now : Contents) (left : Text) : Type 0 where
    pub done : Text
    pub sound : IsSound now
    pub stands : now ≡ with_text old done
    pub whole_is : done ++ left ≡ whole

  pub put-none : (now : Contents) (left : Text) → IsSound now → now ≡ old → left ≡ whole → HasPut now left
  put-none now left sound same e =
      record { done = []; sound = sound; stands = same ∙ ap (λ cells. record old { neutral = cells }) (sym (append-nil old.neutral)); whole_is = e }

  -- one more part of a text was put at the end of the neutral string
  pub put-more : (now new : Contents) (text left rest : Text) → HasPut now left → left ≡ text ++ rest → new ≡ with_text now text → IsSound new → HasPut new rest
  put-more now new text left rest put split more sound =
      record {
        done = put.done ++ text;
        sound = sound;
        stands = more ∙ ap (λ w. with_text w text) put.stands ∙ with-both old put.done text;
        whole_is = append_assoc put.done text rest ∙ ap (λ t. put.done ++ t) (sym split) ∙ put.whole_is;
      }

  pub used-put : (now : Contents) (left : Text) (put : HasPut now left) → used now + length left ≡ used old + length whole
  used-put now left put =
      omega (arith, ap used put.stands ∙ used-with old put.done, ap length put.whole_is, length-append put.done left)

  -- where a part that is left doesn't fit the whole doesn't
  pub put-full : (now : Contents) (text left rest : Text) → HasPut now left → left ≡ text ++ rest → now.room < used now + length text → old.room < used old + length whole
  put-full now text left rest put split full =
      let room : now.room ≡ old.room = ap (λ (w : Contents). w.room) put.stands in
      omega (arith, used-put now left put, ap length split, length-append text rest)

  pub forms-kept : (now : Contents) (left : Text) → HasPut now left → now.forms ≡ old.forms
  forms-kept now left put = ap (λ (w : Contents). w.forms) put.stands

-- where none is left the value stands
pub put-all : (f : Function) (args : List Text) (old now : Contents) (whole : Text) → HasPut old whole now [] → Valued f args old.forms whole false old.forms → IsValue f args old now false whole
put-all f args old now whole put valued =
    stands-behind f args old now whole false valued put.sound (put.stands ∙ ap (with_text old) (sym (append-nil put.done) ∙ put.whole_is))

module _ (old : Contents) (whole : Text) (now : Contents) (left : Text) (put : HasPut old whole now left) where
  kept : (a b : ℕ) → IsTextPart old.neutral a b → slice_range now.neutral a b ≡ slice_range old.neutral a b
  kept a b part = ap (λ (w : Contents). slice_range w.neutral a b) put.stands ∙ part-append old.neutral (flat_text put.done) a b part.order part.within

  longer : length old.neutral ≤ length now.neutral
  longer = omega (arith, ap (λ (w : Contents). length w.neutral) put.stands, length-append old.neutral (flat_text put.done))

  pub part-kept : (a b : ℕ) → IsTextPart old.neutral a b → IsTextPart now.neutral a b
  part-kept a b part =
      let within = part.within in
      record { order = part.order; within = omega (arith, longer); bytes = rw (kept a b part) part.bytes }

  pub text-kept : (a b : ℕ) → IsTextPart old.neutral a b → part_text now.neutral a b ≡ part_text old.neutral a b
  text-kept a b part = rw (kept a b part) refl
