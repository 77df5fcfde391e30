-- The parts that calls take of a form.
use Rattle.trac_space.specs.declared.part.Part.{Part as CellPart}
use Rattle.trac_functions.proofs.Imports.{◌≡◌, ◌≢◌, ℕ, zero, suc, ◌+◌, ◌-◌, ◌<◌, ◌≤◌, min, Bool, true, false, List, [], ◌∷◌, ◌++◌, length, take, drop, reverse, slice_range, get_or, Option, Some, None, refl, sym, ap, ◌∙◌, subst, arith, nat_lt, take_while, option_map}
use Rattle.trac_functions.proofs.Imports.{if◌then◌else◌, int_lt, unsigned_abs, pos, prefix_len, lt-ltb, le-ltb, length-take, length-drop, length-reverse, nil_from_length, get_or-drop, drop-drop, drop_of_length-le, sum_by-cons, Item, Function, Text, Form, is_character, text_of, after_pointer, before_pointer}
use Rattle.trac_functions.proofs.Imports.{begins, place_of, form_named, changed, cells, form_cells, Input, Part, characters, first_characters, segment_from, next_segment, unless_null, forward, backward, next_characters, previous_characters, up_to, initial_part, World, on_form}
use Rattle.trac_functions.proofs.Imports.{take_part, meaning_of, value_length, built, number, flat_text, signed, character_at, is_gap, gap_at, text_at, NonePasses, IsFirst, Contents, form_at, IsNamedAt, IsSound, part_text, form_named-at, changed-at, CallResult, Full, AtEnd}
use Rattle.trac_functions.proofs.Imports.{InFront, world, Valued, Makes, Performs, Arguments, AreArguments, argument, texts, part_value, moved, TakesPart, TakesOrDefault}
use Rattle.trac_language.specs.declared.item.Item.TheVariants.{Byte, Gap}
use Rattle.trac_functions.proofs.CountLimits.{counted}
use Rattle.trac_functions.proofs.MadeValues.{valued-of}
use Rattle.trac_functions.proofs.TakenItems.{first_characters-none, first-character, forward-all, forward-last, forward-more, forward-none, length-text_of, text_of-first, taken-forward, taken-backward, length-text_of-reverse}

-- ---- what a call makes of the part that it takes

-- a call of this function takes a part of the form that its first argument names
module _ (f : Function) (args : List Text) (name : Text) (part : Form → Option Part) (z : Text) (scanned : Bool) (means : (w : World) → meaning_of f args w ≡ on_form (form_named name w.forms) (λ form. take_part name (part form) z w) w) (built_is : (w : World) → built (Some f) args w ≡ value_length (meaning_of f args w)) where
  -- what the form at a place gives
  makes-part : (old new : Contents) (k : ℕ) (call_result : CallResult) → IsSound old → IsNamedAt old.forms name k → TakesPart (part (form_at old.forms k)) z k old call_result new → Makes f args scanned old call_result new
  makes-part old new k call_result sound at takes = go (part (form_at old.forms k)) refl call_result takes
    where
      means-at : (o : Option Part) → part (form_at old.forms k) ≡ o → (meta : ℕ) (input : Input) → meaning_of f args (world old.forms meta input) ≡ take_part name o z (world old.forms meta input)
      means-at o e meta input =
          means (world old.forms meta input)
          ∙ ap (λ o. on_form o (λ form. take_part name (part form) z (world old.forms meta input)) (world old.forms meta input)) (form_named-at name old.forms k sound.forms at)
          ∙ ap (λ o. take_part name o z (world old.forms meta input)) e

      go : (o : Option Part) → part (form_at old.forms k) ≡ o → (call_result : CallResult) → TakesPart o z k old call_result new → Makes f args scanned old call_result new
      go o e Full takes = λ meta input. let size = built_is (world old.forms meta input) ∙ ap value_length (means-at o e meta input) ∙ long o (world old.forms meta input) in omega arith
        where
          long : (o : Option Part) (w : World) → value_length (take_part name o z w) ≡ length (part_value o z)
          long None w = refl
          long (Some p) w = refl
      go None e (InFront size) takes =
          let forms : new.forms ≡ old.forms = ap (λ (w : Contents). w.forms) takes.stands in (
            z,
            (
              true,
              record {
                valued = subst (λ fs. Valued f args old.forms z true fs) (sym forms) (valued-of f args old.forms old.forms z true (means-at None e) built_is);
                goes = refl;
                long = takes.size;
                fits = takes.fits;
                stands = takes.stands ∙ ap (λ fs. record old { forms = fs; active = flat_text z ++ old.active }) (sym forms);
              },
            ),
          )
      go (Some p) e AtEnd takes =
          let forms : new.forms ≡ moved old.forms k p.pointer = ap (λ (w : Contents). w.forms) takes.stands in
          let changes : changed name (λ form. record form { pointer = p.pointer }) old.forms ≡ moved old.forms k p.pointer = changed-at name (λ form. record form { pointer = p.pointer }) old.forms k sound.forms at in (
            p.text,
            record {
              valued = subst (λ fs. Valued f args old.forms p.text false fs) (changes ∙ sym forms) (valued-of f args old.forms (changed name (λ form. record form { pointer = p.pointer }) old.forms) p.text false (means-at (Some p) e) built_is);
              fits = takes.fits;
              stands = takes.stands ∙ ap (λ fs. record old { forms = fs; neutral = old.neutral ++ flat_text p.text }) (sym forms);
            },
          )
      go None e _ takes = absurd takes
      go (Some p) e _ takes = absurd takes

-- in `found`, which is still `old`, the code found the form that the first argument names
pub record FindsForm (old found : Contents) (a : Arguments) : Type 0 where
  pub are : AreArguments old a
  pub same : found ≡ old
  pub name : Text
  pub place : ℕ
  pub at : IsNamedAt old.forms name place
  pub is_first : name ≡ argument (texts old a) 0

-- what a call makes that takes a part of a form, by the place at which the code found the form
module _ (f : Function) (part : List Text → Form → Option Part) (other : ℕ) (means : (ts : List Text) (title : Text) (w : World) → meaning_of f (title ∷ ts) w ≡ on_form (form_named (argument ts 0) w.forms) (λ form. take_part (argument ts 0) (part ts form) (argument ts other) w) w) (built_is : (ts : List Text) (title : Text) (w : World) → built (Some f) (title ∷ ts) w ≡ value_length (meaning_of f (title ∷ ts) w)) where
  pub makes-found : (old found new : Contents) (a : Arguments) (call_result : CallResult) (z : CellPart) (form : FindsForm old found a) → TakesOrDefault (part (texts old a)) form.place z found call_result new → part_text old.neutral z.from z.to ≡ argument (texts old a) other → Performs f old a call_result new
  makes-found old found new a call_result z form takes text = λ title.
      let ts = texts old a in
      let here = subst (λ (w : Contents). TakesOrDefault (part ts) form.place z w call_result new) form.same takes in
      makes-part f (title ∷ ts) (argument ts 0) (part ts) (argument ts other) a.scanned (means ts title) (built_is ts title) old new form.place call_result form.are.sound
      (subst (λ n. IsNamedAt old.forms n form.place) form.is_first form.at) (subst (λ t. TakesPart (part ts (form_at old.forms form.place)) t form.place old call_result new) text here)

-- a part that is there is taken, and else the text of z
pub takes-some : {part : Part} {o : Option Part} (z : CellPart) (k : ℕ) (old : Contents) (call_result : CallResult) (new : Contents) → Some part ≡ o → ((z : Text) → TakesPart (Some part) z k old call_result new) → TakesPart o (part_text old.neutral z.from z.to) k old call_result new
takes-some z k old call_result new e takes = subst (λ o. TakesPart o (part_text old.neutral z.from z.to) k old call_result new) e (takes (part_text old.neutral z.from z.to))

pub takes-none : {o : Option Part} (z : CellPart) (k : ℕ) (old : Contents) (call_result : CallResult) (new : Contents) → o ≡ None → ((k : ℕ) → TakesPart None (part_text old.neutral z.from z.to) k old call_result new) → TakesPart o (part_text old.neutral z.from z.to) k old call_result new
takes-none z k old call_result new e takes = subst (λ o. TakesPart o (part_text old.neutral z.from z.to) k old call_result new) (sym e) (takes k)

-- ---- the parts

abbrev pub a-part : Text → ℕ → Part
a-part text pointer = record { text = text; pointer = pointer }

some-part : (part : Part) → 0 < length part.text → unless_null part ≡ Some part
some-part part some = ap (λ b. if b then Some part else None) (lt-ltb 0 (length part.text) some)

-- the next characters after the pointer: none where none is passed
pub next-none : (form : Form) (n from to : ℕ) → from ≡ form.pointer → to ≡ from + length (first_characters (min n (length (text_of (drop from form.body)))) (drop from form.body)) → to ≡ from → next_characters n form ≡ None
next-none form n from to from_is to_is same =
    let e : first_characters (min n (length (text_of (drop form.pointer form.body)))) (drop form.pointer form.body) ≡ [] =
    nil_from_length (first_characters (min n (length (text_of (drop form.pointer form.body)))) (drop form.pointer form.body))
    (sym (ap (λ p. length (first_characters (min n (length (text_of (drop p form.body)))) (drop p form.body))) from_is) ∙ omega arith) in
    ap (forward form) e

-- some characters have a text
some-taken : (items : List Item) (m : ℕ) → m ≤ length (text_of items) → length (first_characters m items) ≢ 0 → 0 < length (text_of (first_characters m items))
some-taken items zero le some = absurd (some (ap length (first_characters-none items)))
some-taken items (suc m) le some = omega (arith, text_of-first items (suc m))

-- the next characters after the pointer are those up to the place `to`, if some are passed
pub next-some : (form : Form) (n from to : ℕ) → from ≡ form.pointer → from ≤ length form.body → to ≡ from + length (first_characters (min n (length (text_of (drop from form.body)))) (drop from form.body)) → to ≢ from → Some (a-part (text_of (slice_range form.body from to)) to) ≡ next_characters n form
next-some form n from to from_is within to_is other =
    let m = min n (length (text_of (drop from form.body))) in
    let u = first_characters m (drop from form.body) in
    let part : u ≡ slice_range form.body from to = taken-forward form.body from m within ∙ ap (λ k. slice_range form.body from k) (sym to_is) in
    ap (λ t. Some (a-part (text_of t) to)) (sym part) ∙ ap (λ k. Some (a-part (text_of u) k)) to_is
    ∙ sym (some-part (a-part (text_of u) (from + length u)) (some-taken (drop from form.body) m (omega arith) (λ e. other (omega arith))))
    ∙ ap (λ p. unless_null (a-part (text_of (first_characters (min n (length (text_of (drop p form.body)))) (drop p form.body))) (p + length (first_characters (min n (length (text_of (drop p form.body)))) (drop p form.body))))) from_is

-- the next character after the pointer
pub one-none : (form : Form) (from : ℕ) → from ≡ form.pointer → from ≤ length form.body → NonePasses (character_at form.body) from (length form.body) → next_characters 1 form ≡ None
one-none form from is within none =
    next-none form 1 from from is (forward-last form.body from 0 from within (forward-none form.body from) 1 (omega arith) none) refl

pub one-some : (form : Form) (from place : ℕ) → from ≡ form.pointer → from ≤ length form.body → IsFirst (character_at form.body) from (length form.body) place → Some (a-part (text_of (slice_range form.body place (place + 1))) (place + 1)) ≡ next_characters 1 form
one-some form from place is within first =
    let above = first.above in
    let there = forward-more form.body from 0 from within (forward-none form.body from) place first in
    ap (λ t. Some (a-part t (place + 1))) (sym (first-character form.body from place first))
    ∙ next-some form 1 from (place + 1) is within (forward-all form.body from 1 (place + 1) within there 1 (let some = there.there in omega arith)) (λ e. absurd (omega arith))

-- the last characters before the pointer: none where none is passed
pub previous-none : (form : Form) (n from to : ℕ) → to ≡ form.pointer → from + length (first_characters (min n (length (text_of (take to form.body)))) (reverse (take to form.body))) ≡ to → from ≡ to → previous_characters n form ≡ None
previous-none form n from to to_is at same =
    let e : first_characters (min n (length (text_of (take form.pointer form.body)))) (reverse (take form.pointer form.body)) ≡ [] =
    nil_from_length (first_characters (min n (length (text_of (take form.pointer form.body)))) (reverse (take form.pointer form.body)))
    (sym (ap (λ p. length (first_characters (min n (length (text_of (take p form.body)))) (reverse (take p form.body)))) to_is) ∙ omega arith) in
    ap (λ u. backward form (reverse u)) e

-- the last characters before the pointer are those from the place `from` on, if some are passed
pub previous-some : (form : Form) (n from to : ℕ) → to ≡ form.pointer → to ≤ length form.body → from + length (first_characters (min n (length (text_of (take to form.body)))) (reverse (take to form.body))) ≡ to → from ≢ to → Some (a-part (text_of (slice_range form.body from to)) from) ≡ previous_characters n form
previous-some form n from to to_is within at other =
    let m = min n (length (text_of (take to form.body))) in
    let back = reverse (take to form.body) in
    let u = reverse (first_characters m back) in
    let part : u ≡ slice_range form.body from to = taken-backward form.body to from m within at in
    let total = length-text_of-reverse (take to form.body) in
    let u_long = length-reverse (first_characters m back) in
    let some : 0 < length (text_of u) = omega (arith, length-text_of-reverse (first_characters m back), some-taken back m (omega arith) (λ e. other (omega arith))) in
    let place : from ≡ to - length u = omega arith in
    ap (λ t. Some (a-part (text_of t) from)) (sym part) ∙ ap (λ k. Some (a-part (text_of u) k)) place
    ∙ sym (some-part (a-part (text_of u) (to - length u)) some)
    ∙ ap (λ p. unless_null (a-part (text_of (reverse (first_characters (min n (length (text_of (take p form.body)))) (reverse (take p form.body))))) (p - length (reverse (first_characters (min n (length (text_of (take p form.body)))) (reverse (take p form.body))))))) to_is

-- no characters
pub part-null : (form : Form) (p : ℕ) → p ≡ form.pointer → Some (a-part (text_of (slice_range form.body p p)) p) ≡ Some (a-part [] form.pointer)
part-null form p e =
    let none : p - p ≡ 0 = omega arith in
    ap (λ n. Some (a-part (text_of (take n (drop p form.body))) p)) none
    ∙ ap (λ q. Some (a-part [] q)) e

-- ---- up to the next gap

prefix-run : (items : List Item) (n : ℕ) → n ≤ length items → ((k : ℕ) → k < n → is_gap (get_or items k (Byte 0)) ≡ false) → (n < length items → is_gap (get_or items n (Byte 0)) ≡ true) → prefix_len is_character items ≡ n
prefix-run [] n within before last = omega arith
prefix-run (Byte c ∷ items) zero within before last = absurd (let wrong = last (omega arith) in cc)
prefix-run (Byte c ∷ items) (suc n) within before last =
    let rest = prefix-run items n (omega arith) (λ k lt. before (suc k) (omega arith)) (λ lt. last (omega arith)) in omega arith
prefix-run (Gap g ∷ items) zero within before last = refl
prefix-run (Gap g ∷ items) (suc n) within before last = absurd (let wrong = before 0 (omega arith) in cc)

pub segment-none : (form : Form) (p : ℕ) → p ≡ form.pointer → p ≡ length form.body → next_segment form ≡ None
segment-none form p e end =
    let rest : drop form.pointer form.body ≡ [] = drop_of_length-le form.body (omega arith) in
    ap (λ items. segment_from form.pointer items (take_while is_character items)) rest

-- the segment that ends at a place, at a gap or at the end of the body
segment-at : (form : Form) (p n pointer : ℕ) → p ≡ form.pointer → prefix_len is_character (drop p form.body) ≡ n → p + n ≤ length form.body → p < length form.body → (if nat_lt n (length (drop p form.body)) then p + n + 1 else p + n) ≡ pointer → Some (a-part (text_of (take n (drop p form.body))) pointer) ≡ next_segment form
segment-at form p n pointer e run within some pointer_is =
    let long = length-drop p form.body in
    let front : n ≡ length (take n (drop p form.body)) = omega (arith, length-take n (drop p form.body)) in
    ap (λ q. Some (a-part (text_of (take n (drop p form.body))) q)) (sym pointer_is)
    ∙ ap (λ m. Some (a-part (text_of (take n (drop p form.body))) (if nat_lt m (length (drop p form.body)) then p + m + 1 else p + m))) front
    ∙ go (drop p form.body) (omega arith)
    ∙ ap (λ m. segment_from p (drop p form.body) (take m (drop p form.body))) (sym run)
    ∙ ap (λ q. segment_from q (drop q form.body) (take_while is_character (drop q form.body))) e
  where
    go : (items : List Item) → 0 < length items → Some (a-part (text_of (take n items)) (if nat_lt (length (take n items)) (length items) then p + length (take n items) + 1 else p + length (take n items))) ≡ segment_from p items (take n items)
    go [] some = absurd (omega arith)
    go (x ∷ xs) some = refl

pub segment-gap : (form : Form) (p gap : ℕ) → p ≡ form.pointer → IsFirst (gap_at form.body) p (length form.body) gap → Some (a-part (text_of (slice_range form.body p gap)) (gap + 1)) ≡ next_segment form
segment-gap form p gap e first =
    let inside = first.within in
    let above = first.above in
    let long = length-drop p form.body in
    let here : p + (gap - p) ≡ gap = omega arith in
    let run = prefix-run (drop p form.body) (gap - p) (omega arith)
    (λ k lt. ap is_gap (get_or-drop p form.body k (Byte 0)) ∙ first.before (p + k) (omega arith) (omega arith))
    (λ lt. ap is_gap (get_or-drop p form.body (gap - p) (Byte 0)) ∙ ap (gap_at form.body) here ∙ first.passes) in
    segment-at form p (gap - p) (gap + 1) e run (omega arith) (omega arith) (rw (lt-ltb (gap - p) (length (drop p form.body)) (omega arith)) (omega arith))

pub segment-end : (form : Form) (p end : ℕ) → p ≡ form.pointer → end ≡ length form.body → p ≤ end → p ≢ end → NonePasses (gap_at form.body) p (length form.body) → Some (a-part (text_of (slice_range form.body p end)) end) ≡ next_segment form
segment-end form p end e end_is le other none =
    let long = length-drop p form.body in
    let run = prefix-run (drop p form.body) (end - p) (omega arith)
    (λ k lt. ap is_gap (get_or-drop p form.body k (Byte 0)) ∙ none (p + k) (omega arith) (omega arith))
    (λ lt. absurd (omega arith)) in
    segment-at form p (end - p) end e run (omega arith) (omega arith) (rw (le-ltb (end - p) (length (drop p form.body)) (omega arith)) (omega arith))

-- ---- up to an occurrence

place-first : (text : Text) (items : List Item) (i : ℕ) → i < length items → begins (drop i items) text ≡ true → ((k : ℕ) → k < i → begins (drop k items) text ≡ false) → place_of text items ≡ Some i
place-first text [] i within here before = absurd (omega arith)
place-first text (item ∷ items) zero within here before = ap (λ b. if b then Some 0 else option_map suc (place_of text items)) here
place-first text (item ∷ items) (suc i) within here before =
    ap (λ b. if b then Some 0 else option_map suc (place_of text items)) (before 0 (omega arith))
    ∙ ap (option_map suc) (place-first text items i (omega arith) here (λ k lt. before (suc k) (omega arith)))

place-none : (text : Text) (items : List Item) → ((k : ℕ) → k < length items → begins (drop k items) text ≡ false) → place_of text items ≡ None
place-none text [] none = refl
place-none text (item ∷ items) none =
    ap (λ b. if b then Some 0 else option_map suc (place_of text items)) (none 0 (omega arith))
    ∙ ap (option_map suc) (place-none text items (λ k lt. none (suc k) (omega arith)))

some-text : (text : Text) (form : Form) → 0 < length text → initial_part text form ≡ up_to (place_of text (after_pointer form)) text form
some-text [] form some = absurd (omega arith)
some-text (c ∷ text) form some = refl

pub initial-null : (text : Text) (form : Form) → length text ≡ 0 → initial_part text form ≡ Some (a-part [] form.pointer)
initial-null [] form e = refl
initial-null (c ∷ text) form e = absurd (omega arith)

pub initial-some : (text : Text) (form : Form) (p begin end : ℕ) → p ≡ form.pointer → 0 < length text → IsFirst (text_at text form.body) p (length form.body) begin → end ≡ begin + length text → Some (a-part (text_of (slice_range form.body p begin)) end) ≡ initial_part text form
initial-some text form p begin end e some first end_is =
    let inside = first.within in
    let above = first.above in
    let long = length-drop p form.body in
    let here : p + (begin - p) ≡ begin = omega arith in
    let place : place_of text (drop p form.body) ≡ Some (begin - p) =
    place-first text (drop p form.body) (begin - p) (omega arith)
    (ap (λ items. begins items text) (drop-drop (begin - p) p form.body) ∙ ap (text_at text form.body) here ∙ first.passes)
    (λ k lt. ap (λ items. begins items text) (drop-drop k p form.body) ∙ first.before (p + k) (omega arith) (omega arith)) in
    let pointer : p + (begin - p) + length text ≡ end = omega arith in
    sym (some-text text form some
    ∙ sym (ap (λ q. up_to (place_of text (drop q form.body)) text (record form { pointer = q })) e)
    ∙ ap (λ o. up_to o text (record form { pointer = p })) place
    ∙ ap (λ q. Some (a-part (text_of (slice_range form.body p begin)) q)) pointer)

pub initial-none : (text : Text) (form : Form) (p : ℕ) → p ≡ form.pointer → p ≤ length form.body → 0 < length text → NonePasses (text_at text form.body) p (length form.body) → initial_part text form ≡ None
initial-none text form p e within some none =
    let long = length-drop p form.body in
    some-text text form some
    ∙ sym (ap (λ q. up_to (place_of text (drop q form.body)) text (record form { pointer = q })) e)
    ∙ ap (λ o. up_to o text (record form { pointer = p }))
    (place-none text (drop p form.body) (λ k lt. ap (λ items. begins items text) (drop-drop k p form.body) ∙ none (p + k) (omega arith) (omega arith)))

pub characters-zero : (negative : Bool) (size : ℕ) (form : Form) → size ≡ 0 → characters (signed negative size) form ≡ Some (a-part [] form.pointer)
characters-zero true size form e = ap (λ n. characters (signed true n) form) e
characters-zero false size form e = ap (λ n. characters (signed false n) form) e

-- a count up to a limit takes the same characters
body-within : (forms : List Form) (k : ℕ) → k < length forms → length (form_at forms k).body ≤ cells forms
body-within [] k lt = absurd (omega arith)
body-within (form ∷ forms) zero lt = omega (arith, sum_by-cons form_cells form forms)
body-within (form ∷ forms) (suc k) lt = let rest = body-within forms k (omega arith) in omega (arith, sum_by-cons form_cells form forms)

pub characters-counted : (w : Contents) (k : ℕ) (text : Text) (negative : Bool) (size : ℕ) → IsSound w → k < length w.forms → negative ≡ int_lt (number text) (pos 0) → size ≡ min (unsigned_abs (number text)) 16777216 → characters (signed negative size) (form_at w.forms k) ≡ characters (number text) (form_at w.forms k)
characters-counted w k text negative size sound lt sign is =
    let form = form_at w.forms k in
    let within = body-within w.forms k lt in
    let fits = sound.fits in
    let bounded = sound.bounded in
    let after = length-text_of (after_pointer form) in
    let before = length-text_of (before_pointer form) in
    let after_long = length-drop form.pointer form.body in
    let before_long = length-take form.pointer form.body in
    counted form (omega arith) (omega arith) (number text) negative size sign is
