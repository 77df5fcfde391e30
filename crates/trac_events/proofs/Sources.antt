-- The value of each call comes from its source.
use Rattle.trac_events.proofs.Imports.{◌≡◌, ℕ, zero, suc, ◌+◌, ◌-◌, ◌<◌, ◌≤◌, ◌==◌, min, max, Bool, true, false, List, [], ◌∷◌, ◌++◌, Option, Some, None, length, take, drop, refl, sym, ap, ◌∙◌, arith, if◌then◌else◌}
use Rattle.trac_events.proofs.Imports.{append-nil, bytes_eq, eq-eqb, eqb-true, length-reverse, length-take, ltb-false, ltb-true, nat_lt, ne_eqb, negsuc, option_map, pos, position_or_len, prefix_len, reverse, slice_range, take-append-drop, take_while, unsigned_abs, ℤ}
use Rattle.trac_language.specs.declared.function.Function.{Function}
use Rattle.trac_language.specs.declared.function.Function.TheVariants as function
use Rattle.trac_language.specs.declared.item.Item.{Item}
use Rattle.trac_language.specs.declared.item.Item.TheVariants.{Byte, Gap}
use Rattle.trac_language.specs.Text.{Text}
use Rattle.trac_language.specs.Form.{Form, after_pointer, before_pointer, fill, is_character, text_of}
use Rattle.trac_language.specs.Store.{IsStore, changed, form_named}
use Rattle.trac_language.specs.Number.{arith as result, number, prefix}
use Rattle.trac_language.specs.Segment.{place_of}
use Rattle.trac_language.specs.Part.{Part as Taken, backward, characters, first_characters, forward, initial_part, last_characters, next_segment, segment_from, up_to}
use Rattle.trac_language.specs.State.{argument}
use Rattle.trac_language.specs.Meaning.{World, Meaning, before_meta, from_meta, change_meta, meaning_of, on_form, read_all, read_character, read_string, result_or, take_part, valued}
use Rattle.trac_functions.proofs.TakenItems.{first_characters-take, first_characters-within, length-text_of, taken-backward}
use Rattle.trac_laws.proofs.Stores.{found_within}
use Rattle.trac_events.specs.declared.source.ValueSource.TheVariants.{Nothing, Argument, Body, Input}
use Rattle.trac_events.specs.Sources.{MeansFrom, ValuesComeFrom, function_source, of_form, part_source, passed_over, result_source}

-- ---- what the pointer passed over

-- forward, by n items and the items sought
passed-forward : (form : Form) (n later sought : ℕ) → later ≡ form.pointer + n + sought → passed_over form later sought ≡ text_of (take n (drop form.pointer form.body))
passed-forward form n later sought e =
    let from : min form.pointer later ≡ form.pointer = omega (arith, e) in
    let long : max form.pointer later - sought - min form.pointer later ≡ n = omega (arith, e) in
    ap (λ k. text_of (take k (drop (min form.pointer later) form.body))) long ∙ ap (λ k. text_of (take n (drop k form.body))) from

-- backward, down to a place
passed-backward : (form : Form) (later : ℕ) → later ≤ form.pointer → passed_over form later 0 ≡ text_of (slice_range form.body later form.pointer)
passed-backward form later le =
    let from : min form.pointer later ≡ later = omega (arith, le) in
    let to : max form.pointer later - 0 ≡ form.pointer = omega (arith, le) in
    ap (λ k. text_of (slice_range form.body k (max form.pointer later - 0))) from ∙ ap (λ k. text_of (slice_range form.body later k)) to

-- the pointer moves over a part that is taken, and the part is what it passed over
abbrev IsTaken : Form → ℕ → Option Taken → Type 0
IsTaken form sought None = Unit {0}
IsTaken form sought (Some part) = ((form.pointer == part.pointer) ≡ false) × (part.text ≡ passed_over form part.pointer sought)

-- ---- segments

front-taken : (n : ℕ) (items : List Item) → take (length (take n items)) items ≡ take n items
front-taken zero items = refl
front-taken (suc n) [] = refl
front-taken (suc n) (item ∷ items) = ap (λ t. item ∷ t) (front-taken n items)

front-more : (c : ℕ) (items : List Item) → take_while is_character (Byte c ∷ items) ≡ Byte c ∷ take_while is_character items
front-more c items =
    let more : 1 + prefix_len is_character items ≡ suc (prefix_len is_character items) = omega arith in
    ap (λ n. take n (Byte c ∷ items)) more

-- a gap behind the characters adds nothing
front-gap : (items : List Item) → text_of (take (suc (length (take_while is_character items))) items) ≡ text_of (take_while is_character items)
front-gap [] = refl
front-gap (Byte c ∷ items) =
    ap (λ t. text_of (take (suc (length t)) (Byte c ∷ items))) (front-more c items)
    ∙ ap (λ t. c ∷ t) (front-gap items)
    ∙ sym (ap text_of (front-more c items))
front-gap (Gap k ∷ items) = refl

segment-taken : (form : Form) → IsTaken form 0 (next_segment form)
segment-taken form = go (after_pointer form) refl
  where
    moved : (item : Item) (rest front : List Item) → drop form.pointer form.body ≡ item ∷ rest → text_of (take (suc (length front)) (item ∷ rest)) ≡ text_of front → take (length front) (item ∷ rest) ≡ front → (b : Bool) → nat_lt (length front) (length (item ∷ rest)) ≡ b → IsTaken form 0 (Some (record { text = text_of front; pointer = if b then form.pointer + length front + 1 else form.pointer + length front }))
    moved item rest front e gap all true is = (
      ne_eqb form.pointer (form.pointer + length front + 1) (λ same. absurd (omega (arith, same))),
      sym (passed-forward form (suc (length front)) (form.pointer + length front + 1) 0 (omega arith) ∙ ap (λ items. text_of (take (suc (length front)) items)) e ∙ gap),
    )
    moved item rest front e gap all false is =
        let most : length (item ∷ rest) ≤ length front = ltb-false (length front) (length (item ∷ rest)) is in (
          ne_eqb form.pointer (form.pointer + length front) (λ same. absurd (omega (arith, same, most))),
          sym (passed-forward form (length front) (form.pointer + length front) 0 (omega arith) ∙ ap (λ items. text_of (take (length front) items)) e ∙ ap text_of all),
        )

    go : (items : List Item) → drop form.pointer form.body ≡ items → IsTaken form 0 (segment_from form.pointer items (take_while is_character items))
    go [] e = tt
    go (item ∷ rest) e = moved item rest (take_while is_character (item ∷ rest)) e (front-gap (item ∷ rest)) (front-taken _ (item ∷ rest)) (nat_lt (length (take_while is_character (item ∷ rest))) (length (item ∷ rest))) refl

-- ---- numbers of characters

forward-part : (form : Form) (n : ℕ) (items : List Item) → items ≡ first_characters n (drop form.pointer form.body) → (b : Bool) → nat_lt 0 (length (text_of items)) ≡ b → IsTaken form 0 (if b then Some (record { text = text_of items; pointer = form.pointer + length items }) else None)
forward-part form n items e false is = tt
forward-part form n items e true is =
    let some : 0 < length (text_of items) = ltb-true 0 (length (text_of items)) is in
    let long : length (text_of items) ≤ length items = length-text_of items in
    let all : items ≡ take (length items) (drop form.pointer form.body) = e ∙ first_characters-take (drop form.pointer form.body) n ∙ ap (λ t. take (length t) (drop form.pointer form.body)) (sym e) in (
      ne_eqb form.pointer (form.pointer + length items) (λ same. absurd (omega (arith, same, some, long))),
      ap text_of all ∙ sym (passed-forward form (length items) (form.pointer + length items) 0 (omega arith)),
    )

forward-taken : (form : Form) (n : ℕ) → IsTaken form 0 (forward form (first_characters n (after_pointer form)))
forward-taken form n = forward-part form n (first_characters n (after_pointer form)) refl _ refl

backward-part : (form : Form) (n : ℕ) (items : List Item) → form.pointer ≤ length form.body → items ≡ reverse (first_characters n (reverse (take form.pointer form.body))) → (b : Bool) → nat_lt 0 (length (text_of items)) ≡ b → IsTaken form 0 (if b then Some (record { text = text_of items; pointer = form.pointer - length items }) else None)
backward-part form n items within e false is = tt
backward-part form n items within e true is =
    let some : 0 < length (text_of items) = ltb-true 0 (length (text_of items)) is in
    let long : length (text_of items) ≤ length items = length-text_of items in
    let same_length : length items ≡ length (first_characters n (reverse (take form.pointer form.body))) = ap length e ∙ length-reverse (first_characters n (reverse (take form.pointer form.body))) in
    let few : length (first_characters n (reverse (take form.pointer form.body))) ≤ form.pointer = omega (arith, first_characters-within (reverse (take form.pointer form.body)) n, length-reverse (take form.pointer form.body), length-take form.pointer form.body) in
    let at : form.pointer - length items + length (first_characters n (reverse (take form.pointer form.body))) ≡ form.pointer = omega (arith, same_length, few) in (
      ne_eqb form.pointer (form.pointer - length items) (λ same. absurd (omega (arith, same, some, long, same_length, few))),
      ap text_of (e ∙ taken-backward form.body form.pointer (form.pointer - length items) n within at) ∙ sym (passed-backward form (form.pointer - length items) (omega arith)),
    )

backward-taken : (form : Form) (n : ℕ) → form.pointer ≤ length form.body → IsTaken form 0 (backward form (last_characters n (before_pointer form)))
backward-taken form n within = backward-part form n (last_characters n (before_pointer form)) within refl _ refl

-- as many characters as a number says that isn't 0
number-taken : (form : Form) (n : ℤ) → form.pointer ≤ length form.body → (unsigned_abs n == 0) ≡ false → IsTaken form 0 (characters n form)
number-taken form (pos zero) within some = absurd cc
number-taken form (pos (suc n)) within some = forward-taken form _
number-taken form (negsuc n) within some = backward-taken form _ within

-- ---- what stands before a text

initial-taken : (form : Form) (c : ℕ) (text : Text) → IsTaken form (length (c ∷ text)) (initial_part (c ∷ text) form)
initial-taken form c text = go (place_of (c ∷ text) (after_pointer form))
  where
    go : (o : Option ℕ) → IsTaken form (length (c ∷ text)) (up_to o (c ∷ text) form)
    go None = tt
    go (Some i) = (
      ne_eqb form.pointer (form.pointer + i + length (c ∷ text)) (λ same. absurd (omega (arith, same))),
      sym (passed-forward form i (form.pointer + i + length (c ∷ text)) (length (c ∷ text)) refl),
    )

-- ---- the form of a name, when its pointer has moved

named-moved : (name : Text) (pointer : ℕ) (forms : List Form) (form : Form) → form_named name forms ≡ Some form → form_named name (changed name (λ form. record form { pointer = pointer }) forms) ≡ Some (record form { pointer = pointer })
named-moved name pointer [] form e = absurd cc
named-moved name pointer (first ∷ forms) form e = go (bytes_eq first.name name) refl e (named-moved name pointer forms form)
  where
    go : (b : Bool) → bytes_eq first.name name ≡ b → (if b then Some first else form_named name forms) ≡ Some form → (form_named name forms ≡ Some form → form_named name (changed name (λ form. record form { pointer = pointer }) forms) ≡ Some (record form { pointer = pointer })) → form_named name (if b then record first { pointer = pointer } ∷ forms else first ∷ changed name (λ form. record form { pointer = pointer }) forms) ≡ Some (record form { pointer = pointer })
    go true is e rest = let change : Form → Form = λ form. record form { pointer = pointer } in rw is (ap (option_map change) e)
    go false is e rest = rw is (rest e)

-- ---- the kinds of meanings

module _ (args : List Text) (w : World) where
  read_all-from : (fails : Bool) (text : Text) → w.input.text ≡ text → MeansFrom Input args w (read_all fails text w)
  read_all-from true text e = tt
  read_all-from false [] e = tt
  read_all-from false (c ∷ text) e = ([], e ∙ sym (append-nil (c ∷ text)))

  read_string-from : (text rest : Text) → w.input.text ≡ text ++ rest → MeansFrom Input args w (read_string text rest w)
  read_string-from text [] e = read_all-from w.input.fails text (e ∙ append-nil text)
  read_string-from text (c ∷ rest) e = (c ∷ rest, e)

  read_character-from : (text : Text) (fails : Bool) → w.input.text ≡ text → MeansFrom Input args w (read_character text fails w)
  read_character-from (c ∷ rest) fails e = (rest, e)
  read_character-from [] true e = tt
  read_character-from [] false e = tt

  change_meta-from : (text : Text) → MeansFrom Nothing args w (change_meta text w)
  change_meta-from [] = refl
  change_meta-from (c ∷ text) = refl

  null-from : (o : Option Form) (means : Form → Meaning) → ((form : Form) → MeansFrom Nothing args w (means form)) → MeansFrom Nothing args w (on_form o means w)
  null-from None means null = refl
  null-from (Some form) means null = null form

  body-from : (o : Option Form) → form_named (argument args 1) w.forms ≡ o → MeansFrom (of_form o Body) args w (on_form o (λ form. valued (fill (drop 2 args) (after_pointer form)) w) w)
  body-from None e = refl
  body-from (Some form) e = (form, (e, refl))

  chosen-from : (b : Bool) → MeansFrom (if b then Argument 3 else Argument 4) args w (valued (if b then argument args 3 else argument args 4) w)
  chosen-from true = refl
  chosen-from false = refl

  result-from : (o : Option ℤ) (before : Text) → MeansFrom (result_source o) args w (result_or o before (argument args 3) w)
  result-from None before = refl
  result-from (Some n) before = refl

  taken-from : (form : Form) (sought default : ℕ) (o : Option Taken) → form_named (argument args 1) w.forms ≡ Some form → IsTaken form sought o → MeansFrom (part_source sought default) args w (take_part (argument args 1) o (argument args default) w)
  taken-from form sought default None e taken =
      (form, (form, (e, (e, rw (eq-eqb form.pointer form.pointer refl) refl))))
  taken-from form sought default (Some part) e taken =
      (form, (record form { pointer = part.pointer }, (e, (named-moved (argument args 1) part.pointer w.forms form e, rw (taken.0) taken.1))))

  part-from : (sought default : ℕ) (part : Form → Option Taken) → ((form : Form) → form_named (argument args 1) w.forms ≡ Some form → IsTaken form sought (part form)) → (o : Option Form) → form_named (argument args 1) w.forms ≡ o → MeansFrom (of_form o (part_source sought default)) args w (on_form o (λ form. take_part (argument args 1) (part form) (argument args default) w) w)
  part-from sought default part taken None e = refl
  part-from sought default part taken (Some form) e = taken-from form sought default (part form) e (taken form e)

  number-from : IsStore w.forms → (n : ℤ) → (b : Bool) → (unsigned_abs n == 0) ≡ b → MeansFrom (if b then Nothing else of_form (form_named (argument args 1) w.forms) (part_source 0 3)) args w (on_form (form_named (argument args 1) w.forms) (λ form. take_part (argument args 1) (characters n form) (argument args 3) w) w)
  number-from store (pos zero) true is = null-from (form_named (argument args 1) w.forms) _ (λ form. refl)
  number-from store (pos (suc n)) true is = absurd (omega (arith, eqb-true (unsigned_abs (pos (suc n))) 0 is))
  number-from store (negsuc n) true is = absurd (omega (arith, eqb-true (unsigned_abs (negsuc n)) 0 is))
  number-from store n false is = part-from 0 3 (characters n) (λ form e. number-taken form n (found_within (argument args 1) w.forms form store e) is) (form_named (argument args 1) w.forms) refl

  initial-from : (text : Text) (b : Bool) → (length text == 0) ≡ b → MeansFrom (if b then Nothing else of_form (form_named (argument args 1) w.forms) (part_source (length text) 3)) args w (on_form (form_named (argument args 1) w.forms) (λ form. take_part (argument args 1) (initial_part text form) (argument args 3) w) w)
  initial-from [] true is = null-from (form_named (argument args 1) w.forms) _ (λ form. refl)
  initial-from (c ∷ text) true is = absurd (omega (arith, eqb-true (length (c ∷ text)) 0 is))
  initial-from [] false is = absurd cc
  initial-from (c ∷ text) false is = part-from (length (c ∷ text)) 3 (initial_part (c ∷ text)) (λ form e. initial-taken form c text) (form_named (argument args 1) w.forms) refl

-- ---- each function

function-from : (f : Function) (args : List Text) (w : World) → IsStore w.forms → MeansFrom (function_source f args w.forms) args w (meaning_of f args w)
unfolding meaning_of
function-from function.ReadString args w store =
    read_string-from args w (before_meta w) (from_meta w) (sym (take-append-drop (position_or_len (λ c. c == w.meta) w.input.text) w.input.text))
function-from function.ReadCharacter args w store = read_character-from args w w.input.text w.input.fails refl
function-from function.ChangeMeta args w store = change_meta-from args w (argument args 1)
function-from function.SegmentString args w store = null-from args w (form_named (argument args 1) w.forms) _ (λ form. refl)
function-from function.PrintForm args w store = null-from args w (form_named (argument args 1) w.forms) _ (λ form. refl)
function-from function.CallForm args w store = body-from args w (form_named (argument args 1) w.forms) refl
function-from function.CallSegment args w store =
    part-from args w 0 2 next_segment (λ form e. segment-taken form) (form_named (argument args 1) w.forms) refl
function-from function.CallCharacter args w store =
    part-from args w 0 2 (characters (pos 1)) (λ form e. forward-taken form _) (form_named (argument args 1) w.forms) refl
function-from function.CallNumber args w store = number-from args w store (number (argument args 2)) _ refl
function-from function.InitialPart args w store = initial-from args w (argument args 2) _ refl
function-from function.CallRestore args w store = null-from args w (form_named (argument args 1) w.forms) _ (λ form. refl)
function-from function.Equal args w store = chosen-from args w (bytes_eq (argument args 1) (argument args 2))
function-from function.Greater args w store = chosen-from args w _
function-from (function.Arithmetic operation) args w store =
    result-from args w (result operation (number (argument args 1)) (number (argument args 2))) (prefix (argument args 1))
function-from function.Halt args w store = tt
function-from f args w store = refl

pub values_come_from : ValuesComeFrom
values_come_from None args w store = refl
values_come_from (Some f) args w store = function-from f args w store
