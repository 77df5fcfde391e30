-- What keeps forms in order: no two have one name, and each pointer is a place of its body.
use Rattle.trac_laws.proofs.Imports.{◌≡◌, ◌≢◌, ℕ, zero, suc, ◌+◌, ◌-◌, ◌≤◌, min, Bool, true, false, cond, List, [], ◌∷◌, ◌++◌, length, Option, Some, None, ℤ, pos, negsuc, refl, sym, ap, ◌∙◌, subst, ⊎_elim, arith, nat_lt, ◌==◌, if◌then◌else◌, filter, option_map, take_while}
use Rattle.trac_laws.proofs.Imports.{prefix_len, bytes_decides, cond_both, both_ways, cases_lt, lt-ltb, le-ltb, and_parts, length-take, length-drop, Item, Byte, Gap}
use Rattle.trac_laws.proofs.Imports.{Text, Form, is_character, text_of, items_of, before_pointer, after_pointer, begins, place_of, is_named, form_named}
use Rattle.trac_laws.proofs.Imports.{without, changed, defined, NoneNamed, IsStore}
use Rattle.trac_laws.proofs.Imports.{Part, first_characters}
use Rattle.trac_laws.proofs.Imports.{last_characters, segment_from, next_segment, unless_null, forward, backward, characters, up_to, initial_part}

-- ---- the parts that calls take lie within the body

-- the pointer of a part is a place of a body of n items
abbrev pub Fits : ℕ → Option Part → Type 0
Fits n None = Unit {0}
Fits n (Some part) = part.pointer ≤ n

fits_unless_null : (n : ℕ) (part : Part) → part.pointer ≤ n → Fits n (unless_null part)
fits_unless_null n part le = go (nat_lt 0 (length part.text))
  where
    go : (b : Bool) → Fits n (if b then Some part else None)
    go true = le
    go false = tt

length-first_characters-le : (n : ℕ) (items : List Item) → length (first_characters n items) ≤ length items
length-first_characters-le n [] = omega arith
length-first_characters-le zero (item ∷ items) = omega arith
length-first_characters-le (suc n) (Byte c ∷ items) = omega (arith, length-first_characters-le n items)
length-first_characters-le (suc n) (Gap k ∷ items) = omega (arith, length-first_characters-le (suc n) items)

begins_fits : (items : List Item) (text : Text) → begins items text ≡ true → length text ≤ length items
begins_fits items [] e = omega arith
begins_fits [] (c ∷ text) e = cc
begins_fits (Byte b ∷ items) (c ∷ text) e = let rest = begins_fits items text (and_parts (b == c) (begins items text) e).1 in omega arith
begins_fits (Gap k ∷ items) (c ∷ text) e = cc

-- an occurrence ends within the items
abbrev StandsIn : ℕ → ℕ → Option ℕ → Type 0
StandsIn text items None = Unit {0}
StandsIn text items (Some i) = i + text ≤ items

ends_later : (text items : ℕ) (o : Option ℕ) → StandsIn text items o → StandsIn text (suc items) (option_map suc o)
ends_later text items None h = tt
ends_later text items (Some i) h = omega arith

place_fits : (text : Text) (items : List Item) → StandsIn (length text) (length items) (place_of text items)
place_fits text [] = tt
place_fits text (item ∷ items) =
    let rest = ends_later (length text) (length items) (place_of text items) (place_fits text items) in
    cond_both (begins (item ∷ items) text) (Some 0) (option_map suc (place_of text items)) (StandsIn (length text) (suc (length items)))
    (λ e. let h = begins_fits (item ∷ items) text e in omega arith)
    (λ e. rest)

fits_up_to : (o : Option ℕ) (text : Text) (form : Form) → form.pointer ≤ length form.body → StandsIn (length text) (length (after_pointer form)) o → Fits (length form.body) (up_to o text form)
fits_up_to None text form le h = tt
fits_up_to (Some i) text form le h = omega (arith, length-drop form.pointer form.body)

pub fits_initial_part : (text : Text) (form : Form) → form.pointer ≤ length form.body → Fits (length form.body) (initial_part text form)
fits_initial_part [] form le = le
fits_initial_part (c ∷ text) form le = fits_up_to (place_of (c ∷ text) (after_pointer form)) (c ∷ text) form le (place_fits (c ∷ text) (after_pointer form))

fits_forward : (form : Form) (u : List Item) → form.pointer ≤ length form.body → length u ≤ length (after_pointer form) → Fits (length form.body) (forward form u)
fits_forward form u le h = fits_unless_null (length form.body) (record { text = text_of u; pointer = form.pointer + length u }) (omega (arith, length-drop form.pointer form.body))

fits_backward : (form : Form) (u : List Item) → form.pointer ≤ length form.body → Fits (length form.body) (backward form u)
fits_backward form u le = fits_unless_null (length form.body) (record { text = text_of u; pointer = form.pointer - length u }) (omega arith)

pub fits_characters : (d : ℤ) (form : Form) → form.pointer ≤ length form.body → Fits (length form.body) (characters d form)
fits_characters (pos zero) form le = le
fits_characters (pos (suc n)) form le = fits_forward form (first_characters (min (suc n) (length (text_of (after_pointer form)))) (after_pointer form)) le (length-first_characters-le (min (suc n) (length (text_of (after_pointer form)))) (after_pointer form))
fits_characters (negsuc n) form le = fits_backward form (last_characters (min (suc n) (length (text_of (before_pointer form)))) (before_pointer form)) le

fits_segment_from : (form : Form) (items front : List Item) → items ≡ after_pointer form → length front ≤ length items → form.pointer ≤ length form.body → Fits (length form.body) (segment_from form.pointer items front)
fits_segment_from form [] front e h le = tt
fits_segment_from form (item ∷ items) front e h le =
    ⊎_elim
    (λ lt. subst (λ b. (if b then form.pointer + length front + 1 else form.pointer + length front) ≤ length form.body) (sym (lt-ltb (length front) (length (item ∷ items)) lt)) (omega (arith, n)))
    (λ ge. subst (λ b. (if b then form.pointer + length front + 1 else form.pointer + length front) ≤ length form.body) (sym (le-ltb (length front) (length (item ∷ items)) ge)) (omega (arith, n)))
    (cases_lt (length front) (length (item ∷ items)))
  where
    n : length (item ∷ items) ≡ length form.body - form.pointer
    n = ap length e ∙ length-drop form.pointer form.body

pub fits_next_segment : (form : Form) → form.pointer ≤ length form.body → Fits (length form.body) (next_segment form)
fits_next_segment form le = fits_segment_from form (after_pointer form) (take_while is_character (after_pointer form)) refl (omega (arith, length-take (prefix_len is_character (after_pointer form)) (after_pointer form))) le

-- ---- changes of the store

none_filter : (name : Text) (p : Form → Bool) (forms : List Form) → NoneNamed name forms → NoneNamed name (filter p forms)
none_filter name p [] h = tt
none_filter name p (form ∷ forms) h =
    let rest = none_filter name p forms h.1 in
    cond_both (p form) (form ∷ filter p forms) (filter p forms) (NoneNamed name) (λ e. (h.0, rest)) (λ e. rest)

pub store_filter : (p : Form → Bool) (forms : List Form) → IsStore forms → IsStore (filter p forms)
store_filter p [] h = tt
store_filter p (form ∷ forms) h =
    let rest = store_filter p forms h.2 in
    cond_both (p form) (form ∷ filter p forms) (filter p forms) IsStore (λ e. (h.0, none_filter form.name p forms h.1, rest)) (λ e. rest)

-- what a form of another name keeps
none_without : (other name : Text) (forms : List Form) → NoneNamed other forms → NoneNamed other (without name forms)
none_without other name [] h = tt
none_without other name (form ∷ forms) h =
    let rest = none_without other name forms h.1 in
    cond_both (is_named name form) forms (form ∷ without name forms) (NoneNamed other) (λ e. h.1) (λ e. (h.0, rest))

store_without : (name : Text) (forms : List Form) → IsStore forms → IsStore (without name forms)
store_without name [] h = tt
store_without name (form ∷ forms) h =
    let rest = store_without name forms h.2 in
    cond_both (is_named name form) forms (form ∷ without name forms) IsStore (λ e. h.2) (λ e. (h.0, none_without form.name name forms h.1, rest))

-- two texts that compare equal are one
named_is : (name : Text) (form : Form) → is_named name form ≡ true → form.name ≡ name
named_is name form e = (bytes_decides form.name name).0 e

named_not : (name : Text) (form : Form) → is_named name form ≡ false → form.name ≢ name
named_not name form e same = both_ways (is_named name form) e ((bytes_decides form.name name).1 same)

-- the form of this name is gone
gone : (name : Text) (forms : List Form) → IsStore forms → NoneNamed name (without name forms)
gone name [] h = tt
gone name (form ∷ forms) h =
    let rest = gone name forms h.2 in
    cond_both (is_named name form) forms (form ∷ without name forms) (NoneNamed name)
    (λ e. subst (λ n. NoneNamed n forms) (named_is name form e) h.1)
    (λ e. (named_not name form e, rest))

none_push : (name : Text) (forms : List Form) (last : Form) → NoneNamed name forms → last.name ≢ name → NoneNamed name (forms ++ last ∷ [])
none_push name [] last h d = (d, tt)
none_push name (form ∷ forms) last h d = (h.0, none_push name forms last h.1 d)

store_push : (forms : List Form) (last : Form) → IsStore forms → NoneNamed last.name forms → last.pointer ≤ length last.body → IsStore (forms ++ last ∷ [])
store_push [] last h n le = (le, tt, tt)
store_push (form ∷ forms) last h n le = (h.0, none_push form.name forms last h.1 (λ e. n.0 (sym e)), store_push forms last h.2 n.1 le)

pub store_defined : (name text : Text) (forms : List Form) → IsStore forms → IsStore (defined name text forms)
store_defined name text forms h = store_push (without name forms) (record { name = name; body = items_of text; pointer = 0 }) (store_without name forms h) (gone name forms h) (omega arith)

none_changed : (other name : Text) (change : Form → Form) (forms : List Form) → ((form : Form) → (change form).name ≡ form.name) → NoneNamed other forms → NoneNamed other (changed name change forms)
none_changed other name change [] keeps h = tt
none_changed other name change (form ∷ forms) keeps h =
    let rest = none_changed other name change forms keeps h.1 in
    cond_both (is_named name form) (change form ∷ forms) (form ∷ changed name change forms) (NoneNamed other)
    (λ e. ((λ same. h.0 (sym (keeps form) ∙ same)), h.1))
    (λ e. (h.0, rest))

-- a fact about the form that was found, if one was
abbrev OfFound : Option Form → (Form → Type 0) → Type 0
OfFound None P = Unit {0}
OfFound (Some form) P = P form

store_changed : (name : Text) (change : Form → Form) (forms : List Form) → ((form : Form) → (change form).name ≡ form.name) → OfFound (form_named name forms) (λ form. (change form).pointer ≤ length (change form).body) → IsStore forms → IsStore (changed name change forms)
store_changed name change [] keeps fits h = tt
store_changed name change (form ∷ forms) keeps fits h =
    let Within : Form → Type 0 = λ form. (change form).pointer ≤ length (change form).body in
    let rest = λ (found : OfFound (form_named name forms) Within). store_changed name change forms keeps found h.2 in
    let here = λ (b : Bool) (e : is_named name form ≡ b). subst (λ b. OfFound (cond b (Some form) (form_named name forms)) Within) e fits in
    cond_both (is_named name form) (change form ∷ forms) (form ∷ changed name change forms) IsStore
    (λ e. (here true e, subst (λ n. NoneNamed n forms) (sym (keeps form)) h.1, h.2))
    (λ e. (h.0, none_changed form.name name change forms keeps h.1, rest (here false e)))

found_fits : (name : Text) (forms : List Form) → IsStore forms → OfFound (form_named name forms) (λ form. form.pointer ≤ length form.body)
found_fits name [] h = tt
found_fits name (form ∷ forms) h =
    let rest = found_fits name forms h.2 in
    cond_both (is_named name form) (Some form) (form_named name forms) (λ o. OfFound o (λ form. form.pointer ≤ length form.body)) (λ e. h.0) (λ e. rest)

-- the form of this name has a pointer within its body
pub found_within : (name : Text) (forms : List Form) (form : Form) → IsStore forms → form_named name forms ≡ Some form → form.pointer ≤ length form.body
found_within name forms form h e = subst (λ o. OfFound o (λ form. form.pointer ≤ length form.body)) e (found_fits name forms h)

-- the form of a name may be changed to another one of that name whose pointer is within its body
pub store_changed_found : (name : Text) (change : Form → Form) (forms : List Form) (form : Form) → IsStore forms → form_named name forms ≡ Some form → ((form : Form) → (change form).name ≡ form.name) → (change form).pointer ≤ length (change form).body → IsStore (changed name change forms)
store_changed_found name change forms form h e keeps fits = store_changed name change forms keeps (subst (λ o. OfFound o (λ form. (change form).pointer ≤ length (change form).body)) (sym e) fits) h
