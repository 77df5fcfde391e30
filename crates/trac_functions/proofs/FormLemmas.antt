-- Lists of forms, and what the functions that change them make of a call.
use Rattle.trac_functions.proofs.Imports.{◌≡◌, ℕ, zero, suc, ◌+◌, ◌<◌, ◌≤◌, Bool, true, false, List, [], ◌∷◌, ◌++◌, length, drop, set, slice_range, subst, ◌-◌, refl, sym, ap, ◌∙◌, arith, Some, ⊎_elim, if◌then◌else◌, flat_map, filter, bytes_eq, not, ◌||◌, list_any, cases_lt, append-nil}
use Rattle.trac_functions.proofs.Imports.{drop_more, drop_all, get_or-set_same, set-set, set-get_or, bytes_eq-Decides, length-between, All-nil, All-cons, Function, Text, Form, segment_by, IsStore, NoneNamed, is_named, without, World, meaning_of, built, value_length, argument, Cell, Byte, Call, Comma}
use Rattle.trac_functions.proofs.Imports.{Gap, Head, Contents, IsSound, form_at, name_at, body_at, pointer_at, IsTextPart, AreTextParts, part_texts, before_comma, parts_between, texts_between, AreParted, without-none, parts-first, parts-none, Arguments, texts_of, in_first}
use Rattle.trac_functions.proofs.Imports.{with_first, Means, IsValue, AreArguments, texts, Performs, AtEnd, world, silent, form_named, form_named-none, None}
use Rattle.trac_functions.proofs.ArgumentLemmas.{none-left, texts_from-some, taken-part, taken-text, taken-rest, taken-left}
use Rattle.trac_functions.proofs.FlatLemmas.{texts_of-some}
use Rattle.trac_functions.proofs.MadeValues.{valued-of}

-- a null value, of which nothing stands at the end of neutral
pub null-value : (f : Function) (args : List Text) (old new : Contents) → IsSound old → Means f args old.forms [] false new.forms → ((w : World) → built (Some f) args w ≡ value_length (meaning_of f args w)) → new ≡ record old { forms = new.forms } → IsValue f args old new false []
null-value f args old new sound means built_is same =
    record {
      valued = valued-of f args old.forms new.forms [] false means built_is;
      fits = let fits = sound.fits in omega arith;
      stands = same ∙ ap (λ cells. record old { forms = new.forms; neutral = cells }) (sym (append-nil old.neutral));
    }

-- a call that does nothing where no form has the name that its first argument gives
module _ (f : Function) (means : (ts : List Text) (title : Text) (w : World) → form_named (argument ts 0) w.forms ≡ None → meaning_of f (title ∷ ts) w ≡ silent w) (built_is : (ts : List Text) (title : Text) (w : World) → built (Some f) (title ∷ ts) w ≡ value_length (meaning_of f (title ∷ ts) w)) where
  pub idle : (old new : Contents) (a : Arguments) (name : Text) → AreArguments old a → new ≡ old → NoneNamed name old.forms → name ≡ argument (texts old a) 0 → Performs f old a AtEnd new
  idle old new a name are same none name_is = λ title.
      let gone = form_named-none (argument (texts old a) 0) old.forms (subst (λ n. NoneNamed n old.forms) name_is none) in
      ([], rw same (null-value f (title ∷ texts old a) old old are.sound (λ meta input. means (texts old a) title (world old.forms meta input) gone) (built_is (texts old a) title) refl))

-- the names of the forms, a text before each
abbrev pub names : Text → List Form → Text
names before forms = flat_map (λ form. before ++ form.name) forms

-- the names of the forms from one on begin with its name
pub names-more : (before : Text) (forms : List Form) (k : ℕ) → k < length forms → names before (drop k forms) ≡ (before ++ name_at forms k) ++ names before (drop (k + 1) forms)
names-more before forms k within = ap (names before) (drop_more forms k (record { name = []; body = []; pointer = 0 }) within)

pub names-none : (before : Text) (forms : List Form) (k : ℕ) → length forms ≤ k → names before (drop k forms) ≡ []
names-none before forms k past = ap (names before) (drop_all k forms past)

-- ---- arguments that are left

pub arguments-kept : (w v : Contents) (a : Arguments) → AreArguments w a → IsSound v → v.neutral ≡ w.neutral → AreArguments v a
arguments-kept w v a are sound same =
    record { sound = sound; order = are.order; within = rw same are.within; no_call = rw same are.no_call }

first_of_some : (texts : List Text) → 0 < length texts → texts ≡ argument texts 0 ∷ drop 1 texts
first_of_some [] some = absurd (omega arith)
first_of_some (text ∷ texts) some = refl

some-left : (w : Contents) (a : Arguments) → a.from ≤ a.end → texts w a ≡ argument (texts w a) 0 ∷ drop 1 (texts w a)
some-left w a le = first_of_some (texts w a) (rw (texts_from-some w.neutral a.from a.end le) (texts_of-some (slice_range w.neutral a.from a.end)))

-- the arguments that are left are the next argument and the arguments after it
pub next-left : (w : Contents) (a b : Arguments) → a.from ≤ a.end → texts w b ≡ drop 1 (texts w a) → texts w a ≡ argument (texts w a) 0 ∷ texts w b
next-left w a b le rest = some-left w a le ∙ ap (λ ts. argument (texts w a) 0 ∷ ts) (sym rest)

-- the parts between comma marks are the arguments that are left
abbrev AreLeft : Contents → Arguments → Type 0
AreLeft w a = AreTextParts w.neutral (parts_between w.neutral a.from a.end) × (texts_between w.neutral a.from a.end ≡ texts w a)

abbrev Part : Contents → ℕ × ℕ → Type 0
Part w part = IsTextPart w.neutral part.0 part.1

parts-past : (w : Contents) (a : Arguments) → a.end < a.from → AreLeft w a
parts-past w a past =
    let none = parts-none w.neutral a.from a.end past in
    (rw none (All-nil (Part w)), ap (part_texts w.neutral) none ∙ sym (none-left w a past))

parts-left : (w : Contents) (fuel : ℕ) (a : Arguments) → AreArguments w a → a.end + 1 - a.from ≤ fuel → AreLeft w a
parts-left w zero a are few = parts-past w a (omega (arith, few))
parts-left w (suc fuel) a are few = ⊎_elim (parts-past w a) (λ le.
    let n = before_comma (slice_range w.neutral a.from a.end) in
    let b : Arguments = record { from = a.from + n + 1; end = a.end; scanned = a.scanned } in
    let first = parts-first w.neutral a.from a.end n le are.within refl in
    let rest = taken-rest w a are le in
    let later = parts-left w fuel b (taken-left w a b are le refl refl) (omega (arith, few)) in (
      rw first (All-cons (Part w) (a.from, a.from + n) (parts_between w.neutral b.from b.end) (taken-part w a are le) later.0),
      ap (part_texts w.neutral) first
          ∙ ap (λ text. text ∷ texts_between w.neutral b.from b.end) (taken-text w a are le)
          ∙ ap (λ ts. argument (texts w a) 0 ∷ ts) later.1
          ∙ sym (next-left w a b le rest),
    )) (cases_lt a.end a.from)

pub parted : (w : Contents) (a : Arguments) → AreArguments w a → AreParted w.neutral a.from a.end
parted w a are =
    let sound = are.sound in
    record { order = are.order; within = are.within; bounded = omega (arith, are.within, sound.fits, sound.bounded); texts = (parts-left w (a.end + 1 - a.from) a are (omega arith)).0 }

pub parted-texts : (w : Contents) (a : Arguments) → AreArguments w a → texts_between w.neutral a.from a.end ≡ texts w a
parted-texts w a are = (parts-left w (a.end + 1 - a.from) a are (omega arith)).1

pub fewer-left : (w : Contents) (a b : Arguments) → a.from ≤ a.end → texts w b ≡ drop 1 (texts w a) → length (texts w b) < length (texts w a)
fewer-left w a b le rest = omega (arith, ap length (next-left w a b le rest))

-- cells have at most one argument more than they are
texts_of-bound : (cells : List Cell) → length (texts_of cells) ≤ suc (length cells)
texts_of-bound [] = omega arith
texts_of-bound (cell ∷ cells) = go cell (texts_of cells) (texts_of-bound cells)
  where
    in_first-bound : (c : ℕ) (texts : List Text) → length (in_first c texts) ≤ suc (length texts)
    in_first-bound c [] = omega arith
    in_first-bound c (text ∷ texts) = omega arith

    go : (cell : Cell) (texts : List Text) → length texts ≤ suc (length cells) → length (with_first cell texts) ≤ suc (suc (length cells))
    go (Byte c) texts h = omega (arith, in_first-bound c texts)
    go (Call mode k) texts h = omega (arith, in_first-bound 0 texts)
    go Comma texts h = omega arith
    go (Gap k) texts h = omega (arith, in_first-bound 0 texts)
    go (Head k) texts h = omega (arith, in_first-bound 0 texts)

pub texts-bounded : (w : Contents) (a : Arguments) → AreArguments w a → length (texts w a) ≤ 16777217
texts-bounded w a are =
    let fits = are.sound.fits in
    let bounded = are.sound.bounded in
    let within = are.within in
    let cells = slice_range w.neutral a.from a.end in
    ⊎_elim
    (λ past. omega (arith, ap length (none-left w a past)))
    (λ some. omega (arith, ap length (texts_from-some w.neutral a.from a.end some), texts_of-bound cells, length-between w.neutral a.from a.end are.within))
    (cases_lt a.end a.from)

-- ---- contents of which only the forms change

pub only-forms : (old now new : Contents) (forms : List Form) → now ≡ record old { forms = now.forms } → new ≡ record now { forms = forms } → new ≡ record old { forms = new.forms }
only-forms old now new forms same is =
    is ∙ ap (λ (w : Contents). record w { forms = forms }) same ∙ ap (λ fs. record old { forms = fs }) (sym (ap (λ (w : Contents). w.forms) is))

-- ---- forms without those of some names

abbrev pub unnamed : List Text → List Form → List Form
unnamed names forms = filter (λ form. not (list_any (bytes_eq form.name) names)) forms

pub unnamed-none : (forms : List Form) → unnamed [] forms ≡ forms
unnamed-none [] = refl
unnamed-none (form ∷ forms) = ap (λ fs. form ∷ fs) (unnamed-none forms)

-- of forms without those of several names, the form of the first name may be removed first
pub unnamed-first : (name : Text) (rest : List Text) (forms : List Form) → IsStore forms → unnamed (name ∷ rest) forms ≡ unnamed rest (without name forms)
unnamed-first name rest [] h = refl
unnamed-first name rest (form ∷ forms) h =
    go (is_named name form) (unnamed-first name rest forms h.2)
    (λ e. without-none name forms (subst (λ n. NoneNamed n forms) ((bytes_eq-Decides form.name name).0 e) h.1))
  where
    go : (b : Bool) → unnamed (name ∷ rest) forms ≡ unnamed rest (without name forms) → (b ≡ true → without name forms ≡ forms) → (if not (b || list_any (bytes_eq form.name) rest) then form ∷ unnamed (name ∷ rest) forms else unnamed (name ∷ rest) forms) ≡ unnamed rest (if b then forms else form ∷ without name forms)
    go true more alone = more ∙ ap (unnamed rest) (alone refl)
    go false more alone = ap (λ fs. if not (list_any (bytes_eq form.name) rest) then form ∷ fs else fs) more

-- ---- gaps in a form

-- the forms, of which form k has gaps for the texts, numbered from `ordinal` on, and its pointer at the start
abbrev pub segmented : List Text → ℕ → List Form → ℕ → List Form
segmented texts ordinal forms k = set forms k (record (form_at forms k) { body = segment_by texts ordinal (body_at forms k); pointer = 0 })

-- form k, once `form` was put in its place, has the gaps that `form` has for the texts
pub segmented-set : (texts : List Text) (ordinal : ℕ) (forms : List Form) (k : ℕ) (form : Form) → k < length forms → segmented texts ordinal (set forms k form) k ≡ set forms k (record form { body = segment_by texts ordinal form.body; pointer = 0 })
segmented-set texts ordinal forms k form within =
    let put : form_at (set forms k form) k ≡ form = get_or-set_same forms k form (record { name = []; body = []; pointer = 0 }) within in
    ap (λ (f : Form). set (set forms k form) k (record f { body = segment_by texts ordinal f.body; pointer = 0 })) put
    ∙ set-set forms k form (record form { body = segment_by texts ordinal form.body; pointer = 0 })

-- a form with its pointer at the start has the gaps for no texts
pub segmented-none : (ordinal : ℕ) (forms : List Form) (k : ℕ) → pointer_at forms k ≡ 0 → segmented [] ordinal forms k ≡ forms
segmented-none ordinal forms k start =
    ap (λ p. set forms k (record (form_at forms k) { pointer = p })) (sym start) ∙ set-get_or forms k (record { name = []; body = []; pointer = 0 })
