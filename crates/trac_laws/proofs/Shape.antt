-- What a function may do to the world: one case for each function, by which the laws go that speak of all of them.
use Rattle.trac_laws.proofs.Imports.{◌≡◌, ◌≢◌, ℕ, ◌≤◌, ◌∷◌, Bool, true, false, not, List, [], length, drop, Option, Some, None, ℤ, pos, refl, arith, bytes_eq, list_any, position_or_len, sym, ◌++◌, ◌∙◌, ◌==◌, append-nil, append_assoc, take-append-drop, Function, ReadString, ReadCharacter, ChangeMeta, Halt, DefineString, SegmentString, DeleteDefinition, DeleteAll, PrintForm, CallForm, CallSegment}
use Rattle.trac_laws.proofs.Imports.{CallCharacter, CallNumber, InitialPart, CallRestore, Arithmetic, Fate, Text, Form, Part, Input, World, Meaning, Gives, Ends, fill, after_pointer, form_named, changed, IsStore, number, prefix, argument, valued, printing, before_meta, from_meta, read_all, read_string}
use Rattle.trac_laws.proofs.Imports.{read_character, change_meta, show_form, on_form, take_part, result_or, meaning_of, next_segment, characters, initial_part}
use Rattle.trac_language.specs.declared.function.Function.TheVariants.{PrintString}
use Rattle.trac_language.specs.Number.{arith as arith_of}
use Rattle.trac_language.specs.Meaning.{segmented}
use Rattle.trac_laws.proofs.Stores.{Fits, fits_characters, fits_initial_part, fits_next_segment, store_filter, store_defined, found_within, store_changed_found}

abbrev pub reads : Function → Bool
reads ReadString = true
reads ReadCharacter = true
reads f = false

-- the world of these forms and this meta character, with an input
abbrev pub world_with : List Form → ℕ → Input → World
world_with forms meta i = record { forms = forms; meta = meta; input = i }

-- `after` is what is left of the input `before`
abbrev pub LeftOf : Input → Input → Type 0
LeftOf before after = (front : Text) × ((before.text ≡ front ++ after.text) × (after.fails ≡ before.fails))

-- a call that reads ends the run, or has a value and leaves some of the input
pub data Reading (forms : List Form) (meta : ℕ) (i : Input) (m : Meaning) : Type 0 where
  Stopped : (fate : Fate) → m ≡ Ends fate → Reading forms meta i m
  Given : (value : Text) (left : Input) → LeftOf i left → m ≡ valued value (world_with forms meta left) → Reading forms meta i m

-- whatever the input is, a call reads; or ends the run; or has a value, keeps the forms in order, and prints nothing
-- unless its function displays a text or a form
pub data Shape (f : Function) (forms : List Form) (meta : ℕ) (m : Input → Meaning) : Type 0 where
  Reads : reads f ≡ true → ((i : Input) → Reading forms meta i (m i)) → Shape f forms meta m
  Ended : (fate : Fate) → ((i : Input) → m i ≡ Ends fate) → Shape f forms meta m
  Does : (value : Text) (forced : Bool) (forms' : List Form) (meta' : ℕ) (printed : Text) → (IsStore forms → IsStore forms') → (f ≢ PrintString → f ≢ PrintForm → printed ≡ []) → ((i : Input) → m i ≡ Gives (record { value = value; forced = forced; world = world_with forms' meta' i; printed = printed })) → Shape f forms meta m

module _ (f : Function) (args : List Text) (forms : List Form) (meta : ℕ) where
  read_all-shape : (fails : Bool) (text : Text) (i : Input) → i.fails ≡ fails → Reading forms meta i (read_all fails text (world_with forms meta i))
  read_all-shape true text i e = Stopped _ refl
  read_all-shape false [] i e = Stopped _ refl
  read_all-shape false (c ∷ text) i e = Given _ _ (i.text, (sym (append-nil i.text), refl)) refl

  read_string-shape : (text from : Text) (i : Input) → i.text ≡ text ++ from → Reading forms meta i (read_string text from (world_with forms meta i))
  read_string-shape text [] i e = read_all-shape i.fails text i refl
  read_string-shape text (c ∷ rest) i e = Given _ _ (text ++ c ∷ [], (e ∙ sym (append_assoc text (c ∷ []) rest), refl)) refl

  read_character-shape : (text : Text) (fails : Bool) (i : Input) → i.text ≡ text → Reading forms meta i (read_character text fails (world_with forms meta i))
  read_character-shape (c ∷ rest) fails i e = Given _ _ (c ∷ [], (e, refl)) refl
  read_character-shape [] true i e = Stopped _ refl
  read_character-shape [] false i e = Stopped _ refl

  -- a call whose function prints nothing changes the forms or not
  quiet : (value : Text) (forced : Bool) (forms' : List Form) (meta' : ℕ) → (IsStore forms → IsStore forms') → Shape f forms meta (λ i. Gives (record { value = value; forced = forced; world = world_with forms' meta' i; printed = [] }))
  quiet value forced forms' meta' keeps = Does value forced forms' meta' [] keeps (λ string form. refl) (λ i. refl)

  change_meta-shape : (text : Text) → Shape f forms meta (λ i. change_meta text (world_with forms meta i))
  change_meta-shape [] = quiet [] false forms meta (λ h. h)
  change_meta-shape (c ∷ text) = quiet [] false forms c (λ h. h)

  result_or-shape : (o : Option ℤ) (before z : Text) → Shape f forms meta (λ i. result_or o before z (world_with forms meta i))
  result_or-shape None before z = quiet z true forms meta (λ h. h)
  result_or-shape (Some n) before z = quiet _ false forms meta (λ h. h)

  on_form-shape : (name : Text) (k : Form → Input → Meaning) → ((form : Form) → form_named name forms ≡ Some form → Shape f forms meta (k form)) → Shape f forms meta (λ i. on_form (form_named name forms) (λ form. k form i) (world_with forms meta i))
  on_form-shape name k each = go (form_named name forms) refl
    where
      go : (o : Option Form) → form_named name forms ≡ o → Shape f forms meta (λ i. on_form o (λ form. k form i) (world_with forms meta i))
      go None e = quiet [] false forms meta (λ h. h)
      go (Some form) e = each form e

  -- a call that changes the form that it names
  change-shape : (change : Form → Form) → ((form : Form) → (change form).name ≡ form.name) → ((form : Form) → form.pointer ≤ length form.body → (change form).pointer ≤ length (change form).body) → Shape f forms meta (λ i. on_form (form_named (argument args 1) forms) (λ form. valued [] (world_with (changed (argument args 1) change forms) meta i)) (world_with forms meta i))
  change-shape change keeps fits =
      let name = argument args 1 in
      on_form-shape name (λ form i. valued [] (world_with (changed name change forms) meta i))
      (λ form e. quiet [] false (changed name change forms) meta (λ h. store_changed_found name change forms form h e keeps (fits form (found_within name forms form h e))))

  -- a call that takes a part of the form that it names
  take-shape : (part : Form → Option Part) (z : Text) → ((form : Form) → form.pointer ≤ length form.body → Fits (length form.body) (part form)) → Shape f forms meta (λ i. on_form (form_named (argument args 1) forms) (λ form. take_part (argument args 1) (part form) z (world_with forms meta i)) (world_with forms meta i))
  take-shape part z fits =
      let name = argument args 1 in
      on_form-shape name (λ form i. take_part name (part form) z (world_with forms meta i)) (λ form e. go form e (part form) (fits form))
    where
      go : (form : Form) → form_named (argument args 1) forms ≡ Some form → (o : Option Part) → (form.pointer ≤ length form.body → Fits (length form.body) o) → Shape f forms meta (λ i. take_part (argument args 1) o z (world_with forms meta i))
      go form e None fits = quiet z true forms meta (λ h. h)
      go form e (Some part) fits =
          let name = argument args 1 in
          let change = λ (form : Form). record form { pointer = part.pointer } in
          quiet part.text false (changed name change forms) meta (λ h. store_changed_found name change forms form h e (λ form. refl) (fits (found_within name forms form h e)))

-- the shape of each function
pub shape : (f : Function) (args : List Text) (forms : List Form) (meta : ℕ) → Shape f forms meta (λ i. meaning_of f args (world_with forms meta i))
unfolding meaning_of
shape ReadString args forms meta =
    Reads refl (λ i. read_string-shape ReadString args forms meta (before_meta (world_with forms meta i)) (from_meta (world_with forms meta i)) i (sym (take-append-drop (position_or_len (λ c. c == meta) i.text) i.text)))
shape ReadCharacter args forms meta = Reads refl (λ i. read_character-shape ReadCharacter args forms meta i.text i.fails i refl)
shape ChangeMeta args forms meta = change_meta-shape ChangeMeta args forms meta (argument args 1)
shape PrintString args forms meta = Does _ _ _ _ _ (λ h. h) (λ string form. absurd (string refl)) (λ i. refl)
shape Halt args forms meta = Ended _ (λ i. refl)
shape DefineString args forms meta = quiet DefineString args forms meta [] false _ meta (store_defined (argument args 1) (argument args 2) forms)
shape SegmentString args forms meta = change-shape SegmentString args forms meta (segmented args) (λ form. refl) (λ form le. omega arith)
shape DeleteDefinition args forms meta =
    quiet DeleteDefinition args forms meta [] false _ meta (store_filter (λ form. not (list_any (bytes_eq form.name) (drop 1 args))) forms)
shape DeleteAll args forms meta = quiet DeleteAll args forms meta [] false [] meta (λ h. tt)
shape PrintForm args forms meta =
    on_form-shape PrintForm args forms meta (argument args 1) (λ form i. printing (show_form form) (world_with forms meta i)) (λ form e. Does _ _ _ _ _ (λ h. h) (λ string form. absurd (form refl)) (λ i. refl))
shape CallForm args forms meta =
    on_form-shape CallForm args forms meta (argument args 1) (λ form i. valued (fill (drop 2 args) (after_pointer form)) (world_with forms meta i)) (λ form e. Does _ _ _ _ _ (λ h. h) (λ string form. refl) (λ i. refl))
shape CallSegment args forms meta = take-shape CallSegment args forms meta next_segment (argument args 2) fits_next_segment
shape CallCharacter args forms meta = take-shape CallCharacter args forms meta (characters (pos 1)) (argument args 2) (fits_characters (pos 1))
shape CallNumber args forms meta = take-shape CallNumber args forms meta (characters (number (argument args 2))) (argument args 3) (fits_characters (number (argument args 2)))
shape InitialPart args forms meta = take-shape InitialPart args forms meta (initial_part (argument args 2)) (argument args 3) (fits_initial_part (argument args 2))
shape CallRestore args forms meta = change-shape CallRestore args forms meta (λ form. record form { pointer = 0 }) (λ form. refl) (λ form le. omega arith)
shape (Arithmetic operation) args forms meta =
    result_or-shape (Arithmetic operation) args forms meta (arith_of operation (number (argument args 1)) (number (argument args 2))) (prefix (argument args 1)) (argument args 3)
shape f args forms meta = Does _ _ _ _ _ (λ h. h) (λ string form. refl) (λ i. refl)
