-- What a call does to the world: one case for each kind of deed, with what the table says of functions that do it. Such
-- cases stand in trac_laws/proofs/Shape.antt too, which knows no table.
use Rattle.trac_laws.proofs.TableImports.{◌≡◌, ◌≢◌, ℕ, Bool, true, false, not, List, [], ◌∷◌, ◌++◌, drop, Option, Some, None, ℤ, pos, refl, sym, ◌∙◌, subst, bytes_decides, bytes_eq, filter, list_any, if◌then◌else◌}
use Rattle.trac_laws.proofs.TableImports.{Form, Ends, Meaning, World, before_meta, from_meta, change_meta, forced, on_form, printing, read_all, read_character, read_string, result_or, segmented, silent, take_part, valued, with_form, with_input, meaning_of, number, prefix, arith_of, Part, characters, initial_part, next_segment}
use Rattle.trac_laws.proofs.TableImports.{argument, changed, form_named, without, traits, Text, Fate, Halted, InputEnded, InputFailed, Function, concerns}
use Rattle.trac_language.specs.declared.function.Function.TheVariants as function

-- a form of another name is as it was
abbrev pub OthersStay : Function → List Text → World → List Form → Type 0
OthersStay f args w forms = (name : Text) → concerns (traits f).forms args name ≡ false → form_named name forms ≡ form_named name w.forms

pub data Deed (f : Function) (args : List Text) (w : World) (m : Meaning) : Type 0 where
  Reads : (value left : Text) → (traits f).reads ≡ true → m ≡ valued value (with_input left w) → Deed f args w m
  Stops : (fate : Fate) → fate ≢ Halted → m ≡ Ends fate → Deed f args w m
  Halts : (traits f).ends ≡ true → m ≡ Ends Halted → Deed f args w m
  TurnsMeta : (c : ℕ) → (traits f).changes_meta ≡ true → m ≡ silent (record w { meta = c }) → Deed f args w m
  Prints : (text : Text) → (traits f).prints ≡ true → m ≡ printing text w → Deed f args w m
  Values : (value : Text) → m ≡ valued value w → Deed f args w m
  Defaults : (place : ℕ) → (traits f).default ≡ Some place → m ≡ forced (argument args place) w → Deed f args w m
  Changes : (value : Text) (forms : List Form) → (traits f).changes_forms ≡ true → OthersStay f args w forms → m ≡ valued value (record w { forms = forms }) → Deed f args w m

-- ---- forms of other names

changed-others : (key name : Text) (change : Form → Form) (forms : List Form) → ((form : Form) → (change form).name ≡ form.name) → bytes_eq key name ≡ false → form_named name (changed key change forms) ≡ form_named name forms
changed-others key name change [] keeps ne = refl
changed-others key name change (form ∷ forms) keeps ne = go (bytes_eq form.name key) refl (changed-others key name change forms keeps ne)
  where
    go : (b : Bool) → bytes_eq form.name key ≡ b → form_named name (changed key change forms) ≡ form_named name forms → form_named name (if b then change form ∷ forms else form ∷ changed key change forms) ≡ form_named name (form ∷ forms)
    go true e rest =
        let same = (bytes_decides form.name key).0 e in
        let other = subst (λ t. bytes_eq t name ≡ false) (sym same) ne in
        rw (keeps form, other) refl
    go false e rest = rw rest refl

without-others : (key name : Text) (forms : List Form) → bytes_eq key name ≡ false → form_named name (without key forms) ≡ form_named name forms
without-others key name [] ne = refl
without-others key name (form ∷ forms) ne = go (bytes_eq form.name key) refl (without-others key name forms ne)
  where
    go : (b : Bool) → bytes_eq form.name key ≡ b → form_named name (without key forms) ≡ form_named name forms → form_named name (if b then forms else form ∷ without key forms) ≡ form_named name (form ∷ forms)
    go true e rest =
        let same = (bytes_decides form.name key).0 e in
        let other = subst (λ t. bytes_eq t name ≡ false) (sym same) ne in
        rw other refl
    go false e rest = rw rest refl

named-append : (name : Text) (front : List Form) (last : Form) → bytes_eq last.name name ≡ false → form_named name (front ++ last ∷ []) ≡ form_named name front
named-append name [] last ne = rw ne refl
named-append name (form ∷ front) last ne = rw (named-append name front last ne) refl

-- a form that one of the names names has another name than one that none of them is
named-not : (names : List Text) (name key : Text) → list_any (bytes_eq name) names ≡ false → list_any (bytes_eq key) names ≡ true → bytes_eq key name ≡ false
named-not names name key ne any = go (bytes_eq key name) refl
  where
    go : (b : Bool) → bytes_eq key name ≡ b → b ≡ false
    go true same =
        let it = subst (λ t. list_any (bytes_eq t) names ≡ true) ((bytes_decides key name).0 same) any in
        absurd cc
    go false same = refl

-- the forms that no name of some names
abbrev left_of : List Text → List Form → List Form
left_of names forms = filter (λ form. not (list_any (bytes_eq form.name) names)) forms

-- of forms that some names choose, those of another name are left
filter-others : (names : List Text) (name : Text) (forms : List Form) → list_any (bytes_eq name) names ≡ false → form_named name (left_of names forms) ≡ form_named name forms
filter-others names name [] ne = refl
filter-others names name (form ∷ forms) ne = go (list_any (bytes_eq form.name) names) refl (filter-others names name forms ne)
  where
    go : (b : Bool) → list_any (bytes_eq form.name) names ≡ b → form_named name (left_of names forms) ≡ form_named name forms → form_named name (if not b then form ∷ left_of names forms else left_of names forms) ≡ form_named name (form ∷ forms)
    go true e rest = rw (named-not names name form.name ne e) rest
    go false e rest = rw rest refl

-- a failed source and an ended input are no halt
fails-not : InputFailed ≢ Halted
fails-not e = absurd cc

ends-not : InputEnded ≢ Halted
ends-not e = absurd cc

-- ---- the deed of each function

module _ (f : Function) (args : List Text) (w : World) where
  read_all-deed : (traits f).reads ≡ true → (fails : Bool) (text : Text) → Deed f args w (read_all fails text w)
  read_all-deed r true text = Stops InputFailed fails-not refl
  read_all-deed r false [] = Stops InputEnded ends-not refl
  read_all-deed r false (c ∷ text) = Reads (c ∷ text) [] r refl

  read_string-deed : (traits f).reads ≡ true → (text from : Text) → Deed f args w (read_string text from w)
  read_string-deed r text [] = read_all-deed r w.input.fails text
  read_string-deed r text (c ∷ rest) = Reads text rest r refl

  read_character-deed : (traits f).reads ≡ true → (text : Text) (fails : Bool) → Deed f args w (read_character text fails w)
  read_character-deed r (c ∷ rest) fails = Reads (c ∷ []) rest r refl
  read_character-deed r [] true = Stops InputFailed fails-not refl
  read_character-deed r [] false = Stops InputEnded ends-not refl

  change_meta-deed : (traits f).changes_meta ≡ true → (text : Text) → Deed f args w (change_meta text w)
  change_meta-deed r [] = Values [] refl
  change_meta-deed r (c ∷ text) = TurnsMeta c r refl

  result_or-deed : (place : ℕ) → (traits f).default ≡ Some place → (o : Option ℤ) (before : Text) → Deed f args w (result_or o before (argument args place) w)
  result_or-deed place d None before = Defaults place d refl
  result_or-deed place d (Some n) before = Values _ refl

  on_form-deed : (o : Option Form) (k : Form → Meaning) → ((form : Form) → Deed f args w (k form)) → Deed f args w (on_form o k w)
  on_form-deed None k each = Values [] refl
  on_form-deed (Some form) k each = each form

  change-deed : (traits f).changes_forms ≡ true → ((name : Text) → concerns (traits f).forms args name ≡ bytes_eq (argument args 1) name) → (value : Text) (change : Form → Form) → ((form : Form) → (change form).name ≡ form.name) → Deed f args w (valued value (with_form (argument args 1) change w))
  change-deed c only value change keeps =
      Changes value _ c (λ name ne. changed-others (argument args 1) name change w.forms keeps (sym (only name) ∙ ne)) refl

  take_part-deed : (place : ℕ) → (traits f).default ≡ Some place → (traits f).changes_forms ≡ true → ((name : Text) → concerns (traits f).forms args name ≡ bytes_eq (argument args 1) name) → (o : Option Part) → Deed f args w (take_part (argument args 1) o (argument args place) w)
  take_part-deed place d c only None = Defaults place d refl
  take_part-deed place d c only (Some part) = change-deed c only part.text (λ form. record form { pointer = part.pointer }) (λ form. refl)

-- what each function does
pub deed : (f : Function) (args : List Text) (w : World) → Deed f args w (meaning_of f args w)
unfolding meaning_of
deed function.ReadString args w = read_string-deed function.ReadString args w refl (before_meta w) (from_meta w)
deed function.ReadCharacter args w = read_character-deed function.ReadCharacter args w refl w.input.text w.input.fails
deed function.ChangeMeta args w = change_meta-deed function.ChangeMeta args w refl (argument args 1)
deed function.PrintString args w = Prints _ refl refl
deed function.Halt args w = Halts refl refl
deed function.DefineString args w =
    Changes [] _ refl
    (λ name ne. named-append name (without (argument args 1) w.forms) _ ne ∙ without-others (argument args 1) name w.forms ne)
    refl
deed function.SegmentString args w =
    on_form-deed function.SegmentString args w (form_named (argument args 1) w.forms) _
    (λ form. change-deed function.SegmentString args w refl (λ name. refl) [] (segmented args) (λ form. refl))
deed function.DeleteDefinition args w =
    Changes [] _ refl (λ name ne. filter-others (drop 1 args) name w.forms ne) refl
deed function.DeleteAll args w = Changes [] [] refl (λ name ne. absurd cc) refl
deed function.PrintForm args w =
    on_form-deed function.PrintForm args w (form_named (argument args 1) w.forms) _ (λ form. Prints _ refl refl)
deed function.CallForm args w =
    on_form-deed function.CallForm args w (form_named (argument args 1) w.forms) _ (λ form. Values _ refl)
deed function.CallSegment args w =
    on_form-deed function.CallSegment args w (form_named (argument args 1) w.forms) _
    (λ form. take_part-deed function.CallSegment args w 2 refl refl (λ name. refl) (next_segment form))
deed function.CallCharacter args w =
    on_form-deed function.CallCharacter args w (form_named (argument args 1) w.forms) _
    (λ form. take_part-deed function.CallCharacter args w 2 refl refl (λ name. refl) (characters (pos 1) form))
deed function.CallNumber args w =
    on_form-deed function.CallNumber args w (form_named (argument args 1) w.forms) _
    (λ form. take_part-deed function.CallNumber args w 3 refl refl (λ name. refl) (characters (number (argument args 2)) form))
deed function.InitialPart args w =
    on_form-deed function.InitialPart args w (form_named (argument args 1) w.forms) _
    (λ form. take_part-deed function.InitialPart args w 3 refl refl (λ name. refl) (initial_part (argument args 2) form))
deed function.CallRestore args w =
    on_form-deed function.CallRestore args w (form_named (argument args 1) w.forms) _
    (λ form. change-deed function.CallRestore args w refl (λ name. refl) [] (λ form. record form { pointer = 0 }) (λ form. refl))
deed (function.Arithmetic operation) args w =
    result_or-deed (function.Arithmetic operation) args w 3 refl
    (arith_of operation (number (argument args 1)) (number (argument args 2))) (prefix (argument args 1))
deed f args w = Values _ refl
