-- The laws on arguments, forms and values, function by function.
use Rattle.trac_laws.proofs.TableImports.{◌≡◌, ◌⊎◌, inl, inr, ℕ, zero, suc, ◌+◌, ◌<◌, Bool, true, false, List, [], ◌∷◌, ◌++◌, take, Option, Some, None, ℤ, pos, refl, sym, ap, ◌∙◌, subst, arith, unwrap_or, flat_map, codes, bytes_eq, if◌then◌else◌, map}
use Rattle.trac_laws.proofs.TableImports.{Form, Meaning, World, before_meta, from_meta, change_meta, forced, form_of_call, on_form, read_all, read_character, read_string, result_or, silent, meaning_of, number, prefix, arith_of, characters, initial_part, next_segment, argument}
use Rattle.trac_laws.proofs.TableImports.{traits, Text, Add, Subtract, Multiply, Divide, Function, emptied, value_of}
use Rattle.trac_language.specs.declared.function.Function.TheVariants as function
use Rattle.trac_laws.specs.Columns.{UsesFew, NeedsForm, GivesBody, GivesPart, GivesNothing, GivesDefault, Chooses}

-- ---- arguments

argument-take : (args : List Text) (k n : ℕ) → k < n → argument (take n args) k ≡ argument args k
argument-take [] k zero lt = refl
argument-take [] k (suc n) lt = refl
argument-take (a ∷ args) k zero lt = absurd (omega arith)
argument-take (a ∷ args) zero (suc n) lt = refl
argument-take (a ∷ args) (suc k) (suc n) lt = argument-take args k n (omega arith)

-- what holds of the count that a function has holds of each that the table says
of-count : {A : Type 0} (m n : A) → (P : A → Type 0) → Some m ≡ Some n → P m → P n
of-count m n P e p = subst P (ap (λ o. unwrap_or o m) e) p

abbrev Few : Function → List Text → World → ℕ → Type 0
Few f args w n = meaning_of f (take (n + 1) args) w ≡ meaning_of f args w

few : (f : Function) (args : List Text) (w : World) (n : ℕ) → (traits f).uses ≡ Some n → Few f args w n
unfolding meaning_of
few function.ReadString args w n e = of-count 0 n (Few function.ReadString args w) e refl
few function.ReadCharacter args w n e = of-count 0 n (Few function.ReadCharacter args w) e refl
few function.ChangeMeta args w n e = of-count 1 n (Few function.ChangeMeta args w) e (rw (argument-take args 1 2 (omega arith)) refl)
few function.PrintString args w n e = of-count 1 n (Few function.PrintString args w) e (rw (argument-take args 1 2 (omega arith)) refl)
few function.Halt args w n e = of-count 0 n (Few function.Halt args w) e refl
few function.DefineString args w n e = of-count 2 n (Few function.DefineString args w) e (rw (argument-take args 1 3 (omega arith), argument-take args 2 3 (omega arith)) refl)
few function.SegmentString args w n e = absurd cc
few function.DeleteDefinition args w n e = absurd cc
few function.DeleteAll args w n e = of-count 0 n (Few function.DeleteAll args w) e refl
few function.ListNames args w n e = of-count 1 n (Few function.ListNames args w) e (rw (argument-take args 1 2 (omega arith)) refl)
few function.PrintForm args w n e = of-count 1 n (Few function.PrintForm args w) e (rw (argument-take args 1 2 (omega arith)) refl)
few function.CallForm args w n e = absurd cc
few function.CallSegment args w n e = of-count 2 n (Few function.CallSegment args w) e (rw (argument-take args 1 3 (omega arith), argument-take args 2 3 (omega arith)) refl)
few function.CallCharacter args w n e = of-count 2 n (Few function.CallCharacter args w) e (rw (argument-take args 1 3 (omega arith), argument-take args 2 3 (omega arith)) refl)
few function.CallNumber args w n e = of-count 3 n (Few function.CallNumber args w) e (rw (argument-take args 1 4 (omega arith), argument-take args 2 4 (omega arith), argument-take args 3 4 (omega arith)) refl)
few function.InitialPart args w n e = of-count 3 n (Few function.InitialPart args w) e (rw (argument-take args 1 4 (omega arith), argument-take args 2 4 (omega arith), argument-take args 3 4 (omega arith)) refl)
few function.CallRestore args w n e = of-count 1 n (Few function.CallRestore args w) e (rw (argument-take args 1 2 (omega arith)) refl)
few function.Equal args w n e = of-count 4 n (Few function.Equal args w) e (rw (argument-take args 1 5 (omega arith), argument-take args 2 5 (omega arith), argument-take args 3 5 (omega arith), argument-take args 4 5 (omega arith)) refl)
few function.Greater args w n e = of-count 4 n (Few function.Greater args w) e (rw (argument-take args 1 5 (omega arith), argument-take args 2 5 (omega arith), argument-take args 3 5 (omega arith), argument-take args 4 5 (omega arith)) refl)
few (function.Arithmetic operation) args w n e = of-count 3 n (Few (function.Arithmetic operation) args w) e (rw (argument-take args 1 4 (omega arith), argument-take args 2 4 (omega arith), argument-take args 3 4 (omega arith)) refl)
few function.Union args w n e = of-count 2 n (Few function.Union args w) e (rw (argument-take args 1 3 (omega arith), argument-take args 2 3 (omega arith)) refl)
few function.Intersection args w n e = of-count 2 n (Few function.Intersection args w) e (rw (argument-take args 1 3 (omega arith), argument-take args 2 3 (omega arith)) refl)
few function.Complement args w n e = of-count 1 n (Few function.Complement args w) e (rw (argument-take args 1 2 (omega arith)) refl)
few function.Shift args w n e = of-count 2 n (Few function.Shift args w) e (rw (argument-take args 1 3 (omega arith), argument-take args 2 3 (omega arith)) refl)
few function.Rotate args w n e = of-count 2 n (Few function.Rotate args w) e (rw (argument-take args 1 3 (omega arith), argument-take args 2 3 (omega arith)) refl)

pub uses_few : UsesFew
uses_few f args w n e = few f args w n e

-- ---- forms

no-form : (o : Option Form) (k : Form → Meaning) (w : World) → o ≡ None → on_form o k w ≡ silent w
no-form o k w e = rw e refl

pub needs_form : NeedsForm
unfolding meaning_of
needs_form function.SegmentString args w e none = no-form (form_of_call args w) _ w none
needs_form function.PrintForm args w e none = no-form (form_of_call args w) _ w none
needs_form function.CallForm args w e none = no-form (form_of_call args w) _ w none
needs_form function.CallSegment args w e none = no-form (form_of_call args w) _ w none
needs_form function.CallCharacter args w e none = no-form (form_of_call args w) _ w none
needs_form function.CallNumber args w e none = no-form (form_of_call args w) _ w none
needs_form function.InitialPart args w e none = no-form (form_of_call args w) _ w none
needs_form function.CallRestore args w e none = no-form (form_of_call args w) _ w none
needs_form f args w e none = absurd cc

pub gives_body : GivesBody
unfolding meaning_of
gives_body function.CallForm args w form e found = rw found refl
gives_body f args w form e found = absurd cc

pub gives_part : GivesPart
unfolding meaning_of
gives_part function.CallSegment args w e = (next_segment, argument args 2, refl)
gives_part function.CallCharacter args w e = (characters (pos 1), argument args 2, refl)
gives_part function.CallNumber args w e = (characters (number (argument args 2)), argument args 3, refl)
gives_part function.InitialPart args w e = (initial_part (argument args 2), argument args 3, refl)
gives_part f args w e = absurd cc

-- ---- values that no body makes a difference to

-- a world with other bodies
abbrev other : World → World
other w = record w { forms = map emptied w.forms }

read_all-value : (fails : Bool) (text : Text) (a b : World) → value_of (read_all fails text a) ≡ value_of (read_all fails text b)
read_all-value true text a b = refl
read_all-value false [] a b = refl
read_all-value false (c ∷ text) a b = refl

read_string-value : (text from : Text) (w : World) → value_of (read_string text from (other w)) ≡ value_of (read_string text from w)
read_string-value text [] w = read_all-value w.input.fails text (other w) w
read_string-value text (c ∷ rest) w = refl

read_character-value : (text : Text) (fails : Bool) (a b : World) → value_of (read_character text fails a) ≡ value_of (read_character text fails b)
read_character-value (c ∷ rest) fails a b = refl
read_character-value [] true a b = refl
read_character-value [] false a b = refl

change_meta-value : (text : Text) (w : World) → value_of (change_meta text w) ≡ Some []
change_meta-value [] w = refl
change_meta-value (c ∷ text) w = refl

null-value : (o : Option Form) (k : Form → Meaning) (w : World) → ((form : Form) → value_of (k form) ≡ Some []) → value_of (on_form o k w) ≡ Some []
null-value None k w null = refl
null-value (Some form) k w null = null form

names-value : (head : Text) (forms : List Form) → flat_map (λ form. head ++ form.name) (map emptied forms) ≡ flat_map (λ form. head ++ form.name) forms
names-value head [] = refl
names-value head (form ∷ forms) = rw (names-value head forms) refl

result_or-value : (o : Option ℤ) (before z : Text) (a b : World) → value_of (result_or o before z a) ≡ value_of (result_or o before z b)
result_or-value None before z a b = refl
result_or-value (Some n) before z a b = refl

pub gives_nothing : GivesNothing
unfolding meaning_of
gives_nothing function.ReadString args w e = read_string-value (before_meta w) (from_meta w) w
gives_nothing function.ReadCharacter args w e = read_character-value w.input.text w.input.fails (other w) w
gives_nothing function.ChangeMeta args w e = change_meta-value (argument args 1) (other w) ∙ sym (change_meta-value (argument args 1) w)
gives_nothing function.SegmentString args w e =
    null-value (form_of_call args (other w)) _ (other w) (λ form. refl) ∙ sym (null-value (form_of_call args w) _ w (λ form. refl))
gives_nothing function.PrintForm args w e =
    null-value (form_of_call args (other w)) _ (other w) (λ form. refl) ∙ sym (null-value (form_of_call args w) _ w (λ form. refl))
gives_nothing function.CallRestore args w e =
    null-value (form_of_call args (other w)) _ (other w) (λ form. refl) ∙ sym (null-value (form_of_call args w) _ w (λ form. refl))
gives_nothing function.ListNames args w e = ap Some (names-value (argument args 1) w.forms)
gives_nothing function.CallForm args w e = absurd cc
gives_nothing function.CallSegment args w e = absurd cc
gives_nothing function.CallCharacter args w e = absurd cc
gives_nothing function.CallNumber args w e = absurd cc
gives_nothing function.InitialPart args w e = absurd cc
gives_nothing (function.Arithmetic operation) args w e =
    result_or-value (arith_of operation (number (argument args 1)) (number (argument args 2))) (prefix (argument args 1)) (argument args 3) (other w) w
gives_nothing f args w e = refl

-- ---- default values and choices

-- the greatest number, and the least one
abbrev greatest : Text
greatest = codes "170141183460469231731687303715884105727"

abbrev least : Text
least = codes "-170141183460469231731687303715884105727"

-- a form with the null name, of which nothing is left
abbrev nothing-left : List Form
nothing-left = record { name = []; body = []; pointer = 0 } ∷ []

abbrev Gave : Function → Text → World → ℕ → Type 0
Gave f z w place =
    (args : List Text) × ((forms : List Form) × ((argument args place ≡ z) × (meaning_of f args (record w { forms = forms }) ≡ forced z (record w { forms = forms }))))

gave : (f : Function) (place : ℕ) (z : Text) (w : World) → (traits f).default ≡ Some place → Gave f z w place
unfolding meaning_of
gave function.CallSegment place z w e =
    of-count 2 place (Gave function.CallSegment z w) e ([] ∷ [] ∷ z ∷ [], (nothing-left, (refl, refl)))
gave function.CallCharacter place z w e =
    of-count 2 place (Gave function.CallCharacter z w) e ([] ∷ [] ∷ z ∷ [], (nothing-left, (refl, refl)))
gave function.CallNumber place z w e =
    of-count 3 place (Gave function.CallNumber z w) e ([] ∷ [] ∷ codes "1" ∷ z ∷ [], (nothing-left, (refl, refl)))
gave function.InitialPart place z w e =
    of-count 3 place (Gave function.InitialPart z w) e ([] ∷ [] ∷ codes "x" ∷ z ∷ [], (nothing-left, (refl, refl)))
gave (function.Arithmetic Add) place z w e =
    of-count 3 place (Gave (function.Arithmetic Add) z w) e ([] ∷ greatest ∷ greatest ∷ z ∷ [], ([], (refl, refl)))
gave (function.Arithmetic Subtract) place z w e =
    of-count 3 place (Gave (function.Arithmetic Subtract) z w) e ([] ∷ greatest ∷ least ∷ z ∷ [], ([], (refl, refl)))
gave (function.Arithmetic Multiply) place z w e =
    of-count 3 place (Gave (function.Arithmetic Multiply) z w) e ([] ∷ greatest ∷ greatest ∷ z ∷ [], ([], (refl, refl)))
gave (function.Arithmetic Divide) place z w e =
    of-count 3 place (Gave (function.Arithmetic Divide) z w) e ([] ∷ codes "1" ∷ codes "0" ∷ z ∷ [], ([], (refl, refl)))
gave f place z w e = absurd cc

pub gives_default : GivesDefault
gives_default f place z w e = gave f place z w e

chosen : (b : Bool) (x y : Text) → ((if b then x else y) ≡ x) ⊎ ((if b then x else y) ≡ y)
chosen true x y = inl refl
chosen false x y = inr refl

pub chooses : Chooses
unfolding meaning_of
chooses function.Equal args w e = chosen (bytes_eq (argument args 1) (argument args 2)) (argument args 3) (argument args 4)
chooses function.Greater args w e = chosen _ (argument args 3) (argument args 4)
chooses f args w e = absurd cc
