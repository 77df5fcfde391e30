use Rattle.trac_functions.proofs.Imports.{Some, ◌≡◌, ℕ, ◌+◌, ◌<◌, ◌≤◌, ◌∷◌, ◌++◌, List, length, drop, refl, sym, ap, ◌∙◌, subst, arith, false, CallForm, Text, Input, fill, argument, meaning_of, built, world}
use Rattle.trac_functions.proofs.Imports.{flat_text, filled_body, Contents, used, IsNamedAt, IsSound, IsLoaded, called_part, form_named-at, Arguments, texts, AreArguments, Valued}
use Rattle.trac_functions.proofs.MadeValues.{valued-of}
use Rattle.trac_functions.proofs.FormLemmas.{idle, parted, parted-texts}
use Rattle.trac_functions.proofs.form_calls.call_form.Goals as goal

pub returns-in_default-clause-makes : goal.returns-in_default-clause-makes
unfolding meaning_of
returns-in_default-clause-makes c = idle CallForm (λ _ _ _ none. rw none refl) (λ _ _ _. refl) c.args.work.now c.next_form.new.work c.args.arguments _ c.requires c.next_form.ensures.same c.in_default.ensures.found refl

pub load_filled-requires-clause-arguments : goal.load_filled-requires-clause-arguments
load_filled-requires-clause-arguments c = parted c.next_form.new.work c.next_form.new.arguments (rw c.next_form.ensures.same c.next_form.ensures.left)

-- form k is called, and `left` are the arguments of the call that are left
module _ (old mid : Contents) (left : Arguments) (name : Text) (ts : List Text) (k : ℕ) (same : mid ≡ old) (are : AreArguments old left) (rest : texts old left ≡ drop 1 ts) (sound : IsSound old) (named : IsNamedAt old.forms (argument ts 0) k) where
  abbrev value : Text
  value = fill (drop 1 ts) (called_part old.forms k)

  -- what the call means
  called : Valued CallForm (name ∷ ts) old.forms value false old.forms
  unfolding meaning_of
  called = valued-of CallForm (name ∷ ts) old.forms old.forms _ false (λ meta input. rw (form_named-at (argument ts 0) old.forms k sound.forms named) refl) (λ _. refl)

  -- the filler is given the texts of the arguments that are left
  filled : filled_body old k left.from left.end ≡ value
  filled = ap (λ given. fill given (called_part old.forms k)) (parted-texts old left are ∙ rest)

  -- a value that doesn't fit
  full : mid.room < used mid + length (filled_body mid k left.from left.end) → (meta : ℕ) (input : Input) → old.room < used old + built (Some CallForm) (name ∷ ts) (world old.forms meta input)
  full past meta input =
      let long : old.room < used old + length (filled_body old k left.from left.end) = subst (λ (w : Contents). w.room < used w + length (filled_body w k left.from left.end)) same past in
      omega (arith, long, ap length filled, called.builds meta input)

  -- what a value that fits comes to
  record Stands (new : Contents) (size : ℕ) : Type 0 where
    pub valued : Valued CallForm (name ∷ ts) old.forms value false new.forms
    pub long : length value ≡ size
    pub fits : used old + size ≤ old.room
    pub stands : new ≡ record old { forms = new.forms; active = flat_text value ++ old.active }

  loads : (new : Contents) (size : ℕ) → IsLoaded mid new (filled_body mid k left.from left.end) size → Stands new size
  loads new size is =
      let loaded = subst (λ t. IsLoaded old new t size) filled (subst (λ (w : Contents). IsLoaded w new (filled_body w k left.from left.end) size) same is) in
      let forms = ap (λ (w : Contents). w.forms) loaded.stands in
      record {
        valued = subst (λ fs. Valued CallForm (name ∷ ts) old.forms value false fs) (sym forms) called;
        long = loaded.size;
        fits = loaded.fits;
        stands = loaded.stands ∙ ap (λ fs. record old { forms = fs; active = flat_text value ++ old.active }) (sym forms);
      }

pub returns-in_default-load_filled-clause-makes : goal.returns-in_default-load_filled-clause-makes
returns-in_default-load_filled-clause-makes c = λ name.
    full c.args.work.now c.next_form.new.work c.next_form.new.arguments name (texts c.args.work.now c.args.arguments) c.in-Some.form.0 c.next_form.ensures.same c.next_form.ensures.left c.next_form.ensures.rest c.requires.sound c.in-Some.ensures.found c.in_default-load_filled.ensures.loaded.1

pub returns-then-scanned-clause-makes : goal.returns-then-scanned-clause-makes
returns-then-scanned-clause-makes c = λ name.
    let is = loads c.args.work.now c.next_form.new.work c.next_form.new.arguments name (texts c.args.work.now c.args.arguments) c.in-Some.form.0 c.next_form.ensures.same c.next_form.ensures.left c.next_form.ensures.rest c.requires.sound c.in-Some.ensures.found c.load_filled.new.self c.in-Some-load_filled.size c.in-Some-load_filled.ensures.loaded in
    (_, (false, record { valued = is.valued; goes = c.if-scanned.true; long = is.long; fits = is.fits; stands = is.stands }))

pub returns-else-scanned-clause-makes : goal.returns-else-scanned-clause-makes
returns-else-scanned-clause-makes c = λ name.
    let is = loads c.args.work.now c.next_form.new.work c.next_form.new.arguments name (texts c.args.work.now c.args.arguments) c.in-Some.form.0 c.next_form.ensures.same c.next_form.ensures.left c.next_form.ensures.rest c.requires.sound c.in-Some.ensures.found c.load_filled.new.self c.in-Some-load_filled.size c.in-Some-load_filled.ensures.loaded in
    (_, record { valued = is.valued; stays = c.if-scanned.false; long = is.long; fits = is.fits; stands = is.stands })
