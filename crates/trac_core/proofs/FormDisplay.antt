-- The display of a form.
use Rattle.trac_core.proofs.Imports.{◌≡◌, ◌≢◌, ℕ, ◌+◌, ◌-◌, ◌<◌, ◌≤◌, List, [], ◌∷◌, ◌++◌, length, take, drop, slice_get, slice_range, Option, Some, None, refl, sym, ap, ◌∙◌, subst, arith, append_assoc, append-nil, Result, Ok, Err, OnErr, codes, decimal, drop-cons, take_rest, slice_get-get_or, Item, PrintForm, OutputFailed, Text, Form, before_pointer, after_pointer, form_named, argument, World, on_form, printing, show, show_form, meaning_of, value_length, Contents, used, Stream, Breaks, Prints, arguments_at, world, ending, Null, Over, scene, IsCall, AnswersCall, display, shown}
use Rattle.std.proofs.lemmas.List.{length-append}
use Rattle.std.specs.Prelude.{IsErr, MatchResult}
use Rattle.trac_core.proofs.Imports.{get_or, suc, zero, true, false, true≢false}
use Rattle.trac_core.specs.Display.{is_byte}
use Rattle.trac_forms.specs.Search.{gap_at, is_gap}
use Rattle.trac_language.specs.Form.{is_character, items_of}
use Rattle.trac_language.specs.declared.item.Item.TheVariants.{Byte, Gap}
use Rattle.trac_core.proofs.Performing.{tried-null, tried-broken}
use Rattle.trac_functions.proofs.TakenItems.{range-split}

pub show-append : (xs ys : List Item) → show (xs ++ ys) ≡ show xs ++ show ys
show-append [] ys = refl
show-append (Byte c ∷ xs) ys = ap (λ t. c ∷ t) (show-append xs ys)
show-append (Gap k ∷ xs) ys =
    ap (λ t. codes "<" ++ decimal k ++ codes ">" ++ t) (show-append xs ys)
    ∙ sym (append_assoc (codes "<" ++ decimal k ++ codes ">") (show xs) (show ys))

-- a text behind a text that was written
pub breaks-then : (old mid new a b : Text) → mid ≡ old ++ a → Breaks mid b new → Breaks old (a ++ b) new
breaks-then old mid new a b first p =
    let text = ap (λ t. a ++ t) p.1.1.0 ∙ sym (append_assoc a p.0 p.1.0) in
    let stands = p.1.1.1 ∙ ap (λ t. t ++ p.0) first ∙ append_assoc old a p.0 in
    (a ++ p.0, (p.1.0, (text, stands)))

pub prints-then : {A E : Type 0} (r : Result A E) (old mid new a b : Text) → mid ≡ old ++ a → Prints r mid b new → Prints r old (a ++ b) new
prints-then (Ok x) old mid new a b first p = p ∙ ap (λ t. t ++ b) first ∙ append_assoc old a b
prints-then (Err e) old mid new a b first p = breaks-then old mid new a b first p

-- and more that was to follow
pub breaks-off : (old new a b : Text) → Breaks old a new → Breaks old (a ++ b) new
breaks-off old new a b p = (p.0, (p.1.0 ++ b, (ap (λ t. t ++ b) p.1.1.0 ∙ append_assoc p.0 p.1.0 b, p.1.1.1)))

-- nothing more is written
pub prints-nothing : {A E : Type 0} (r : Result A E) (old new a : Text) → new ≡ old ++ a → Prints r old a new
prints-nothing (Ok x) old new a first = first
prints-nothing (Err e) old new a first = (a, ([], (sym (append-nil a), first)))

-- ---- the items of a form

show-one : (body : List Item) (k : ℕ) → k < length body → show (slice_range body k (k + 1)) ≡ shown (slice_get body k)
show-one body k lt =
    let one : (k + 1) - k ≡ 1 = omega arith in
    rw (one, drop-cons body k (Byte 0) lt) (ap shown (sym (slice_get-get_or body k (Byte 0) lt)))

pub show-split : (body : List Item) (a b c : ℕ) → a ≤ b → b ≤ c → show (slice_range body a c) ≡ show (slice_range body a b) ++ show (slice_range body b c)
show-split body a b c ab bc = ap show (range-split body a b c ab bc) ∙ show-append (slice_range body a b) (slice_range body b c)

-- the display of the items up to a place goes on
module _ (old mid new : Text) (body : List Item) (from place : ℕ) (order : from ≤ place) (first : mid ≡ old ++ show (slice_range body from place)) where
  pub displays-on : (next : ℕ) → place ≤ next → new ≡ mid ++ show (slice_range body place next) → new ≡ old ++ show (slice_range body from next)
  displays-on next on more =
      more ∙ ap (λ t. t ++ show (slice_range body place next)) first
      ∙ append_assoc old (show (slice_range body from place)) (show (slice_range body place next))
      ∙ ap (λ t. old ++ t) (sym (show-split body from place next order on))

  -- or is broken off
  pub displays-broken : (to : ℕ) → place ≤ to → Breaks mid (show (slice_range body place to)) new → Breaks old (show (slice_range body from to)) new
  displays-broken to on broke =
      subst (λ t. Breaks old t new) (sym (show-split body from place to order on))
      (breaks-then old mid new (show (slice_range body from place)) (show (slice_range body place to)) first broke)

-- an error with what was put before it
pub match-err : {A E : Type 0} (r : Result A E) (P : A → Type 0) (Q : Type 0) → IsErr r → Q → MatchResult r P (λ _. Q)
match-err (Ok x) P Q wrong q = absurd cc
match-err (Err e) P Q err q = q

show-characters : (text : Text) → show (items_of text) ≡ text
show-characters [] = refl
show-characters (c ∷ text) = ap (λ t. c ∷ t) (show-characters text)

-- characters of a body from a place on, up to place `end`
module _ (body : List Item) (place end : ℕ) (text : Text) (are : slice_range body place end ≡ items_of text) where
  pub show-run : show (slice_range body place end) ≡ text
  show-run = ap show are ∙ show-characters text

  -- the characters were put, or broken off
  pub run-broken : (old new : Text) (to : ℕ) → place ≤ end → end ≤ to → Breaks old text new → Breaks old (show (slice_range body place to)) new
  run-broken old new to order on broke =
      let whole : show (slice_range body place to) ≡ text ++ show (slice_range body end to) =
      show-split body place end to order on ∙ ap (λ t. t ++ show (slice_range body end to)) show-run in
      subst (λ t. Breaks old t new) (sym whole) (breaks-off old new text (show (slice_range body end to)) broke)

no_gap : (item : Item) → is_character item ≡ true → is_gap item ≡ true → true ≡ false
no_gap (Byte c) byte gap = sym gap
no_gap (Gap k) byte gap = sym byte

-- a run of characters from a character on has at least one
pub run-some : (body : List Item) (place size : ℕ) (item : Option Item) → item ≡ slice_get body place → is_byte item ≡ true → place < length body → (size ≡ 0 → gap_at body place ≡ true) → 0 < size
run-some body place zero item is byte within stop =
    let here = ap is_byte (sym (is ∙ slice_get-get_or body place (Byte 0) within)) ∙ byte in
    absurd (true≢false (no_gap (get_or body place (Byte 0)) here (stop refl)))
run-some body place (suc n) item is byte within stop = omega arith

-- an item was put, or broken off
module _ (body : List Item) (place : ℕ) (item : Option Item) (is : item ≡ slice_get body place) where
  pub item-shown : place < length body → show (slice_range body place (place + 1)) ≡ shown item
  item-shown within = show-one body place within ∙ ap shown (sym is)

  pub item-broken : (old new : Text) (to : ℕ) → place < to → to ≤ length body → Breaks old (shown item) new → Breaks old (show (slice_range body place to)) new
  item-broken old new to less within broke =
      let rest = show (slice_range body (place + 1) to) in
      let whole : show (slice_range body place to) ≡ shown item ++ rest =
      show-split body place (place + 1) to (omega arith) (omega arith) ∙ ap (λ t. t ++ rest) (item-shown (omega arith)) in
      subst (λ t. Breaks old t new) (sym whole) (breaks-off old new (shown item) rest broke)

-- ---- forms

pub display-parts : (form : Form) (pointer end : ℕ) → pointer ≡ form.pointer → end ≡ length form.body → show_form form ≡ show (slice_range form.body 0 pointer) ++ (codes "<^>" ++ show (slice_range form.body pointer end))
display-parts form pointer end pointer_is end_is =
    let body = form.body in
    append_assoc (show (take form.pointer body)) (codes "<^>") (show (drop form.pointer body))
    ∙ ap (λ p. show (take p body) ++ (codes "<^>" ++ show (drop p body))) (sym pointer_is)
    ∙ ap (λ items. show (take pointer body) ++ (codes "<^>" ++ show items)) (sym (ap (λ n. take (n - pointer) (drop pointer body)) end_is ∙ take_rest body pointer))
    ∙ ap (λ n. show (take n body) ++ (codes "<^>" ++ show (slice_range body pointer end))) (let whole : pointer ≡ pointer - 0 = omega arith in whole)

pub display-some : (form : Form) → show_form form ≢ []
display-some form none =
    let e = ap length none in
    let a = length-append (show (before_pointer form) ++ codes "<^>") (show (after_pointer form)) in
    let b = length-append (show (before_pointer form)) (codes "<^>") in
    absurd (omega arith)

pub on_err : {A E : Type 0} (r : Result A E) (P : Type 0) → P → OnErr r P
on_err (Ok x) P p = tt
on_err (Err e) P p = p

displays : (o : Option Form) (w : World) → on_form o (λ form. printing (show_form form) w) w ≡ printing (display o) w
displays None w = refl
displays (Some form) w = refl

module _ (w : Contents) (place : ℕ) where
  pub answers-display : IsCall w place (Some PrintForm) → (meta : ℕ) (source : Stream) (written : Text) → AnswersCall place (scene w meta source written) (Null 0) (scene w meta source (written ++ display (form_named (argument (arguments_at w.neutral place) 1) w.forms)))
  unfolding meaning_of
  answers-display call meta source written =
      let means = displays (form_named (argument (arguments_at w.neutral place) 1) w.forms) (world w.forms meta (ending source.bytes)) in
      tried-null place (Some PrintForm) (scene w meta source written) meta (display (form_named (argument (arguments_at w.neutral place) 1) w.forms)) _ call means (sym (ap value_length means)) refl refl

  pub answers-display-broken : IsCall w place (Some PrintForm) → (meta : ℕ) (source : Stream) (written put rest : Text) → display (form_named (argument (arguments_at w.neutral place) 1) w.forms) ≡ put ++ rest → put ++ rest ≢ [] → AnswersCall place (scene w meta source written) (Over OutputFailed) (scene w meta source (written ++ put))
  unfolding meaning_of
  answers-display-broken call meta source written put rest parts some =
      let means = displays (form_named (argument (arguments_at w.neutral place) 1) w.forms) (world w.forms meta (ending source.bytes)) in
      tried-broken place (Some PrintForm) (scene w meta source written) put rest (used w) _ (record { names = call.names; means = means; needs = let none_built = ap value_length means in omega arith; fits = call.sound.fits }) parts some
