use Rattle.trac_functions.proofs.Imports.{◌≡◌, ℕ, suc, ◌+◌, ◌<◌, ◌≤◌, ◌∷◌, [], List, length, drop, set, refl, sym, ap, ◌∙◌, arith, add-one, length-set, get_or-set_same, SegmentString, Text, Form, segment, segment_by, changed, argument, meaning_of, silent, Contents, form_at, body_at, pointer_at}
use Rattle.trac_functions.proofs.Imports.{part_text, form_named-at, changed-at, world, texts, texts_from}
use Rattle.trac_functions.proofs.ArgumentLemmas.{none-left}
use Rattle.trac_functions.proofs.FormLemmas.{null-value, idle, arguments-kept, next-left, fewer-left, texts-bounded, only-forms, segmented, segmented-set, segmented-none}
use Rattle.trac_functions.proofs.form_calls.segment_string.Goals as goal

-- the form at a place is put there anew, with its pointer at the start
module _ (old new : Contents) (k : ℕ) (form : Form) (within : k < length old.forms) (start : form.pointer ≡ 0) (is : new ≡ record old { forms = set old.forms k form }) where
  forms : new.forms ≡ set old.forms k form
  forms = ap (λ (w : Contents). w.forms) is

  known : k < length new.forms
  known = omega (arith, ap length forms, length-set old.forms k form)

  at_start : pointer_at new.forms k ≡ 0
  at_start = ap (λ fs. pointer_at fs k) forms ∙ ap (λ (f : Form). f.pointer) (get_or-set_same old.forms k form (record { name = []; body = []; pointer = 0 }) within) ∙ start

  makes : (texts : List Text) (ordinal : ℕ) → segmented texts ordinal new.forms k ≡ set old.forms k (record form { body = segment_by texts ordinal form.body; pointer = 0 })
  makes texts ordinal = ap (λ fs. segmented texts ordinal fs k) forms ∙ segmented-set texts ordinal old.forms k form within

pub returns-in_default-clause-makes : goal.returns-in_default-clause-makes
unfolding meaning_of
returns-in_default-clause-makes c = idle SegmentString (λ _ _ _ none. rw none refl) (λ _ _ _. refl) c.args.work.now c.next_form.new.work c.args.arguments _ c.requires c.next_form.ensures.same c.in_default.ensures.found refl

pub loop-arguments-init : goal.loop-arguments-init
loop-arguments-init c =
    let old = c.args.work.now in
    let new = c.set_pointer.new.self in
    let k = c.in-Some.form.0 in
    let form = record (form_at old.forms k) { pointer = 0 } in
    let after = c.next_form.new.arguments in
    let is : new ≡ record old { forms = set old.forms k form } =
    c.set_pointer.ensures.moved ∙ ap (λ (w : Contents). record w { forms = set w.forms k (record (form_at w.forms k) { pointer = 0 }) }) c.next_form.ensures.same in
    let neutral = ap (λ (w : Contents). w.neutral) is in
    let within = c.in-Some.ensures.found.within in
    let left = arguments-kept old new after c.next_form.ensures.left c.set_pointer.ensures.sound neutral in
    let given : texts new after ≡ drop 1 (texts old c.args.arguments) = ap (λ cells. texts_from cells after.from after.end) neutral ∙ c.next_form.ensures.rest in
    record {
      left = left;
      same = only-forms old old new _ refl is;
      known = known old new k form within refl is;
      at_start = at_start old new k form within refl is;
      makes = makes old new k form within refl is (texts new after) 1 ∙ ap (λ ts. segmented ts 1 old.forms k) given;
      counted = omega (arith, texts-bounded new after left);
    }

pub loop-arguments-smaller : goal.loop-arguments-smaller
loop-arguments-smaller c =
    let now = c.loop-arguments.work in
    let some : c.loop-arguments.arguments.from ≤ c.loop-arguments.arguments.end = grind (arith, c.is_empty.ensures) in
    let after = c.next-part.new.self in
    omega (arith, fewer-left now c.loop-arguments.arguments after some c.next-part.ensures.rest, ap (λ (w : Contents). length (texts_from w.neutral after.from after.end)) c.segment.ensures.gaps)

pub loop-arguments-preserved : goal.loop-arguments-preserved
loop-arguments-preserved c =
    let now = c.loop-arguments.work in
    let new = c.segment.new.self in
    let i = c.loop-arguments.invariant in
    let k = c.in-Some.form.0 in
    let o = c.loop-arguments.ordinal in
    let before = c.loop-arguments.arguments in
    let after = c.next-part.new.self in
    let some : before.from ≤ before.end = grind (arith, c.is_empty.ensures) in
    let is = c.segment.ensures.gaps in
    let neutral = ap (λ (w : Contents). w.neutral) is in
    let text = part_text now.neutral c.next-part.result.from c.next-part.result.to in
    let form = record (form_at now.forms k) { body = segment text (o + 1) (body_at now.forms k); pointer = 0 } in
    let given : text ∷ texts new after ≡ texts now before =
    ap (λ t. t ∷ texts new after) c.next-part.ensures.text ∙ ap (λ cells. argument (texts now before) 0 ∷ texts_from cells after.from after.end) neutral ∙ sym (next-left now before after some c.next-part.ensures.rest) in
    record {
      left = arguments-kept now new after c.next-part.ensures.left c.segment.ensures.sound neutral;
      same = only-forms c.args.work.now now new _ i.same is;
      known = known now new k form i.known refl is;
      at_start = at_start now new k form i.known refl is;
      makes = makes now new k form i.known refl is (texts new after) (suc (o + 1))
          ∙ ap (λ ts. segmented ts (o + 1) now.forms k) given
          ∙ ap (λ m. segmented (texts now before) m now.forms k) (add-one o)
          ∙ i.makes;
      counted = omega (arith, i.counted, ap length given);
    }

pub returns-clause-makes : goal.returns-clause-makes
unfolding meaning_of
returns-clause-makes c = λ name.
    let old = c.args.work.now in
    let new = c.loop-arguments.work in
    let i = c.loop-arguments.invariant in
    let k = c.in-Some.form.0 in
    let ts = texts old c.args.arguments in
    let n = argument ts 0 in
    let named = c.in-Some.ensures.found in
    let past : c.loop-arguments.arguments.end < c.loop-arguments.arguments.from = grind (arith, c.is_empty.ensures) in
    let change : Form → Form = λ form. record form { body = segment_by (drop 1 ts) 1 form.body; pointer = 0 } in
    let all : changed n change old.forms ≡ new.forms =
    changed-at n change old.forms k c.requires.sound.forms named
    ∙ sym i.makes
    ∙ ap (λ names. segmented names (suc c.loop-arguments.ordinal) new.forms k) (none-left new c.loop-arguments.arguments past)
    ∙ segmented-none (suc c.loop-arguments.ordinal) new.forms k i.at_start in
    let here = form_named-at n old.forms k c.requires.sound.forms named in
    ([], null-value SegmentString (name ∷ ts) old new c.requires.sound (λ meta input. rw here (ap (λ forms. silent (world forms meta input)) all)) (λ _. refl) i.same)
