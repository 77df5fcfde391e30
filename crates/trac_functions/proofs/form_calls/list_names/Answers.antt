use Rattle.trac_functions.proofs.Imports.{◌≡◌, ℕ, ◌+◌, ◌<◌, ◌++◌, ◌∷◌, [], length, drop, refl, sym, ap, arith, false, ListNames, Input, Text, meaning_of, valued, Contents, used, name_at, part_text, IsTextPart, IsSound, world, texts}
use Rattle.trac_functions.proofs.MadeValues.{valued-of}
use Rattle.trac_functions.proofs.PutCharacters.{with_text}
use Rattle.trac_functions.proofs.FormLemmas.{names, names-more, names-none}
use Rattle.trac_functions.proofs.PutParts.{HasPut, put-none, put-more, put-full, put-all, forms-kept, part-kept, text-kept}
use Rattle.trac_functions.proofs.form_calls.list_names.Goals as goal
use Rattle.trac_functions.proofs.form_calls.list_names.Goals.{in-Some+else-not-put_name, in_default}

-- the name that is put next, where contents that were told by `was` are now the same
module _ (old was now : Contents) (same : now ≡ was) (a b k i : ℕ) (put : HasPut old (names (part_text old.neutral a b) old.forms) was (names (part_text old.neutral a b) (drop k old.forms))) (part : IsTextPart old.neutral a b) (at : (i ≡ k) × (k < length was.forms)) where
  abbrev line : Text
  line = part_text now.neutral a b ++ name_at now.forms i

  here : HasPut old (names (part_text old.neutral a b) old.forms) now (names (part_text old.neutral a b) (drop k old.forms))
  here = rw same put

  split : names (part_text old.neutral a b) (drop k old.forms) ≡ line ++ names (part_text old.neutral a b) (drop (k + 1) old.forms)
  split =
      rw (text-kept old _ now _ here a b part, forms-kept old _ now _ here, at.0)
      (names-more (part_text old.neutral a b) old.forms k (omega (arith, at.1, ap length (forms-kept old _ was _ put))))

  next : (new : Contents) → new ≡ with_text now line → IsSound new → HasPut old (names (part_text old.neutral a b) old.forms) new (names (part_text old.neutral a b) (drop (k + 1) old.forms))
  next new is sound = put-more old _ now new _ _ _ here split is sound

  too_long : now.room < used now + length line → old.room < used old + length (names (part_text old.neutral a b) old.forms)
  too_long full = put-full old _ now _ _ _ here split full

pub put_name-requires-clause-part : goal.put_name-requires-clause-part
put_name-requires-clause-part c =
    rw c.form.ensures.same (part-kept c.args.work.now _ c.loop-k.work _ c.loop-k.invariant c.next-before.result.from c.next-before.result.to c.next-before.ensures.part)

pub loop-k-init : goal.loop-k-init
loop-k-init c = put-none c.args.work.now _ c.args.work.now _ c.requires.sound refl refl

pub loop-k-preserved : goal.loop-k-preserved
loop-k-preserved c =
    elim c.match-form.branch [
      | in-Some+else-not-put_name w ↦
          rw w.work-is (next _ _ _ c.form.ensures.same _ _ _ _ c.loop-k.invariant c.next-before.ensures.part w.in-Some.ensures.at w.put_name.new.work w.if-not-put_name.ensures.last w.put_name.ensures.keeps.sound)
      | in_default w ↦
          let past = w.in_default.ensures.at in
          let count = ap length (forms-kept _ _ _ _ c.loop-k.invariant) in
          let test = c.loop-k-test.true in
          let all = c.forms-k-end.ensures.value in
          absurd (omega (arith, past, count, test, all))
    ]

pub returns-then-not-put_name-clause-makes : goal.returns-then-not-put_name-clause-makes
unfolding meaning_of
returns-then-not-put_name-clause-makes c = λ name meta input.
    rw (sym c.next-before.ensures.text)
    (too_long _ _ _ c.form.ensures.same _ _ _ _ c.loop-k.invariant c.next-before.ensures.part c.in-Some.ensures.at (grind (arith, c.if-not-put_name.ensures.put)))

pub returns-clause-makes : goal.returns-clause-makes
unfolding meaning_of
returns-clause-makes c = λ name.
    let old = c.args.work.now in
    let now = c.loop-k.work in
    let ts = texts old c.args.arguments in
    let before = part_text old.neutral c.next-before.result.from c.next-before.result.to in
    let whole = names before old.forms in
    let past = c.loop-k-test.false in
    let all = c.forms-k-end.ensures.value in
    let none : names before (drop c.loop-k.k old.forms) ≡ [] = names-none before old.forms c.loop-k.k (omega (arith, past, all)) in
    let put : HasPut old whole now [] = rw none at c.loop-k.invariant in
    let means = λ (meta : ℕ) (input : Input). ap (λ text. valued (names text old.forms) (world old.forms meta input)) (sym c.next-before.ensures.text) in
    (whole, put-all ListNames (name ∷ ts) old now whole put (valued-of ListNames (name ∷ ts) old.forms old.forms whole false means (λ _. refl)))
