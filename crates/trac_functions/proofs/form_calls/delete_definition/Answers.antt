use Rattle.trac_functions.proofs.Imports.{◌≡◌, ℕ, ◌<◌, ◌≤◌, ◌∷◌, [], List, drop, sym, ap, ◌∙◌, arith, false, refl, remove, DeleteDefinition, Text, without, Input, argument, meaning_of, silent, Contents, IsSound, without-at, without-none, Arguments, world, texts, texts_from, AreArguments, IsValue}
use Rattle.trac_functions.proofs.ArgumentLemmas.{none-left}
use Rattle.trac_functions.proofs.FormLemmas.{null-value, arguments-kept, next-left, only-forms, parted, parted-texts, unnamed, unnamed-none, unnamed-first}
use Rattle.trac_functions.proofs.form_calls.delete_definition.Goals as goal
use Rattle.trac_functions.proofs.form_calls.delete_definition.Goals.{in-Some, in_default}

-- what a call means that leaves these forms
left : (old new : Contents) (ts : List Text) → IsSound old → unnamed ts old.forms ≡ new.forms → new ≡ record old { forms = new.forms } → (name : Text) → (value : Text) × IsValue DeleteDefinition (name ∷ ts) old new false value
unfolding meaning_of
left old new ts sound all same name =
    let means = λ (meta : ℕ) (input : Input). ap (λ forms. silent (world forms meta input)) all in
    ([], null-value DeleteDefinition (name ∷ ts) old new sound means (λ _. refl) same)

-- one name was taken, and the form that it names was removed
leaves : (now new : Contents) (a b : Arguments) → AreArguments now a → a.from ≤ a.end → texts now b ≡ drop 1 (texts now a) → new ≡ record now { forms = without (argument (texts now a) 0) now.forms } → unnamed (texts new b) new.forms ≡ unnamed (texts now a) now.forms
leaves now new a b are some rest is =
    ap (λ (w : Contents). unnamed (texts_from w.neutral b.from b.end) w.forms) is
    ∙ sym (unnamed-first (argument (texts now a) 0) (texts now b) now.forms are.sound.forms)
    ∙ sym (ap (λ names. unnamed names now.forms) (next-left now a b some rest))

-- no name is left
all-taken : (old now : Contents) (ts : List Text) (a : Arguments) → IsSound old → a.end < a.from → unnamed (texts now a) now.forms ≡ unnamed ts old.forms → now ≡ record old { forms = now.forms } → (name : Text) → (value : Text) × IsValue DeleteDefinition (name ∷ ts) old now false value
all-taken old now ts a sound past taken =
    left old now ts sound (sym taken ∙ ap (λ names. unnamed names now.forms) (none-left now a past) ∙ unnamed-none now.forms)

pub loop-name-preserved : goal.loop-name-preserved
loop-name-preserved c =
    let now = c.loop-name.work in
    let i = c.loop-name.invariant in
    let a = c.loop-name.arguments in
    let b = c.next_form.new.arguments in
    let some : a.from ≤ a.end = grind (arith, c.is_empty.ensures) in
    elim c.match-next_form.branch [
      | in-Some w ↦ (
          let new = w.delete.new.self in
          let is = w.delete.ensures.gone ∙ ap (λ (v : Contents). record v { forms = remove v.forms w.in-Some.form.0 }) c.next_form.ensures.same in
          rw w.work-is (record {
            left = arguments-kept now new b c.next_form.ensures.left w.delete.ensures.sound (ap (λ (v : Contents). v.neutral) is);
            same = only-forms c.args.work.now now new _ i.same is;
            leaves = leaves now new a b i.left some c.next_form.ensures.rest (is ∙ ap (λ forms. record now { forms = forms }) (sym (without-at _ now.forms w.in-Some.form.0 i.left.sound.forms w.in-Some.ensures.found))) ∙ i.leaves;
          }))
      | in_default w ↦ (
          let new = c.next_form.new.work in
          let is = c.next_form.ensures.same in
          rw w.work-is (record {
            left = rw is c.next_form.ensures.left;
            same = only-forms c.args.work.now now new now.forms i.same is;
            leaves = leaves now new a b i.left some c.next_form.ensures.rest (is ∙ ap (λ forms. record now { forms = forms }) (sym (without-none _ now.forms w.in_default.ensures.found))) ∙ i.leaves;
          }))
    ]

pub returns-then-is_empty-clause-makes : goal.returns-then-is_empty-clause-makes
returns-then-is_empty-clause-makes c =
    let i = c.loop-name.invariant in
    all-taken c.args.work.now c.loop-name.work _ c.loop-name.arguments c.requires.sound (grind (arith, c.is_empty.ensures)) i.leaves i.same

pub delete_named-requires : goal.delete_named-requires
delete_named-requires c = parted c.loop-name.work c.loop-name.arguments c.loop-name.invariant.left

pub returns-then-not-is_empty-clause-makes : goal.returns-then-not-is_empty-clause-makes
returns-then-not-is_empty-clause-makes c =
    let old = c.args.work.now in
    let now = c.loop-name.work in
    let new = c.delete_named.new.self in
    let i = c.loop-name.invariant in
    let gone = c.delete_named.ensures.gone in
    let forms = ap (λ (w : Contents). w.forms) gone in
    let names = parted-texts now c.loop-name.arguments i.left in
    left old new (texts old c.args.arguments) c.requires.sound
    (sym i.leaves ∙ ap (λ ts. unnamed ts now.forms) (sym names) ∙ sym forms)
    (only-forms old now new _ i.same gone)

pub returns-else-not-is_empty-clause-makes : goal.returns-else-not-is_empty-clause-makes
returns-else-not-is_empty-clause-makes c =
    let i = c.loop-name.invariant in
    all-taken c.args.work.now c.loop-name.work _ c.loop-name.arguments c.requires.sound (grind (arith, c.is_empty-2.ensures)) i.leaves i.same
