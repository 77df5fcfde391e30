use Rattle.trac_core.proofs.Imports.{◌≡◌, ◌<◌, ◌≤◌, ◌∙◌, ap, sym, arith, slice_get, Some, drop-drop, drop, arguments_at}
use Rattle.trac_functions.proofs.ArgumentLemmas.{none-left}
use Rattle.trac_functions.proofs.FormLemmas.{next-left}
use Rattle.trac_functions.specs.Flat.{memory_of}
use Rattle.trac_core.proofs.ListedTexts.{get-none, get-first}
use Rattle.trac_core.proofs.Performed.{texts-innermost, uncalled-texts}
use Rattle.trac_core.proofs.machine.arguments.performed_argument.Goals as goal

pub returns-in_default-clause-argument : goal.returns-in_default-clause-argument
returns-in_default-clause-argument c = λ meta. ap (λ texts. slice_get texts c.args.which) (uncalled-texts (memory_of meta c.args.work.now) (c.in_default.ensures.call meta))

pub returns-then-is_empty-clause-argument : goal.returns-then-is_empty-clause-argument
returns-then-is_empty-clause-argument c = λ meta.
    let closed = c.in-Some.ensures.call in
    let l = c.loop-before in
    let w = c.args.work.now in
    let past : l.arguments.end < l.arguments.from = grind (arith, c.is_empty.ensures) in
    let none = sym l.invariant.1 ∙ none-left w l.arguments past in
    ap (λ texts. slice_get texts c.args.which) (texts-innermost w c.in-Some.place meta closed.0 closed.1)
    ∙ get-none (arguments_at w.neutral c.in-Some.place) l._before c.args.which none (omega arith)

pub loop-before-preserved : goal.loop-before-preserved
loop-before-preserved c =
    let l = c.loop-before in
    (c.next.ensures.left, c.next.ensures.rest ∙ ap (drop 1) l.invariant.1 ∙ drop-drop 1 l._before (arguments_at c.args.work.now.neutral c.in-Some.place))

pub returns-then-is_empty-2-clause-argument : goal.returns-then-is_empty-2-clause-argument
returns-then-is_empty-2-clause-argument c = λ meta.
    let closed = c.in-Some.ensures.call in
    let l = c.loop-before in
    let w = c.args.work.now in
    let past : l.arguments.end < l.arguments.from = grind (arith, c.is_empty-2.ensures) in
    let none = sym l.invariant.1 ∙ none-left w l.arguments past in
    ap (λ texts. slice_get texts c.args.which) (texts-innermost w c.in-Some.place meta closed.0 closed.1)
    ∙ get-none (arguments_at w.neutral c.in-Some.place) l._before c.args.which none (omega arith)

pub returns-clause-argument : goal.returns-clause-argument
returns-clause-argument c = λ meta.
    let closed = c.in-Some.ensures.call in
    let l = c.loop-before in
    let w = c.args.work.now in
    let some : l.arguments.from ≤ l.arguments.end = grind (arith, c.is_empty-2.ensures) in
    let all : c.args.which ≡ l._before = omega arith in
    let left =
    ap (λ n. drop n (arguments_at w.neutral c.in-Some.place)) all ∙ sym l.invariant.1
    ∙ next-left w l.arguments c.next-2.new.self some c.next-2.ensures.rest in
    ap (λ texts. slice_get texts c.args.which) (texts-innermost w c.in-Some.place meta closed.0 closed.1)
    ∙ get-first (arguments_at w.neutral c.in-Some.place) c.args.which _ _ left
    ∙ ap Some (sym (c.text.ensures.text ∙ c.next-2.ensures.text))
