use Rattle.trac_core.proofs.Imports.{◌≡◌, ◌++◌, Some, sym, ap, subst, arith, ◌∙◌, append-nil, PrintString, argument, arguments_at, calls_device, function_at, IsCall, AnswersCall, scene, Null}
use Rattle.std.proofs.lemmas.Grind.{common_steps}
use Rattle.trac_core.proofs.Performing.{answers-nothing}
use Rattle.trac_core.proofs.PrintCalls.{answers-print, null-text}
use Rattle.trac_core.proofs.call.answer_alone.Goals as goal

pub returns-in-None-clause-answers : goal.returns-in-None-clause-answers
returns-in-None-clause-answers c = λ source written.
    let n = c.requires.named in
    answers-nothing (scene c.args.work.now c.args.meta.now source written) c.args.call.place (record { sound = n.sound; innermost = n.innermost; names = sym n.names ∙ c.in-None.is })

pub returns-in-PrintString-clause-answers : goal.returns-in-PrintString-clause-answers
returns-in-PrintString-clause-answers c = λ source written.
    let w = c.args.work.now in
    let place = c.args.call.place in
    let meta = c.args.meta.now in
    let n = c.requires.named in
    let names : function_at w.neutral place ≡ Some PrintString = sym n.names ∙ c.in-Some.is ∙ ap Some c.in-PrintString.is in
    let call : IsCall w place (Some PrintString) = record { sound = n.sound; innermost = n.innermost; names = names } in
    let none = null-text (argument (arguments_at w.neutral place) 1) (sym (ap (λ f. calls_device f (arguments_at w.neutral place)) names) ∙ c.requires.alone) in
    subst (λ put. AnswersCall place (scene w meta source written) (Null 0) (scene w meta source put)) (ap (λ text. written ++ text) none ∙ append-nil written) (answers-print w place call meta source written)

pub returns-in_default-clause-answers : goal.returns-in_default-clause-answers
returns-in_default-clause-answers c = λ source written.
    let n = c.requires.named in
    c.result_alone.ensures.answers c.args.call.place source written
    (record { call = record { sound = n.sound; innermost = n.innermost; names = sym n.names ∙ c.in-Some.is }; rest = n.rest (grind (arith, common_steps)) }) n.scanned
