use Rattle.trac_core.proofs.Imports.{Some, [], subst, refl, argument, arguments_at, texts, scene, IsCall}
use Rattle.trac_core.proofs.Performing.{answers-made, self_contained-alone, stands-made, no-failure-made, only-full}
use Rattle.trac_core.proofs.PrintCalls.{answers-halt}
use Rattle.trac_core.proofs.call.result_alone.Goals as goal

pub returns-in-Halt-clause-answers : goal.returns-in-Halt-clause-answers
returns-in-Halt-clause-answers c = λ place source written has scanned.
    let call = subst (λ f. IsCall c.args.work.now place (Some f)) c.in-Halt.is has.call in
    answers-halt c.args.work.now place call c.args.meta.now source written

pub returns-in-ChangeMeta-clause-answers : goal.returns-in-ChangeMeta-clause-answers
returns-in-ChangeMeta-clause-answers c = λ place source written has scanned.
    let call = subst (λ f. IsCall c.args.work.now place (Some f)) c.in-ChangeMeta.is has.call in
    c.change_meta.ensures.answers place source written (record { call = call; rest = has.rest })

pub returns-in_default : goal.returns-in_default
returns-in_default c =
    let w = c.args.work.now in let f = c.args.function in let d = c.in_default in
    let contained = self_contained-alone f c.requires.alone d.not-ChangeMeta d.not-Halt in
    let any = c.value_of.ensures.makes contained [] in
    record {
      answers = λ place source written has scanned. answers-made (scene w c.args.meta.now source written) c.value_of.new.work place f (texts w c.args.arguments) c.args.arguments.scanned has.call.names has.call.innermost contained has.rest
          scanned c.value_of.result (c.value_of.ensures.makes contained (argument (arguments_at w.neutral place) 0));
      stands = stands-made f _ _ w c.value_of.new.work c.value_of.result any;
      quiet = no-failure-made f _ _ w c.value_of.new.work c.value_of.result any;
      stay = λ some. (c.value_of.ensures.unmade (only-full f _ _ w c.value_of.new.work c.value_of.result any some), refl);
      keeps = c.value_of.ensures.keeps;
    }
