use Rattle.std.proofs.Common.{◌∙◌, ◌-◌, ap, drop, length, refl}
use Rattle.trac_warnings.proofs.Keeping.{on_ok}
use Rattle.trac_warnings.specs.Looked.{around_of, is_inside, is_last, places_of}
use Rattle.trac_warnings.proofs.watch.Watch.look_at_call.Goals as goal

pub returns-clause-looks : goal.returns-clause-looks
returns-clause-looks g c =
    let neutral = c.neutral-neutral.result.now in
    let given = c.arguments_of-arguments.ensures in
    let begin = c.begin-begin.ensures in
    let commas = c.args.self.now.commas.items in
    on_ok c.look_at_call.result _ _ (λ warns. (
      neutral,
      (
        record {
          arguments = c.arguments_of-arguments.result;
          begin = c.begin-begin.result;
          places = c.places_of.result;
          around = c.arguments_around.result;
          is_inside = c.is_inside-is_inside.result;
          is_last = c.is_last-is_last.result;
          input = c.args.input;
        },
        (
          c.neutral-neutral.ensures,
          (
            record {
              arguments_are = given;
              begin_is = begin;
              places_are = c.places_of.ensures ∙ ap (λ t. drop (length t - c.commas_in.result) t) c.deref.ensures.value ∙ ap (λ n. drop (length commas - n) commas) c.commas_in.ensures ∙ ap (places_of commas) given;
              around_is = c.arguments_around.ensures ∙ ap (λ o. around_of o neutral c.args.mark) c.call_mark.ensures;
              inside_is = c.is_inside-is_inside.ensures ∙ ap (is_inside c.args.self.now) begin;
              last_is = c.is_last-is_last.ensures ∙ ap (λ place. is_last place c.args.input.now) c.origin.ensures;
              input_is = refl;
            },
            warns,
          ),
        ),
      ),
    )) c.look_at_call.ensures.said
