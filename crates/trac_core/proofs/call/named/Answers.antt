use Rattle.trac_core.proofs.Imports.{refl, sym, arith, ◌∙◌, ap, drop}
use Rattle.trac_core.proofs.Performing.{texts-all, named-at}
use Rattle.std.proofs.lemmas.Grind.{common_steps}
use Rattle.trac_core.proofs.call.named.Goals as goal

pub returns-clause-named : goal.returns-clause-named
returns-clause-named c =
    let w = c.args.work.now in let place = c.args.place in
    record {
      sound = c.requires.sound;
      innermost = c.requires.innermost;
      names = sym (named-at w place _ _ c.neutral_len.ensures.value c.requires.innermost c.function.ensures.named refl);
      arguments = c.function.ensures.left;
      rest = λ some. c.function.ensures.rest some ∙ ap (drop 1) (texts-all w.neutral place _ c.neutral_len.ensures.value c.requires.innermost.mark.0);
      scanned = c.function.ensures.scanned ∙ c.is_active_call.ensures;
    }

pub function-requires-clause-arguments : goal.function-requires-clause-arguments
function-requires-clause-arguments c = grind (arith, common_steps)
