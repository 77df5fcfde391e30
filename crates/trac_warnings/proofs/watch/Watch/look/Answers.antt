use Rattle.std.proofs.Common.{◌∙◌, length, subst, sym}
use Rattle.trac_warnings.proofs.Looked.{same_call}
use Rattle.trac_warnings.specs.Looked.{LooksAtEnd, LooksBy}
use Rattle.trac_warnings.proofs.watch.Watch.look.Goals as goal

pub returns-in_ok-look_at_end_of_call-clause-looks : goal.returns-in_ok-look_at_end_of_call-clause-looks
returns-in_ok-look_at_end_of_call-clause-looks g c =
    let watch = c.args.self.now in
    let m = c.args.machine.now in
    let input = c.args.input.now in
    let new = c.look_at_end_of_call.new.self.warnings.items in
    let looks = c.in_ok-look_at_end_of_call.ensures.looks in
    subst (λ r. LooksBy r watch m input new) (sym c.in-EndOfCall.is ∙ c.new-before.ensures.1)
    (subst (λ old. LooksAtEnd watch m input old new) c.clear.ensures.items
    (looks.0, (looks.1.0, same_call _ watch c.clear.new.self c.clear-2.new.self (length c.neutral.result.now) m input _ _ looks.1.1)))
