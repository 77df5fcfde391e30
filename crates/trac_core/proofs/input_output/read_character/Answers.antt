use Rattle.trac_core.proofs.Imports.{◌∷◌, [], ap, arith, Stream}
use Rattle.trac_core.proofs.ReadCalls.{character-read, character-full, character-ended, character-failed, not-less}
use Rattle.trac_core.proofs.input_output.read_character.Goals as goal

pub returns-then-push_neutral-clause-answers : goal.returns-then-push_neutral-clause-answers
returns-then-push_neutral-clause-answers g c = λ told place meta written call.
    let gives = c.in-Byte.ensures.gives told in
    character-read c.args.work.now place meta call c.push_neutral.new.self c.in-Byte.byte _ _ written c.push_neutral.ensures.sound c.if-push_neutral.ensures.last gives.0 gives.1

pub returns-else-push_neutral-clause-answers : goal.returns-else-push_neutral-clause-answers
returns-else-push_neutral-clause-answers g c = λ told place meta written call.
    let gives = c.in-Byte.ensures.gives told in
    let full = c.if-push_neutral.ensures.pushed in
    character-full c.args.work.now place meta call c.push_neutral.new.self c.in-Byte.byte _ _ written (not-less _ _ full.1) gives.0

pub returns-else-push_neutral-clause-takes : goal.returns-else-push_neutral-clause-takes
returns-else-push_neutral-clause-takes g c = λ told.
    let gives = c.in-Byte.ensures.gives told in
    (c.in-Byte.byte ∷ [], record { consumed = gives.0; few = omega arith })

pub returns-in-End-clause-answers : goal.returns-in-End-clause-answers
returns-in-End-clause-answers g c = λ told place meta written call.
    let gives = c.in-End.ensures.gives told in
    character-ended c.args.work.now place meta call _ _ written gives.0 gives.1

pub returns-in-Failed-clause-answers : goal.returns-in-Failed-clause-answers
returns-in-Failed-clause-answers g c = λ told place meta written call.
    let gives = c.in-Failed.ensures.gives told in
    character-failed c.args.work.now place meta call _ _ written (ap (λ (s : Stream). s.bytes) gives.1) gives.0

pub returns-then-push_neutral-clause-takes : goal.returns-then-push_neutral-clause-takes
returns-then-push_neutral-clause-takes g c = λ told.
    let gives = c.in-Byte.ensures.gives told in
    (c.in-Byte.byte ∷ [], record { consumed = gives.0; few = omega arith })
