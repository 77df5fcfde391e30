use Rattle.trac_core.proofs.Imports.{◌≡◌, ◌++◌, ◌∷◌, [], ◌<◌, length, arith, refl}
use Rattle.trac_core.proofs.ReadCalls.{read-to-meta, null-read, read-some, read-none, read-failed, read-full, reads-take, reads-stands, neutral-reads}
use Rattle.trac_core.proofs.input_output.read_string.Goals as goal

pub returns-in-Meta-clause-answers : goal.returns-in-Meta-clause-answers
returns-in-Meta-clause-answers g c = λ told place written call.
    let reads = c.in-Meta.ensures.reads in
    let gave = reads.1.1 told in
    let same : length c.read_text.new.work.neutral ≡ length c.args.work.now.neutral = omega (arith, c.neutral_len.ensures.value, c.neutral_len-from.ensures.value, c.if-neutral_len-from.true) in
    null-read place c.args.work.now c.read_text.new.work c.args.meta _ _ written same
    (read-to-meta c.args.work.now c.read_text.new.work place c.args.meta reads.0 call reads.1.0 c.read_text.ensures.sound _ _ written gave.0 gave.1)

pub returns-in-Meta-2-clause-answers : goal.returns-in-Meta-2-clause-answers
returns-in-Meta-2-clause-answers g c = λ told place written call.
    let reads = c.in-Meta.ensures.reads in
    let gave = reads.1.1 told in
    read-to-meta c.args.work.now c.read_text.new.work place c.args.meta reads.0 call reads.1.0 c.read_text.ensures.sound _ _ written gave.0 gave.1

pub returns-in-Meta-2-clause-stands : goal.returns-in-Meta-2-clause-stands
returns-in-Meta-2-clause-stands g c = reads-stands _ _ _ _ c.in-Meta.ensures.reads.1.0 c.read_text.ensures.sound

pub returns-in-Meta-clause-takes : goal.returns-in-Meta-clause-takes
returns-in-Meta-clause-takes g c = λ told.
    let reads = c.in-Meta.ensures.reads in
    let gave = reads.1.1 told in
    (reads.0 ++ c.args.meta ∷ [], reads-take c.args.meta c.args.work.now c.read_text.new.work reads.0 reads.1.0 (c.args.meta ∷ []) _ _ c.read_text.ensures.sound (omega arith) gave.0)

pub returns-in-Meta-2-clause-takes : goal.returns-in-Meta-2-clause-takes
returns-in-Meta-2-clause-takes g c = λ told.
    let reads = c.in-Meta.ensures.reads in
    let gave = reads.1.1 told in
    (reads.0 ++ c.args.meta ∷ [], reads-take c.args.meta c.args.work.now c.read_text.new.work reads.0 reads.1.0 (c.args.meta ∷ []) _ _ c.read_text.ensures.sound (omega arith) gave.0)

pub returns-in-Ended-clause-answers : goal.returns-in-Ended-clause-answers
returns-in-Ended-clause-answers g c = λ told place written call.
    let reads = c.in-Ended.ensures.reads in
    let gave = reads.1.1 told in
    let none : length reads.0 ≡ 0 = omega (arith, neutral-reads c.args.meta c.args.work.now c.read_text.new.work reads.0 reads.1.0, c.neutral_len-in-Ended-1.ensures.value, c.neutral_len-from.ensures.value, c.if-neutral_len-from-2.true) in
    read-none c.args.work.now c.read_text.new.work place c.args.meta reads.0 call reads.1.0 c.read_text.ensures.sound c.read_text.new.work refl _ _ written none gave.0 gave.1

pub returns-in-Ended-2-clause-answers : goal.returns-in-Ended-2-clause-answers
returns-in-Ended-2-clause-answers g c = λ told place written call.
    let reads = c.in-Ended.ensures.reads in
    let gave = reads.1.1 told in
    let some : 0 < length reads.0 = omega (arith, neutral-reads c.args.meta c.args.work.now c.read_text.new.work reads.0 reads.1.0, c.neutral_len-in-Ended-1.ensures.value, c.neutral_len-from.ensures.value, c.if-neutral_len-from-2.false) in
    read-some c.args.work.now c.read_text.new.work place c.args.meta reads.0 call reads.1.0 c.read_text.ensures.sound _ _ written some gave.0 gave.1 gave.2

pub returns-in-Ended-2-clause-stands : goal.returns-in-Ended-2-clause-stands
returns-in-Ended-2-clause-stands g c = reads-stands _ _ _ _ c.in-Ended.ensures.reads.1.0 c.read_text.ensures.sound

pub returns-in-Failed-clause-answers : goal.returns-in-Failed-clause-answers
returns-in-Failed-clause-answers g c = λ told place written call.
    let reads = c.in-Failed.ensures.reads in
    let gave = reads.1.1 told in
    read-failed c.args.work.now c.read_text.new.work place c.args.meta reads.0 call reads.1.0 c.read_text.ensures.sound c.read_text.new.work refl _ _ written gave.0 gave.1

pub returns-in-Full-clause-answers : goal.returns-in-Full-clause-answers
returns-in-Full-clause-answers g c = λ told place written call.
    let reads = c.in-Full.ensures.reads in
    let gave = reads.1.1 told in
    read-full c.args.work.now c.read_text.new.work place c.args.meta reads.0 call reads.1.0 c.read_text.ensures.sound c.read_text.new.work _ _ written gave.0 (c.in-Full.ensures.full refl) gave.1.0 gave.1.1

pub returns-in-Full-clause-takes : goal.returns-in-Full-clause-takes
returns-in-Full-clause-takes g c = λ told.
    let reads = c.in-Full.ensures.reads in
    let gave = reads.1.1 told in
    (reads.0 ++ gave.0 ∷ [], reads-take c.args.meta c.args.work.now c.read_text.new.work reads.0 reads.1.0 (gave.0 ∷ []) _ _ c.read_text.ensures.sound (omega arith) gave.1.0)
