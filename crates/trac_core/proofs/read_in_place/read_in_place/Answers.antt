use Rattle.trac_core.proofs.Imports.{◌<◌, ◌≤◌, length, ◌∷◌, [], refl, subst, append-nil, arith, InputEnded, InputFailed, Workspace, Reads}
use Rattle.trac_core.proofs.ReadInPlace.{in-place-to-meta, in-place-some, in-place-none, in-place-failed, in-place-full, in-place-takes, behind-bytes, in-place-goes, in-place-ends}
use Rattle.trac_core.proofs.read_in_place.read_in_place.Goals as goal

pub scan_string-requires-clause-bytes : goal.scan_string-requires-clause-bytes
scan_string-requires-clause-bytes g c =
    let r = c.in-Meta.ensures.reads in
    let reads = subst (λ from. Reads c.args.meta from c.read_text.new.work r.0) c.set_strings.ensures.set r.1.0 in
    behind-bytes c.args.work.now c.read_text.new.work r.0 c.args.meta c.requires.sound c.read_text.ensures.sound reads

pub scan_string-requires-in-Ended-clause-bytes : goal.scan_string-requires-in-Ended-clause-bytes
scan_string-requires-in-Ended-clause-bytes g c =
    let r = c.in-Ended.ensures.reads in
    let reads = subst (λ from. Reads c.args.meta from c.read_text.new.work r.0) c.set_strings.ensures.set r.1.0 in
    behind-bytes c.args.work.now c.read_text.new.work r.0 c.args.meta c.requires.sound c.read_text.ensures.sound reads

pub returns-in-Meta-clause-reads : goal.returns-in-Meta-clause-reads
returns-in-Meta-clause-reads g c =
    let w = c.args.work.now in
    let p = c.read_text.new.work in
    let r = c.in-Meta.ensures.reads in
    let text = r.0 in
    let reads = subst (λ from. Reads c.args.meta from p text) c.set_strings.ensures.set r.1.0 in
    let after = c.read_text.ensures.sound in
    in-place-goes g.I.Source.tells g.I.Source.stream g.I.Source.failure_count c.scan_string.result w p text c.args.most c.args.meta c.requires.sound after reads c.args.source.now c.read_text.new.source c.scan_string.new.work
    c.scan_string.ensures.outcome c.scan_string.ensures.leaves
    (λ told written. in-place-to-meta w p text c.args.meta c.requires.sound after reads _ _ written (r.1.1 told).0 (r.1.1 told).1)
    (λ told. in-place-takes w p text c.args.meta c.requires.sound after reads (c.args.meta ∷ []) _ _ (omega arith) (r.1.1 told).0)
    c.in-Meta.ensures.told c.in-Meta.ensures.counts

pub returns-in-Ended-clause-reads : goal.returns-in-Ended-clause-reads
returns-in-Ended-clause-reads g c =
    let w = c.args.work.now in
    let p = c.read_text.new.work in
    let r = c.in-Ended.ensures.reads in
    let text = r.0 in
    let reads = subst (λ from. Reads c.args.meta from p text) c.set_strings.ensures.set r.1.0 in
    let after = c.read_text.ensures.sound in
    let some : 4 < length p.neutral = omega (arith, c.neutral_len.ensures.value, c.if-neutral_len-gt-STRING_FROM.true) in
    in-place-goes g.I.Source.tells g.I.Source.stream g.I.Source.failure_count c.scan_string-in-Ended.result w p text c.args.most c.args.meta c.requires.sound after reads c.args.source.now c.read_text.new.source c.scan_string-in-Ended.new.work
    c.scan_string-in-Ended.ensures.outcome c.scan_string-in-Ended.ensures.leaves
    (λ told written. in-place-some w p text c.args.meta c.requires.sound after reads _ _ written some (r.1.1 told).0 (r.1.1 told).1 (r.1.1 told).2)
    (λ told. in-place-takes w p text c.args.meta c.requires.sound after reads [] _ _ (omega arith) (rw ((r.1.1 told).1, append-nil text) (r.1.1 told).0))
    c.in-Ended.ensures.told c.in-Ended.ensures.counts

pub returns-in-Ended-2-clause-reads : goal.returns-in-Ended-2-clause-reads
returns-in-Ended-2-clause-reads g c =
    let w = c.args.work.now in
    let p = c.read_text.new.work in
    let r = c.in-Ended.ensures.reads in
    let text = r.0 in
    let reads = subst (λ from. Reads c.args.meta from p text) c.set_strings.ensures.set r.1.0 in
    let after = c.read_text.ensures.sound in
    let none : length p.neutral ≤ 4 = omega (arith, c.neutral_len.ensures.value, c.if-neutral_len-gt-STRING_FROM.false) in
    in-place-ends g.I.Source.tells g.I.Source.stream g.I.Source.failure_count _ w p text c.args.most c.args.meta c.requires.sound after reads c.args.source.now c.read_text.new.source InputEnded c.used.result
    refl
    (λ told written. rw c.used.ensures.value (in-place-none w p text c.args.meta c.requires.sound after reads _ _ written none (r.1.1 told).0 (r.1.1 told).1))
    (λ told. in-place-takes w p text c.args.meta c.requires.sound after reads [] _ _ (omega arith) (rw ((r.1.1 told).1, append-nil text) (r.1.1 told).0))
    c.in-Ended.ensures.told c.in-Ended.ensures.counts (λ e. absurd cc) refl

pub returns-in-Failed-clause-reads : goal.returns-in-Failed-clause-reads
returns-in-Failed-clause-reads g c =
    let w = c.args.work.now in
    let p = c.read_text.new.work in
    let r = c.in-Failed.ensures.reads in
    let text = r.0 in
    let reads = subst (λ from. Reads c.args.meta from p text) c.set_strings.ensures.set r.1.0 in
    let after = c.read_text.ensures.sound in
    in-place-ends g.I.Source.tells g.I.Source.stream g.I.Source.failure_count _ w p text c.args.most c.args.meta c.requires.sound after reads c.args.source.now c.read_text.new.source InputFailed _
    refl
    (λ told written. rw c.used-in-Failed.ensures.value (in-place-failed w p text c.args.meta c.requires.sound after reads _ _ written (r.1.1 told).0 (r.1.1 told).1))
    (λ told. in-place-takes w p text c.args.meta c.requires.sound after reads [] _ _ (omega arith) (r.1.1 told).0)
    c.in-Failed.ensures.told c.in-Failed.ensures.counts (λ e. absurd cc) refl

pub returns-in-Full-clause-reads : goal.returns-in-Full-clause-reads
returns-in-Full-clause-reads g c =
    let w = c.args.work.now in
    let p = c.read_text.new.work in
    let r = c.in-Full.ensures.reads in
    let text = r.0 in
    let reads = subst (λ from. Reads c.args.meta from p text) c.set_strings.ensures.set r.1.0 in
    let after = c.read_text.ensures.sound in
    in-place-ends g.I.Source.tells g.I.Source.stream g.I.Source.failure_count _ w p text c.args.most c.args.meta c.requires.sound after reads c.args.source.now c.read_text.new.source Workspace 0
    refl
    (λ told written. let gave = r.1.1 told in in-place-full w p text c.args.meta c.requires.sound after reads _ _ written gave.0 (c.in-Full.ensures.full refl) gave.1.0 gave.1.1)
    (λ told. let gave = r.1.1 told in in-place-takes w p text c.args.meta c.requires.sound after reads (gave.0 ∷ []) _ _ (omega arith) gave.1.0)
    c.in-Full.ensures.told c.in-Full.ensures.counts (λ e. absurd cc) refl
