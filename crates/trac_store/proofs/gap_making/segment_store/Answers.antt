use Rattle.trac_store.proofs.Imports.{◌≡◌, ◌++◌, take, drop, slice_range, sym, ◌∙◌, arith, append_assoc, nil_from_length, split_between, part_text}
use Rattle.trac_store.proofs.FlatLemmas.{length-part_text}
use Rattle.trac_store.proofs.gap_making.segment_store.Goals as goal

pub returns-then-text-clause-after : goal.returns-then-text-clause-after
returns-then-text-clause-after c =
    let s = c.args.space.now in
    let text = part_text s.neutral c.args.text.from c.args.text.to in
    let null = nil_from_length text (omega (arith, length-part_text s.neutral c.args.text.from c.args.text.to c.requires.text_part.within, c.if-text.true)) in
    let all : take c.args.body.from s.store ++ slice_range s.store c.args.body.from c.args.body.to ++ drop c.args.body.to s.store ≡ s.store = append_assoc (take c.args.body.from s.store) (slice_range s.store c.args.body.from c.args.body.to) (drop c.args.body.to s.store) ∙ sym (split_between s.store c.args.body.from c.args.body.to c.requires.body.order) in
    rw (null, all)
