use Rattle.std.proofs.Common.{ap, ◌∙◌, ◌++◌, get_or, refl}
use Rattle.trac_views.specs.Lines.{byte_text, bytes_text}
use Rattle.trac_views.proofs.Texts.{text-more}
use Rattle.trac_views.proofs.lines.push_bytes.Goals as goal

pub loop-byte-preserved : goal.loop-byte-preserved
loop-byte-preserved g c =
    c.in_ok-push_byte.ensures ∙ ap (λ t. t ++ byte_text (get_or c.args.bytes.now c.loop-byte.byte-index 0)) c.loop-byte.invariant
    ∙ text-more byte_text bytes_text refl (λ x xs. refl) c.args.line.now.items c.args.bytes.now c.loop-byte.byte-index 0 c.loop-byte-test.true
