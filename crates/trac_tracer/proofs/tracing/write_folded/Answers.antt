use Rattle.std.proofs.Common.{◌≡◌, ◌∙◌, ap, subst, sym, List, ℕ}
use Rattle.std.specs.Prelude.{OnOk}
use Rattle.std.specs.Io.KnownBytes.{Appends}
use Rattle.trac_views.specs.Lines.{folded_text}
use Rattle.trac_views.proofs.Folded.{folded-none}
use Rattle.trac_tracer.proofs.tracing.write_folded.Goals as goal

pub returns-then-columns-eq0 : goal.returns-then-columns-eq0
returns-then-columns-eq0 g c =
    let text = c.args.text.now in
    let whole : folded_text c.args.columns 0 text ≡ text = ap (λ n. folded_text n 0 text) c.if-columns-eq0.true ∙ folded-none text 0 in
    subst (λ (t : List ℕ). OnOk c.write.result (Appends (g.W.Write.contents c.args.output.now) (g.W.Write.contents c.write.new.output) t)) (sym whole) c.write.ensures
