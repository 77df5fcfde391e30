use Rattle.std.proofs.Common.{◌≡◌, ◌∙◌, ◌++◌, Bool, true, false, List, [], ℕ, ap, append_assoc}
use Rattle.std.specs.Prelude.{if◌then◌else◌}
use Rattle.std.specs.List.{flat_map}
use Rattle.trac_views.specs.CallLines.{form_line, meta_text}
use Rattle.trac_views.proofs.Texts.{on_ok}
use Rattle.trac_tracer.proofs.shown.Shown.add_forms.Goals as goal

-- two texts stand behind a first one, if they are asked for
asked : (forms : Bool) (old one new a b : List ℕ) → forms ≡ true → one ≡ old ++ a → new ≡ one ++ b → new ≡ old ++ (if forms then a ++ b else [])
asked true old one new a b on first last = last ∙ ap (λ (x : List ℕ). x ++ b) first ∙ append_assoc old a b
asked false old one new a b on first last = absurd cc

pub returns-clause-lines : goal.returns-clause-lines
returns-clause-lines g c =
    let memory = c.args.machine.now.memory in
    let width = c.args.self.now.views.width in
    on_ok c.push_meta.result _ _
    (λ last. asked c.args.self.now.views.forms _ _ _ (flat_map (form_line width) memory.forms) (meta_text memory.meta) c.if-not-self.false
    (rw c.forms.ensures at c.in_ok-push_forms.ensures) (rw c.meta.ensures at last)) c.push_meta.ensures
