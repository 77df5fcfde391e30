use Rattle.trac_forms.proofs.Imports.{◌∙◌, sym}
use Rattle.trac_store.proofs.Finding.{shown-text}
use Rattle.trac_forms.proofs.work.Work.is_named.Goals as goal

pub returns : goal.returns
returns c =
    let is = shown-text _ _ (c.store_part.ensures ∙ c.heads_of-heads.ensures.name_cells) in
    rw (← c.self.view_is) (λ same. sym is ∙ c.is_text.ensures.0 same, λ same. c.is_text.ensures.1 (is ∙ same))
