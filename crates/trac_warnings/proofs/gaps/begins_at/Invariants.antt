use Rattle.std.proofs.Common.{◌≡◌, drop}
use Rattle.trac_space.specs.Texts.{text_of_cells}
use Rattle.trac_warnings.specs.Gaps.{begins}
use Rattle.trac_warnings.proofs.gaps.begins_at.Given as goal

-- the items from the place on begin with the text exactly if the items that are left begin with what is left of the text
abbrev pub invariant-loop-behind : goal.invariant-loop-behind
invariant-loop-behind l =
    begins (text_of_cells l.rest) (drop l.behind l.form.body) ≡ begins (text_of_cells l.text) (drop l.place l.form.body)
