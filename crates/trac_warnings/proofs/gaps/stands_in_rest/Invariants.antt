use Rattle.std.proofs.Common.{◌≡◌, drop}
use Rattle.trac_space.specs.Texts.{text_of_cells}
use Rattle.trac_language.specs.Form.{after_pointer}
use Rattle.trac_warnings.specs.Gaps.{stands_in}
use Rattle.trac_warnings.proofs.gaps.stands_in_rest.Given as goal

-- the text begins at no place so far
abbrev pub invariant-loop-place : goal.invariant-loop-place
invariant-loop-place l =
    stands_in (text_of_cells l.text) (drop l.place l.form.body) ≡ stands_in (text_of_cells l.text) (after_pointer l.form)
