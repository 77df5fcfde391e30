use Rattle.std.proofs.Common.{◌+◌, ◌≡◌}
use Rattle.trac_language.specs.Store.{cells}
use Rattle.trac_image.proofs.loading.cells_of_forms.Given as goal

-- the cells of what is left are still to be added
abbrev pub invariant-loop-form : goal.invariant-loop-form
invariant-loop-form l = l.all + cells l.form-iterator ≡ cells l.fn.forms
