use Rattle.std.proofs.Common.{arith, option_map, ◌∙◌, sym, ap, map}
use Rattle.std.proofs.lemmas.Option.{slice_get-map, slice_get-get_or, slice_get_past}
use Rattle.trac_language.specs.declared.function.Function.{Function}
use Rattle.trac_language.specs.Text.{Text}
use Rattle.trac_language.specs.Function.{functions}
use Rattle.trac_language.proofs.table.function_at.Goals as goal

abbrev second : Text × Function → Function
second entry = entry.1

pub returns-then-k-lt28 : goal.returns-then-k-lt28
returns-then-k-lt28 c =
    sym (slice_get-get_or (map second functions) c.args.k _ (omega (arith, c.if-k-lt28.true)))
    ∙ slice_get-map second functions c.args.k

pub returns-else-k-lt28 : goal.returns-else-k-lt28
returns-else-k-lt28 c = ap (option_map second) (sym (slice_get_past functions c.args.k (omega (arith, c.if-k-lt28.false))))
