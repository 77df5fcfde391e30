use Rattle.std.proofs.Common.{◌≡◌, ◌++◌, drop, map}
use Rattle.trac_warnings.specs.Performed.{gaps_behind}
use Rattle.trac_warnings.specs.Watched.{Kept, said}
use Rattle.trac_warnings.proofs.segmented.look_at_texts.Given as goal

-- the earlier warnings stay; those so far, and those of the cells that are left, are all
abbrev pub invariant-loop-cell : goal.invariant-loop-cell
invariant-loop-cell g l =
    record {
      kept : Kept l.initial.warnings.items l.warnings.items;
      said : map said l.warnings.items ++ gaps_behind l.k (drop l.cell-index l.ending.arguments.now) l.items l.ending
          ≡ map said l.initial.warnings.items ++ gaps_behind 0 l.ending.arguments.now l.items l.ending;
    }
