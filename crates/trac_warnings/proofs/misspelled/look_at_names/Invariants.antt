use Rattle.std.proofs.Common.{◌≡◌, ◌++◌, ◌-◌, drop, length, map}
use Rattle.trac_warnings.specs.Misspelled.{misspelled_from, misspelled_warnings}
use Rattle.trac_warnings.specs.Watched.{Kept, said}
use Rattle.trac_warnings.proofs.misspelled.look_at_names.Given as goal

-- the earlier warnings stay; those so far, and those of the text that is left, are all
abbrev pub invariant-loop-place : goal.invariant-loop-place
invariant-loop-place g l =
    record {
      kept : Kept l.initial.warnings.items l.warnings.items;
      said : map said l.warnings.items ++ misspelled_from l.place (drop l.place l.input)
          ≡ map said l.initial.warnings.items ++ misspelled_warnings l.input;
    }

-- the bytes that are left
abbrev pub decreases-loop-place : goal.decreases-loop-place
decreases-loop-place g l = length l.input - l.place
