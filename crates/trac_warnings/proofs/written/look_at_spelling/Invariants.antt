use Rattle.std.proofs.Common.{◌≡◌, ◌++◌, ◌-◌, false, drop, length, map}
use Rattle.trac_warnings.specs.Script.{spelled}
use Rattle.trac_warnings.specs.Watched.{Kept, said}
use Rattle.trac_warnings.proofs.written.look_at_spelling.Given as goal

-- the earlier warnings stay; those so far, and those of the bytes that are left, are all
abbrev pub invariant-loop-place : goal.invariant-loop-place
invariant-loop-place g l =
    record {
      kept : Kept l.initial.warnings.items l.warnings.items;
      said : map said l.warnings.items ++ spelled l.is_reported l.is_behind_sign l.place (drop l.place l.input)
          ≡ map said l.initial.warnings.items ++ spelled false false 0 l.input;
    }

-- the bytes that are left
abbrev pub decreases-loop-place : goal.decreases-loop-place
decreases-loop-place g l = length l.input - l.place
