-- Where what is scanned was written.
use Rattle.std.specs.Prelude.{ℕ, ◌+◌, ◌-◌, ◌^◌, ◌==◌, List, [], ◌∷◌, Option, Some, None, min, nat_lt}
use Rattle.std.specs.Prelude.{if◌then◌else◌}
use Rattle.trac_core.specs.declared.rules.ScanningRule.{ScanningRule}
use Rattle.trac_core.specs.declared.rules.ScanningRule.TheVariants as row
use Rattle.trac_warnings.specs.declared.origin.Origin.{Origin}
use Rattle.trac_warnings.specs.declared.trail.Run.{Run}

-- `count` more than n, as far as 64 bits go
abbrev pub more : ℕ → ℕ → ℕ
more n count = min (n + count) (2 ^ 64 - 1)

-- the origin behind `offset` bytes of the input
abbrev pub in_input : ℕ → Origin
in_input offset = record { offset = offset; form = None; column = 0 }

-- the origin behind `column` characters of the value of a form, whose body was written at `origin`
abbrev pub in_value : Origin → ℕ → ℕ → Origin
in_value origin form column =
    record { offset = origin.offset; form = Some form; column = column }

-- the origin `count` characters on: in the input, or in the value of a form
abbrev pub behind_in : Option ℕ → ℕ → Origin → Origin
behind_in None count origin = record origin { offset = more origin.offset count }
behind_in (Some form) count origin = record origin { column = more origin.column count }

-- the origin `count` characters on, in the same text
abbrev pub behind : ℕ → Origin → Origin
behind count origin = behind_in origin.form count origin

-- a run without its first `count` characters
abbrev pub shortened : ℕ → Run → Run
shortened count run = record { origin = behind count run.origin; len = run.len - count }

-- the origin of the first character of runs, none if there are no runs
abbrev pub first_origin : List Run → Option Origin
first_origin [] = None
first_origin (run ∷ runs) = Some run.origin

-- runs with `len` characters of one origin in front
abbrev pub pushed : Origin → ℕ → List Run → List Run
pushed origin len runs = if len == 0 then runs else record { origin = origin; len = len } ∷ runs

-- runs without their first `count` characters
abbrev pub taken : ℕ → List Run → List Run
taken count [] = []
taken count (run ∷ runs) =
    if nat_lt count run.len then shortened count run ∷ runs else taken (count - run.len) runs

-- an origin, or the place at which the input is read if there is none
abbrev pub origin_at : ℕ → Option Origin → Origin
origin_at read None = in_input read
origin_at read (Some origin) = origin

-- the runs of the active string after a step that left `active` of its `before` cells: the idling procedure is
-- put there, a right parenthesis leaves and a value comes, and by any other rule what was scanned leaves
abbrev pub moved : ScanningRule → (before active : ℕ) → Origin → List Run → List Run
moved row.Idling before active value runs = pushed value active []
moved row.EndOfCall before active value runs = pushed value (active + 1 - before) (taken 1 runs)
moved _ before active value runs = taken (before - active) runs
