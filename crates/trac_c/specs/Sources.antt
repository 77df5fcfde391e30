-- What C is told of the source of a call's value.
use Rattle.std.specs.Prelude.{ℕ, ◌==◌, if◌then◌else◌}
use Rattle.trac_events.specs.declared.source.ValueSource.{ValueSource}
use Rattle.trac_events.specs.declared.source.ValueSource.TheVariants as source

-- the kind of a source as a number
abbrev pub kind_number : ValueSource → ℕ
kind_number source.Nothing = 0
kind_number (source.Argument k) = 1
kind_number source.Body = 2
kind_number (source.Part part) = 3
kind_number source.Input = 4
kind_number source.Made = 5

-- the number of the argument that is the value, or is the value if the pointer stays; 0 if there is none
abbrev pub source_argument : ValueSource → ℕ
source_argument (source.Argument k) = k
source_argument (source.Part part) = part.default
source_argument _ = 0

-- how many of the items that the pointer passes over at last are no part of the value
abbrev pub source_sought : ValueSource → ℕ
source_sought (source.Part part) = part.sought
source_sought _ = 0

-- a number of a source
abbrev pub source_number : ℕ → ValueSource → ℕ
source_number which source =
    if which == 0 then kind_number source
    else if which == 1 then source_argument source
    else if which == 2 then source_sought source
    else 0
