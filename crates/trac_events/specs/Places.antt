-- Places in the input.
use Rattle.std.specs.Prelude.{ℕ, ◌+◌, ◌-◌, ◌^◌, ◌==◌, ◌&&◌, [], ◌∷◌, min, nat_le, nat_lt}
use Rattle.std.specs.Prelude.{if◌then◌else◌}
use Rattle.trac_language.specs.Text.{Text}
use Rattle.trac_language.specs.Rule.{is_layout}
use Rattle.trac_events.specs.declared.place.Place.{Place}

-- the first place of the input
abbrev pub first_place : Place
first_place = record { line = 1; column = 1 }

-- one more, as far as 64 bits go
abbrev pub one_more : ℕ → ℕ
one_more n = min (n + 1) (2 ^ 64 - 1)

-- the place behind a byte at a place: a line feed begins a line, and of a
-- character of UTF-8 the first byte alone counts
abbrev pub behind : Place → ℕ → Place
behind place byte =
    if byte == 10 then record { line = one_more place.line; column = 1 }
    else (if nat_le 128 byte && nat_lt byte 192 then place
    else record place { column = one_more place.column })

-- the place behind a text that stands at a place
abbrev pub behind_text : Place → Text → Place
behind_text place [] = place
behind_text place (c ∷ text) = behind_text (behind place c) text

-- the place behind the layout at the head of a text that stands at a place
abbrev pub behind_layout : Place → Text → Place
behind_layout place [] = place
behind_layout place (c ∷ text) = if is_layout c then behind_layout (behind place c) text else place
