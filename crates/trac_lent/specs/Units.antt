-- Units of 16 bytes in memory.
use Rattle.std.specs.Prelude.{ℕ}
use mir.Syntax.{Ty, w128, ty_int, ty_array}
use base.Fml.{Fml}
use denote.RawPtr.{Ptr, room_for}

-- n units of 16 bytes, which are aligned to 16
abbrev pub units : ℕ → Ty
units n = ty_array (ty_int w128) n

-- there is room for n units of 16 bytes at a place
abbrev pub units_at : ℕ → Ptr → Fml
units_at n place = room_for (units n) place
