-- The memory that cells stand for.
use Rattle.std.specs.Prelude.{ℕ, ◌+◌, Bool, true, false, List, [], ◌∷◌, ◌++◌, drop, slice_index_or}
use Rattle.trac_language.specs.declared.mode.Mode.{Mode}
use Rattle.trac_language.specs.declared.mode.Mode.TheVariants.{Active, Neutral as NeutralMode}
use Rattle.trac_language.specs.Text.{Text}
use Rattle.trac_language.specs.Form.{Form}
use Rattle.trac_language.specs.State.{OpenCall, Memory, begin_argument, begin_call}
use Rattle.trac_space.specs.declared.cell.Cell.{Cell}
use Rattle.trac_space.specs.declared.cell.Cell.TheVariants.{Byte, Call, Comma, Gap, Head}
use Rattle.trac_space.specs.Texts.{text_of_cells}
use Rattle.trac_forms.specs.Contents.{Contents}

-- the neutral string: the base text, and the calls that are open, innermost first
pub record Neutral : Type 0 where
  pub base : Text
  pub calls : List OpenCall

abbrev pub no_neutral : Neutral
no_neutral = record { base = []; calls = [] }

-- a neutral string with a character at the end of the last argument of its innermost call, or of the base
-- text if no call is open
abbrev pub with_character : List OpenCall → ℕ → Neutral → Neutral
with_character [] c n = record n { base = n.base ++ c ∷ [] }
with_character (call ∷ outer) c n =
    record n { calls = record call { last = call.last ++ c ∷ [] } ∷ outer }

-- a neutral string with a comma mark at its end, which begins an argument; outside all calls, where
-- none ever stands, it counts as a character
abbrev pub with_comma : List OpenCall → Neutral → Neutral
with_comma [] n = record n { base = n.base ++ 44 ∷ [] }
with_comma (call ∷ outer) n = record n { calls = begin_argument (call ∷ outer) }

-- a neutral string with one more cell; a gap or a head,
-- which never stand there, count as characters
abbrev pub with_cell : Neutral → Cell → Neutral
with_cell n (Byte c) = with_character n.calls c n
with_cell n (Call mode _) = record n { calls = begin_call mode n.calls }
with_cell n Comma = with_comma n.calls n
with_cell n (Gap _) = with_character n.calls 0 n
with_cell n (Head _) = with_character n.calls 0 n

-- a neutral string with more cells at its end
abbrev pub with_cells : Neutral → List Cell → Neutral
with_cells n [] = n
with_cells n (cell ∷ cells) = with_cells (with_cell n cell) cells

-- the neutral string that cells stand for
abbrev pub neutral_of : List Cell → Neutral
neutral_of cells = with_cells no_neutral cells

abbrev pub memory_with : Neutral → Text → List Form → ℕ → Memory
memory_with n active forms meta =
    record { active = active; base = n.base; calls = n.calls; forms = forms; meta = meta }

-- the memory of a meta character and the contents of a workspace
abbrev pub memory_of : ℕ → Contents → Memory
memory_of meta w = memory_with (neutral_of w.neutral) (text_of_cells w.active) w.forms meta

-- a character before the first of the texts
abbrev pub in_first : ℕ → List Text → List Text
in_first c [] = (c ∷ []) ∷ []
in_first c (text ∷ texts) = (c ∷ text) ∷ texts

-- the texts that comma marks part, with one more cell before the first
abbrev pub with_first : Cell → List Text → List Text
with_first (Byte c) texts = in_first c texts
with_first (Call _ _) texts = in_first 0 texts
with_first Comma texts = [] ∷ texts
with_first (Gap _) texts = in_first 0 texts
with_first (Head _) texts = in_first 0 texts

-- the texts of cells that comma marks part
abbrev pub texts_of : List Cell → List Text
texts_of [] = [] ∷ []
texts_of (cell ∷ cells) = with_first cell (texts_of cells)

-- the mode of a call mark
abbrev pub mode_of : Cell → Mode
mode_of (Byte _) = Active
mode_of (Call mode _) = mode
mode_of Comma = Active
mode_of (Gap _) = Active
mode_of (Head _) = Active

-- the mode of the call whose mark stands at a place
abbrev pub mode_at : List Cell → ℕ → Mode
mode_at neutral place = mode_of (slice_index_or neutral place (Byte 0))

abbrev pub is_active_mode : Mode → Bool
is_active_mode Active = true
is_active_mode NeutralMode = false

-- the arguments of the innermost call, whose mark stands at a place
abbrev pub arguments_at : List Cell → ℕ → List Text
arguments_at neutral place = texts_of (drop (place + 1) neutral)
