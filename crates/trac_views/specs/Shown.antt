-- Texts as the views show them.
use Rattle.std.specs.Prelude.{ℕ, ◌-◌, ◌/◌, ◌==◌, ◌&&◌, ◌||◌, Bool, false, not, List, [], ◌∷◌, ◌++◌}
use Rattle.std.specs.Prelude.{◌+◌, get_or, length, take, drop, nat_le, nat_lt, codes, if◌then◌else◌}
use Rattle.std.specs.Str.{is_utf8}
use Rattle.trac_language.specs.declared.mode.Mode.{Mode}
use Rattle.trac_language.specs.declared.mode.Mode.TheVariants.{Active, Neutral}
use Rattle.trac_space.specs.declared.cell.Cell.{Cell}
use Rattle.trac_space.specs.declared.cell.Cell.TheVariants.{Byte, Call, Comma, Gap, Head}
use Rattle.trac_views.specs.Lines.{byte_text}

-- whether the first n bytes are UTF-8
unfoldable pub is_whole : ℕ → List ℕ → Bool
is_whole n bytes = nat_le n (length bytes) && is_utf8 (take n bytes)

-- whether bytes begin with a control of the direction of writing
abbrev pub turns_direction : List ℕ → Bool
turns_direction [] = false
turns_direction (a ∷ []) = false
turns_direction (a ∷ b ∷ []) = (a == 216) && (b == 156)
turns_direction (a ∷ b ∷ c ∷ bytes) =
    ((a == 216) && (b == 156))
    || ((a == 226) && (b == 128)
    && ((c == 142) || (c == 143) || (nat_le 170 c && nat_le c 174)))
    || ((a == 226) && (b == 129) && nat_le 166 c && nat_le c 169)

-- whether bytes can begin with a character beyond ASCII that is no control character
abbrev pub begins_character : List ℕ → Bool
begins_character [] = false
begins_character (a ∷ []) = nat_le 128 a
begins_character (a ∷ b ∷ bytes) =
    nat_le 128 a && not (a == 194 && nat_lt b 160) && not (turns_direction (a ∷ b ∷ bytes))

-- how many bytes the first character has, if that is a whole character of UTF-8 beyond ASCII and no
-- control character; else 0
abbrev pub character_length : List ℕ → ℕ
character_length bytes =
    if not (begins_character bytes) then 0
    else (if is_whole 2 bytes then 2
    else (if is_whole 3 bytes then 3
    else (if is_whole 4 bytes then 4
    else 0)))

-- how many of the bytes go on or begin a whole character: `left` of one that was begun, if that isn't 0;
-- else all of the character that begins there
unfoldable pub left_at : ℕ → List ℕ → ℕ
left_at left bytes = if left == 0 then character_length bytes else left

-- a byte as it is, if it is one of the `left` bytes of a whole character, or else escaped
abbrev pub shown_byte : ℕ → ℕ → List ℕ
shown_byte left b = if left == 0 then byte_text b else b ∷ []

-- a text as it is shown, whose first `left` bytes are the rest of a whole character
abbrev pub shown_from : ℕ → List ℕ → List ℕ
shown_from left [] = []
shown_from left (b ∷ bytes) =
    shown_byte (left_at left (b ∷ bytes)) b ++ shown_from (left_at left (b ∷ bytes) - 1) bytes

-- a text: visible ASCII and whole characters of UTF-8 as they are, the rest escaped
abbrev pub shown_text : List ℕ → List ℕ
shown_text bytes = shown_from 0 bytes

-- whether a text of `len` bytes needs no cut to a width; a width of 0 sets no bound
abbrev pub fits : ℕ → ℕ → Bool
fits width len = (width == 0) || nat_le len width

-- whether the byte at a place goes on a character of UTF-8
abbrev pub goes_on : List ℕ → ℕ → Bool
goes_on bytes place =
    nat_lt place (length bytes)
    && nat_le 128 (get_or bytes place 0) && nat_lt (get_or bytes place 0) 192

-- the place before, if the byte at the place goes on a character; below, the place behind
abbrev pub step_back : List ℕ → ℕ → ℕ
step_back bytes place = if goes_on bytes place then place - 1 else place

abbrev pub step_on : List ℕ → ℕ → ℕ
step_on bytes place = if goes_on bytes place then place + 1 else place

-- where the head of a text that is cut ends, and where its tail begins: a character has at most
-- three bytes that go on
unfoldable pub end_of_head : List ℕ → ℕ → ℕ
end_of_head bytes place = step_back bytes (step_back bytes (step_back bytes place))

unfoldable pub begin_of_tail : List ℕ → ℕ → ℕ
begin_of_tail bytes place = step_on bytes (step_on bytes (step_on bytes place))

-- a text that is cut to a width, in bytes
abbrev pub cut_text : ℕ → List ℕ → List ℕ
cut_text width bytes =
    if fits width (length bytes) then shown_text bytes
    else (shown_text (take (end_of_head bytes (width - width / 2)) bytes) ++ codes " .. "
    ++ shown_text (drop (begin_of_tail bytes (length bytes - width / 2)) bytes))

-- the bytes of a cell of the neutral string: a comma that parts two arguments in angle brackets
abbrev pub raw_cell : Cell → List ℕ
raw_cell (Byte b) = b ∷ []
raw_cell (Call _ _) = []
raw_cell Comma = codes "<,>"
raw_cell (Gap _) = []
raw_cell (Head _) = []

-- the characters with which a call of a mode begins
abbrev pub opening_text : Mode → List ℕ
opening_text Active = codes "#("
opening_text Neutral = codes "##("
