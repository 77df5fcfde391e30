-- A table of forms in the index area, by which a form is found from its name.
use Rattle.std.specs.Prelude.{◌≡◌, ◌≢◌, ℕ, ◌+◌, ◌-◌, ◌*◌, ◌/◌, ◌%◌, ◌^◌, ◌<◌}
use Rattle.std.specs.Prelude.{◌≤◌, Bool, true, false, List, [], ◌∷◌, length, map, take, slice_index_or}
use Rattle.std.specs.Prelude.{set, bit_and, nat_le, nat_lt, if◌then◌else◌, ◌⊎◌}
use Rattle.trac_language.specs.Text.{Text}
use Rattle.trac_language.specs.Form.{Form}
use Rattle.trac_space.specs.declared.cell.Cell.{Cell}
use Rattle.trac_space.specs.declared.cell.Cell.TheVariants.{Byte, Call, Comma, Gap, Head}
use Rattle.trac_space.specs.Cells.{seen}
use Rattle.trac_store.specs.Forms.{name_at}
use Rattle.trac_store.specs.FlatForms.{flat_forms}

-- the characters of a name mixed into a number of 64 bits
abbrev pub mixed : Text → ℕ
mixed [] = 0
mixed (c ∷ name) = (mixed name + c) % 2 ^ 64 * 11400714819323198485 % 2 ^ 64

-- the hash of a name, at which the search for it begins: the upper half of the name's mixed characters
abbrev pub hash : Text → ℕ
hash name = mixed name / 2 ^ 32

-- the table has four quarters: two of slots, one that says where each form begins, and one that
-- says which slot each form has
abbrev pub quarter : List Cell → ℕ
quarter table = length table / 4

abbrev pub slots : List Cell → ℕ
slots table = 2 * quarter table

abbrev pub start_place : List Cell → ℕ → ℕ
start_place table k = slots table + k

abbrev pub home_place : List Cell → ℕ → ℕ
home_place table k = slots table + quarter table + k

abbrev pub cell_at : List Cell → ℕ → Cell
cell_at table i = slice_index_or table i (Byte 0)

-- the slot that a search from the hash `number` looks at after i others
abbrev pub slot : List Cell → ℕ → ℕ → ℕ
slot table number i = bit_and (number + i) (slots table - 1)

-- whether a slot was never used
abbrev pub is_blank : Cell → Bool
is_blank (Byte _) = true
is_blank (Call _ _) = false
is_blank Comma = false
is_blank (Gap _) = false
is_blank (Head _) = false

-- whether no form has a slot
abbrev pub is_open : Cell → Bool
is_open (Byte _) = true
is_open (Call _ _) = true
is_open Comma = true
is_open (Gap _) = true
is_open (Head _) = false

-- a search from the hash `number` comes to slot s after `after` others, none of them blank
pub record IsReached (table : List Cell) (number s after : ℕ) : Type 0 where
  pub within : after < slots table
  pub slot_is : s ≡ slot table number after
  pub before : (i : ℕ) → i < after → is_blank (cell_at table (slot table number i)) ≡ false

-- form k has a slot that is reached from its name, and the table says where the form begins
pub record IsEntry (table : List Cell) (name : Text) (start k s after : ℕ) : Type 0 where
  pub reached : IsReached table (hash name) s after
  pub held : cell_at table s ≡ Head k
  pub begins : cell_at table (start_place table k) ≡ Head start
  pub home : cell_at table (home_place table k) ≡ Head s

abbrev pub HasEntry : List Cell → Text → ℕ → ℕ → Type 0
HasEntry table name start k = (s : ℕ) × ((after : ℕ) × IsEntry table name start k s after)

-- slot s is that of form k, which is one of the first n forms but is not form `gap`
pub record IsHeld (table : List Cell) (n gap k s : ℕ) : Type 0 where
  pub within : k < n
  pub there : k ≢ gap
  pub home : cell_at table (home_place table k) ≡ Head s

-- each of the first n forms but form `gap` has its entry, and each form in a slot is one of these
pub record IsIndexBut
    (table : List Cell) (n gap : ℕ) (name : ℕ → Text) (start : ℕ → ℕ) : Type 0 where
  pub overflow : n ≤ quarter table
  pub all : (k : ℕ) → k < n → k ≢ gap → HasEntry table (name k) (start k) k
  pub only : (s k : ℕ) → s < slots table → cell_at table s ≡ Head k → IsHeld table n gap k s

-- the table is an index of the forms
abbrev pub IsIndex : List Cell → List Form → Type 0
IsIndex table forms =
    IsIndexBut table (length forms) (length forms) (name_at forms)
    (λ k. length (flat_forms (take k forms)))

-- there is no table, or the table is an index of the forms
abbrev pub IsIndexed : List Cell → List Form → Type 0
IsIndexed table forms = 0 < length table → IsIndex table forms

-- the index area is as it was, or dropped
abbrev pub IsKept : List Cell → List Cell → Type 0
IsKept was now = (now ≡ was) ⊎ (now ≡ [])

-- slot s is open, and a search from the hash `number` comes to it
pub record IsOpenAfter (table : List Cell) (number s after : ℕ) : Type 0 where
  pub reached : IsReached table number s after
  pub free : is_open (cell_at table s) ≡ true

abbrev pub IsOpenFor : List Cell → ℕ → ℕ → Type 0
IsOpenFor table number s = (after : ℕ) × IsOpenAfter table number s after

-- the table with form k, which begins at `start`, in slot s
abbrev pub with_entry : List Cell → ℕ → ℕ → ℕ → List Cell
with_entry table s k start =
    set (set (set table s (Head k)) (start_place table k) (Head start))
    (home_place table k) (Head s)

-- the number in a cell of the table, 0 if it has none
abbrev pub number_of : Cell → ℕ
number_of (Byte _) = 0
number_of (Call _ _) = 0
number_of Comma = 0
number_of (Gap _) = 0
number_of (Head n) = n

abbrev pub start_in : List Cell → ℕ → ℕ
start_in table k = number_of (cell_at table (start_place table k))

abbrev pub home_in : List Cell → ℕ → ℕ
home_in table k = number_of (cell_at table (home_place table k))

-- the table has a place for form k, and says which slot it has
pub record HasHome (table : List Cell) (k : ℕ) : Type 0 where
  pub place : k < quarter table
  pub home : home_in table k < slots table

-- the table without form k
abbrev pub buried : List Cell → ℕ → List Cell
buried table k = set table (home_in table k) Comma

-- the table with form k renumbered as form k - 1, beginning `less` cells lower
abbrev pub forward : List Cell → ℕ → ℕ → List Cell
forward table k less = with_entry table (home_in table k) (k - 1) (start_in table k - less)

-- the table with form k beginning `less` cells lower
abbrev pub earlier : List Cell → ℕ → ℕ → List Cell
earlier table k less = set table (start_place table k) (Head (start_in table k - less))

-- where each form begins, once the forms behind form k and
-- before form `end` begin `less` cells earlier
abbrev pub started : ℕ → ℕ → ℕ → (ℕ → ℕ) → ℕ → ℕ
started k end less start =
    λ j. if nat_le j k then start j else (if nat_lt j end then start j - less else start j)

-- the table is an index of n forms, of which those behind
-- form k begin at place `less` or behind it
pub record StartsFrom
    (table : List Cell) (k n less : ℕ) (name : ℕ → Text) (start : ℕ → ℕ) : Type 0 where
  pub index : IsIndexBut table n n name start
  pub within : k < n
  pub front : (j : ℕ) → k < j → j < n → less ≤ start j

abbrev pub HasStartsFrom : List Cell → ℕ → ℕ → ℕ → Type 0
HasStartsFrom table k n less =
    (name : ℕ → Text) × ((start : ℕ → ℕ) × StartsFrom table k n less name start)

-- the table is an index of the forms, and no longer than a block
pub record IsTableOf (forms : List Form) (table : List Cell) : Type 0 where
  pub few : length table ≤ 16777216
  pub index : IsIndex (map seen table) forms
