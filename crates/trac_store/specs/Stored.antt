-- How forms stand as the cells of a store.
use Rattle.std.specs.Prelude.{◌≡◌, ℕ, suc, ◌+◌, List, [], ◌∷◌, length, ◌≤◌, ◌<◌, map, take, drop, All}
use Rattle.std.specs.Prelude.{Option, Some, None, MatchOption, slice_get, slice_range}
use Rattle.trac_language.specs.declared.item.Item.{Item}
use Rattle.trac_language.specs.declared.item.Item.TheVariants as item
use Rattle.trac_language.specs.Form.{Form}
use Rattle.trac_language.specs.Text.{Text}
use Rattle.trac_language.specs.Store.{NoneNamed}
use Rattle.trac_space.specs.declared.cell.Cell.{Cell}
use Rattle.trac_space.specs.declared.cell.Cell.TheVariants.{Byte, Call, Comma, Gap, Head}
use Rattle.trac_space.specs.Cells.{seen}
use Rattle.trac_space.specs.Texts.{text_of_cells, IsByte}
use Rattle.trac_store.specs.declared.located.Located.{Located}
use Rattle.trac_store.specs.FlatForms.{flat_forms}
use Rattle.trac_store.specs.Forms.{IsNamedAt}

-- the item in a cell, a gap of ordinal 0 if it holds none
abbrev pub item_of : Cell → Item
item_of (Byte b) = item.Byte b
item_of (Call _ _) = item.Gap 0
item_of Comma = item.Gap 0
item_of (Gap ordinal) = item.Gap ordinal
item_of (Head _) = item.Gap 0

-- the forms that cells stand for, of which there are at most n
abbrev pub read_forms : ℕ → List Cell → List Form
read_forms (suc n) (Head name ∷ Head body ∷ Head pointer ∷ cells) =
    record {
      name = text_of_cells (take name cells);
      body = map item_of (take body (drop name cells));
      pointer = pointer;
    } ∷ read_forms n (drop (name + body) cells)
read_forms n cells = []

abbrev pub forms_in : List Cell → List Form
forms_in cells = read_forms (length cells) cells

-- the cells are those of forms and nothing else, and no more than a block has
pub record AreForms (cells : List Cell) : Type 0 where
  pub whole : flat_forms (forms_in cells) ≡ cells
  pub bounded : length cells ≤ 16777216

-- a slice of cells is those of `count` forms and nothing else, and has no more cells than a block
pub record AreCellsOfForms (cells : List Cell) (count : ℕ) : Type 0 where
  pub whole : flat_forms (forms_in (map seen cells)) ≡ map seen cells
  pub bounded : length cells ≤ 16777216
  pub count_is : count ≡ length (forms_in (map seen cells))

-- the cells are those of a name that isn't null
pub record IsName (cells : List Cell) : Type 0 where
  pub bytes : All IsByte (map seen cells)
  pub some : 0 < length cells

-- the cells are those of two texts of the same length
pub record AreTextsOfOneLength (cells text : List Cell) : Type 0 where
  pub cell_bytes : All IsByte cells
  pub bytes : All IsByte text
  pub same : length cells ≡ length text

-- where form k begins among the cells of the forms
abbrev pub start_of : List Form → ℕ → ℕ
start_of forms k = length (flat_forms (take k forms))

-- the number in a head cell
abbrev pub head_number : Option Cell → ℕ
head_number None = 0
head_number (Some (Byte _)) = 0
head_number (Some (Call _ _)) = 0
head_number (Some Comma) = 0
head_number (Some (Gap _)) = 0
head_number (Some (Head n)) = n

abbrev pub head_at : List Cell → ℕ → ℕ
head_at cells i = head_number (slice_get cells i)

-- the form at place k begins at `start`; for the place behind the last form, the cells end there
pub record IsPlace (forms : List Form) (k start : ℕ) : Type 0 where
  pub within : k ≤ length forms
  pub start_is : start ≡ start_of forms k

-- there is a form at place k, and it begins at `start`
pub record IsLocated (forms : List Form) (k start : ℕ) : Type 0 where
  pub within : k < length forms
  pub start_is : start ≡ start_of forms k

-- the item in a cell of the store, a gap of ordinal 0 if there is no cell
abbrev pub item_of_cell : Option Cell → Item
item_of_cell None = item.Gap 0
item_of_cell (Some cell) = item_of cell

abbrev pub stored_item : List Cell → ℕ → Item
stored_item cells i = item_of_cell (slice_get cells i)

-- the form at place k has the name, and begins at `start`
pub record IsFoundAt (forms : List Form) (name : Text) (k start : ℕ) : Type 0 where
  pub named : IsNamedAt forms name k
  pub start_is : start ≡ start_of forms k

-- the answer to a search for a name among the forms from number `from` up to number `end`: a form that has it,
-- or none if none of these has it
abbrev pub IsAnswerBetween : List Form → ℕ → ℕ → Text → Option Located → Type 0
IsAnswerBetween forms from end name answer =
    MatchOption answer
    (NoneNamed name (slice_range forms from end))
    (λ found. IsFoundAt forms name found.number found.start)

-- the answer to a search for a name: a form that has it, or none if no form has it
abbrev pub IsAnswer : List Form → Text → Option Located → Type 0
IsAnswer forms name answer =
    MatchOption answer
    (NoneNamed name forms)
    (λ found. IsFoundAt forms name found.number found.start)
