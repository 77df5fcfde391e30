-- The texts of cells that follow one another.
use Rattle.trac_space.proofs.Imports.{◌≡◌, List, [], ◌∷◌, ◌++◌, refl, ap, Cell, text_of_cells, character_of}

pub text_of_cells-append : (xs ys : List Cell) → text_of_cells (xs ++ ys) ≡ text_of_cells xs ++ text_of_cells ys
text_of_cells-append [] ys = refl
text_of_cells-append (x ∷ xs) ys = ap (λ t. character_of x ∷ t) (text_of_cells-append xs ys)
