-- The blanks and the layout at the ends of texts.
use Rattle.std.proofs.Common.{◌≡◌, ◌∙◌, ◌≤◌, ◌<◌, ◌+◌, ◌-◌, ℕ, Bool, zero, suc, true, false, refl, List, [], ◌∷◌}
use Rattle.std.proofs.Common.{length, take, get_or, sym, ap, subst, arith}
use Rattle.std.proofs.Math.Seq.{take-length}
use Rattle.std.proofs.lemmas.List.{get_or-take, length-take-le, take-take}
use Rattle.std.specs.Prelude.{if◌then◌else◌}
use Rattle.trac_space.specs.declared.cell.Cell.{Cell}
use Rattle.trac_space.specs.declared.cell.Cell.TheVariants.{Byte}
use Rattle.trac_warnings.specs.Blanks.{before_blanks, end_behind, is_blank}

solid_end : (end place : ℕ) (cell : Cell) (cells : List Cell)
    → is_blank (get_or (cell ∷ cells) (length cells) (Byte 0)) ≡ false
    → end_behind end place (cell ∷ cells) ≡ place + suc (length cells)
solid_end end place cell [] solid = ap (λ t. if t then end else place + 1) solid ∙ omega arith
solid_end end place cell (next ∷ cells) solid =
    solid_end (if is_blank cell then end else place + 1) (place + 1) next cells solid ∙ omega arith

-- no cell stands behind the last one that is no blank and no layout
pub solid : (cells : List Cell) → 1 ≤ length cells → is_blank (get_or cells (length cells - 1) (Byte 0)) ≡ false
    → cells ≡ before_blanks cells
solid [] some last = absurd (omega (some, arith))
solid (cell ∷ cells) some last =
    let behind : length (cell ∷ cells) - 1 ≡ length cells = omega arith in
    let end : end_behind 0 0 (cell ∷ cells) ≡ length (cell ∷ cells) =
    solid_end 0 0 cell cells (subst (λ n. is_blank (get_or (cell ∷ cells) n (Byte 0)) ≡ false) behind last)
    ∙ omega arith in
    sym (ap (λ n. take n (cell ∷ cells)) end ∙ take-length (cell ∷ cells))

-- the end of a text is no further than its last cell
end-within : (end place : ℕ) (cells : List Cell) → end ≤ place → end_behind end place cells ≤ place + length cells
end-within end place [] few = omega (arith, few)
end-within end place (cell ∷ cells) few =
    omega (arith, end-within (if is_blank cell then end else place + 1) (place + 1) cells (chosen (is_blank cell)))
  where
    chosen : (b : Bool) → (if b then end else place + 1) ≤ place + 1
    chosen true = omega (arith, few)
    chosen false = omega arith

end-before : (end place n : ℕ) (cells : List Cell) → n < length cells → is_blank (get_or cells n (Byte 0)) ≡ true
    → end_behind end place (take (suc n) cells) ≡ end_behind end place (take n cells)
end-before end place n [] less blank = absurd (omega (arith, less))
end-before end place zero (cell ∷ cells) less blank = ap (λ b. if b then end else place + 1) blank
end-before end place (suc n) (cell ∷ cells) less blank =
    end-before (if is_blank cell then end else place + 1) (place + 1) n cells (omega (arith, less)) blank

-- a blank at the end of a text says nothing of what stands before the blanks there
pub blank-last : (n : ℕ) (cells : List Cell) → n < length cells → is_blank (get_or cells n (Byte 0)) ≡ true
    → before_blanks (take (suc n) cells) ≡ before_blanks (take n cells)
blank-last n cells less blank =
    let end = end_behind 0 0 (take n cells) in
    let within : end ≤ n = omega (
      arith,
      end-within 0 0 (take n cells) (omega arith),
      length-take-le n cells
          (omega (arith, less)),
    ) in
    ap (λ e. take e (take (suc n) cells)) (end-before 0 0 n cells less blank)
    ∙ take-take end (suc n) cells (omega (arith, within)) ∙ sym (take-take end n cells within)

-- the front of a text whose last cell is no blank is that before its blanks
pub solid-front : (end : ℕ) (cells : List Cell) → 1 ≤ end → end ≤ length cells
    → is_blank (get_or cells (end - 1) (Byte 0)) ≡ false
    → take end cells ≡ before_blanks (take end cells)
solid-front end cells some few last =
    let long = length-take-le end cells few in
    solid (take end cells) (omega (arith, long, some))
    (ap is_blank (ap (λ n. get_or (take end cells) (n - 1) (Byte 0)) long
    ∙ get_or-take end cells (end - 1) (Byte 0) (omega (arith, some))) ∙ last)
