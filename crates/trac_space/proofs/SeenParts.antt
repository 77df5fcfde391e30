-- Parts between comma marks, as contracts see them.
use Rattle.trac_space.proofs.Imports.{◌≡◌, ℕ, suc, ◌+◌, ◌-◌, All, List, [], ◌∷◌, ◌++◌, length, take, drop, map, get_or, slice_range, refl, sym, ap, ◌∙◌, arith, subst}
use Rattle.trac_space.proofs.Imports.{take-map, drop-map, map-append, length-map, All-head, All-tail, All-cons, All-nil, Cell, Byte, Call, Comma, Gap, Head, seen, is_comma, HaveCommas, parts_at, numbered_part, part_between, filling, filled}
use Rattle.std.proofs.Math.ListN.{get_or-map as get_or-map-same}
use Rattle.trac_space.specs.Tags.{has_tag, untagged, tag_of}
use Rattle.trac_space.proofs.TaggedCommas.{Takes}
use Rattle.trac_space.proofs.Cleared.{seen-untagged}

comma-seen : (cell : Cell) → is_comma (seen cell) ≡ is_comma cell
comma-seen (Byte b) = refl
comma-seen cell = refl

tag_of-seen : (cell : Cell) → tag_of (seen cell) ≡ tag_of cell
tag_of-seen (Byte b) = refl
tag_of-seen cell = refl

number-seen : (cell : Cell) → has_tag (seen cell) ≡ has_tag cell
number-seen (Byte b) = refl
number-seen cell = refl

parts-seen : (from at : ℕ) (cells : List Cell) → parts_at from at (map seen cells) ≡ parts_at from at cells
parts-seen from at [] = refl
parts-seen from at (cell ∷ cells) = rw (comma-seen cell, parts-seen (at + 1) (at + 1) cells, parts-seen from (at + 1) cells) refl

-- no numbers lie over cells, if none lies over them as they are seen
tagless-one : (cell : Cell) → untagged (seen cell) ≡ seen cell → untagged cell ≡ cell
tagless-one (Gap k) is = absurd cc
tagless-one (Head k) is = absurd cc
tagless-one (Byte b) is = refl
tagless-one (Call mode k) is = refl
tagless-one Comma is = refl

tagless-from_seen : (cells : List Cell) → map untagged (map seen cells) ≡ map seen cells → map untagged cells ≡ cells
tagless-from_seen [] is = refl
tagless-from_seen (cell ∷ cells) is =
    rw (tagless-one cell (ap (λ l. get_or l 0 Comma) is), tagless-from_seen cells (ap (drop 1) is)) refl

-- the places of comma marks lie over cells, if they lie over the cells as these are seen
pub commas-from-seen : (cells part : List Cell) (count : ℕ) → map seen cells ≡ part → HaveCommas part count → HaveCommas cells count
commas-from-seen cells part count shown have =
    let same : map untagged part ≡ map seen (map untagged cells) = ap (map untagged) (sym shown) ∙ sym (seen-untagged cells) in
    let parts : parts_at 0 0 (map untagged part) ≡ parts_at 0 0 (map untagged cells) = ap (parts_at 0 0) same ∙ parts-seen 0 0 (map untagged cells) in
    let rest : map seen (drop count cells) ≡ drop count part = sym (drop-map seen count cells) ∙ ap (drop count) shown in
    record {
      within = omega (arith, have.within, ap length shown, length-map cells seen);
      others = tagless-from_seen (drop count cells) (ap (map untagged) rest ∙ have.others ∙ sym rest);
      all = ap length (sym parts) ∙ have.all;
      tagged = λ k less.
          let read : has_tag (get_or part k Comma) ≡ has_tag (get_or cells k Comma) = ap (λ l. has_tag (get_or l k Comma)) (sym shown) ∙ ap has_tag (get_or-map-same seen cells k Comma) ∙ number-seen (get_or cells k Comma) in
          sym read ∙ have.tagged k less;
      ends = λ k less.
          let read : tag_of (get_or part k Comma) ≡ tag_of (get_or cells k Comma) = ap (λ l. tag_of (get_or l k Comma)) (sym shown) ∙ ap tag_of (get_or-map-same seen cells k Comma) ∙ tag_of-seen (get_or cells k Comma) in
          sym read ∙ have.ends k less ∙ ap (λ p. (numbered_part p (suc k)).1) parts;
    }

pub commas-seen : (cells : List Cell) (count : ℕ) → map seen cells ≡ cells → HaveCommas cells count → HaveCommas (map seen cells) count
commas-seen cells count same have = subst (λ l. HaveCommas l count) (sym same) have

-- a cell takes a number, if it takes one as it is seen
takes-seen : (cell : Cell) → Takes (seen cell) → Takes cell
takes-seen (Byte b) takes = takes
takes-seen cell takes = takes

pub takes-from-seen : (cells : List Cell) → All Takes (map seen cells) → All Takes cells
takes-from-seen [] takes = All-nil Takes
takes-from-seen (cell ∷ cells) takes = All-cons Takes cell cells (takes-seen cell (All-head Takes (seen cell) (map seen cells) takes)) (takes-from-seen cells (All-tail Takes (seen cell) (map seen cells) takes))

numbered-seen : (cell : Cell) → Takes (untagged cell) → seen cell ≡ cell
numbered-seen (Call mode k) takes = absurd cc
numbered-seen (Byte b) takes = refl
numbered-seen Comma takes = refl
numbered-seen (Gap k) takes = refl
numbered-seen (Head k) takes = refl

pub all-numbered-seen : (cells : List Cell) → All Takes (map untagged cells) → map seen cells ≡ cells
all-numbered-seen [] takes = refl
all-numbered-seen (cell ∷ cells) takes = rw (numbered-seen cell (All-head Takes (untagged cell) (map untagged cells) takes), all-numbered-seen cells (All-tail Takes (untagged cell) (map untagged cells) takes)) refl

part-seen : (given : List Cell) (number : ℕ) → map seen (part_between given number) ≡ part_between (map seen given) number
part-seen given number =
    let p = numbered_part (parts_at 0 0 given) number in
    sym (take-map seen (p.1 - p.0) (drop p.0 given))
    ∙ ap (take (p.1 - p.0)) (sym (drop-map seen p.0 given))
    ∙ ap (λ parts. slice_range (map seen given) (numbered_part parts number).0 (numbered_part parts number).1) (sym (parts-seen 0 0 given))

filling-seen : (given : List Cell) (cell : Cell) → map seen (filling given cell) ≡ filling (map seen given) (seen cell)
filling-seen given (Gap k) = part-seen given k
filling-seen given (Byte b) = refl
filling-seen given (Call mode k) = part-seen given 0
filling-seen given Comma = part-seen given 0
filling-seen given (Head k) = part-seen given 0

-- filled cells are seen as the cells that are seen, filled by the cells that are seen
pub filled-seen : (given : List Cell) (cells : List Cell) → map seen (filled given cells) ≡ filled (map seen given) (map seen cells)
filled-seen given [] = refl
filled-seen given (cell ∷ cells) =
    map-append seen (filling given cell) (filled given cells)
    ∙ ap (λ more. more ++ map seen (filled given cells)) (filling-seen given cell)
    ∙ ap (λ more. filling (map seen given) (seen cell) ++ more) (filled-seen given cells)
