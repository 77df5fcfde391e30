use Rattle.trac_store.proofs.Imports.{◌≡◌, ℕ, ◌+◌, ◌-◌, ◌<◌, ◌≤◌, List, length, map, get_or, slice_range, sym, ap, ◌∙◌, subst, arith, false≢true, length-map, get_or-map, Cell, Byte, seen, character_of, IsByte, character-seen, length-between}
use Rattle.trac_store.proofs.Finding.{byte-seen, bytes-of-seen, seen-decides, part-last, part-length}
use Rattle.trac_store.proofs.form_cells.is_text_at.Goals as goal
use Rattle.trac_store.proofs.form_cells.is_text_at.Goals.{then-len-text-via-then-len-text, then-len-text-via-else-len-text+then-byte_in-last}

pub byte_in-requires : goal.byte_in-requires
byte_in-requires c =
    let cells = c.args.cells.now in
    let from = c.args.from in
    let len = c.args.len in
    let some : 0 < len = omega (arith, c.requires.name.some) in
    let at = part-last cells from len some c.requires.within in
    byte-seen (get_or cells (from + len - 1) (Byte 0)) (subst IsByte at (c.requires.part_bytes (len - 1) (Byte 0) (omega (arith, part-length cells from len c.requires.within))))

-- parts whose last cells differ
last-differs : (cells text : List Cell) (from n : ℕ) → 0 < n → from + n ≤ length cells → n ≡ length text → map seen (slice_range cells from (from + n)) ≡ map seen text → character_of (get_or cells (from + n - 1) (Byte 0)) ≡ character_of (get_or text (length text - 1) (Byte 0))
last-differs cells text from n some within same e =
    let at = part-last cells from n some within in
    let place : n - 1 ≡ length text - 1 = omega arith in
    let there = get_or-map seen text (length text - 1) (Byte 0) (Byte 0) (omega arith) in
    sym (character-seen (get_or cells (from + n - 1) (Byte 0)))
    ∙ ap character_of (sym at ∙ ap (λ cs. get_or cs (n - 1) (Byte 0)) e ∙ ap (λ i. get_or (map seen text) i (Byte 0)) place ∙ there)
    ∙ character-seen (get_or text (length text - 1) (Byte 0))

pub returns-then-len-text : goal.returns-then-len-text
returns-then-len-text c =
    let len = c.args.len in
    let within = c.requires.within in (
      λ e. absurd (false≢true e),
      λ e. elim c.then-len-text.branch [
        | then-len-text-via-then-len-text w ↦ absurd (omega (arith, w.if-len-text.true, ap length e, part-length c.args.cells.now c.args.from len within, length-map c.args.text.now seen))
        | then-len-text-via-else-len-text+then-byte_in-last w ↦ absurd (let same = w.if-len-text.false in w.if-byte_in-last.true (w.byte_in.ensures ∙ last-differs c.args.cells.now c.args.text.now c.args.from len (omega (arith, same, c.requires.name.some)) within same e ∙ sym c.requires.last))
      ],
    )

pub is_text-requires : goal.is_text-requires
is_text-requires c = record {
  cell_bytes = bytes-of-seen _ c.requires.part_bytes;
  bytes = bytes-of-seen _ c.requires.name.bytes;
  same = omega (arith, length-between c.args.cells.now c.args.from (c.args.from + c.args.len) c.requires.within, c.if-len-text.false);
}

pub returns : goal.returns
returns c =
    seen-decides (slice_range c.args.cells.now c.args.from (c.args.from + c.args.len)) c.args.text.now c.is_text.result c.requires.part_bytes c.requires.name.bytes c.is_text.ensures
