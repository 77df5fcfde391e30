use Rattle.trac_store.proofs.Imports.{◌≡◌, ℕ, ◌+◌, ◌*◌, ◌/◌, ◌<◌, List, length, map, get_or, Some, sym, ap, ◌∙◌, arith, both_ways, length-map, get_or-map, Form, Cell, Byte, Head, seen, start_of, head_number, cell_at, IsIndex}
use Rattle.trac_store.proofs.Finding.{bytes-of-seen, shown-bytes, shown-decides, shown-differs}
use Rattle.trac_store.proofs.HeadCells.{number-seen}
use Rattle.trac_store.proofs.IndexSearch.{slots_len}
use Rattle.trac_store.proofs.indexed_forms.IndexedForms.start_if_named.Goals as goal

module _ (table : List Cell) (forms : List Form) (k : ℕ) (index : IsIndex (map seen table) forms) (within : k < length forms) where
  place-in : 2 * (length table / 4) + k < length table
  place-in = omega (arith, index.overflow, within, length-map table seen)

  -- the table says where form k begins
  begins : head_number (Some (get_or table (2 * (length table / 4) + k) (Byte 0))) ≡ start_of forms k
  begins =
      let place = 2 * (length table / 4) + k in
      let entry = (index.all k within (λ e. absurd (omega (arith, e, within)))).1.1 in
      let there : cell_at (map seen table) place ≡ Head (start_of forms k) = ap (λ n. cell_at (map seen table) (n + k)) (sym (slots_len table)) ∙ entry.begins in
      sym (number-seen (get_or table place (Byte 0)))
      ∙ ap (λ (c : Cell). head_number (Some c)) (sym (get_or-map seen table place (Byte 0) (Byte 0) place-in) ∙ there)

pub bounds-self-inside-slots : goal.bounds-self-inside-slots
bounds-self-inside-slots c = place-in c.self.inside.table.now _ c.args.k c.self.invariant.index (rw (← c.self.view_is) at c.requires.within)

pub name_cells-cells-requires : goal.name_cells-cells-requires
name_cells-cells-requires c =
    let within = rw (← c.self.view_is) at c.requires.within in
    record { form = record { within = within; start_is = c.number-start.ensures ∙ begins c.self.inside.table.now _ c.args.k c.self.invariant.index within } }

-- another length makes another name
pub returns-then-cells-name : goal.returns-then-cells-name
returns-then-cells-name c = rw (← c.self.view_is) (shown-differs _ _ c.name_cells-cells.ensures c.args.name.now c.if-cells-name.true)

pub is_text-requires : goal.is_text-requires
is_text-requires c = record {
  cell_bytes = shown-bytes _ _ c.name_cells-cells.ensures;
  bytes = bytes-of-seen c.args.name.now c.requires.bytes;
  same = c.if-cells-name.false;
}

pub returns-then-is_text : goal.returns-then-is_text
returns-then-is_text c =
    let within = rw (← c.self.view_is) at c.requires.within in
    rw (← c.self.view_is) (record {
      named = record { within = within; named = (shown-decides _ _ c.name_cells-cells.ensures c.args.name.now c.is_text.result c.is_text.ensures).0 c.if-is_text.true };
      start_is = c.number-start.ensures ∙ begins c.self.inside.table.now _ c.args.k c.self.invariant.index within;
    })

pub returns-else-is_text : goal.returns-else-is_text
returns-else-is_text c = rw (← c.self.view_is) (λ named. both_ways c.is_text.result c.if-is_text.false ((shown-decides _ _ c.name_cells-cells.ensures c.args.name.now c.is_text.result c.is_text.ensures).1 named))
