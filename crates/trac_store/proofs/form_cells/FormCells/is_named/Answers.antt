use Rattle.trac_store.proofs.Imports.{sym, ◌∙◌}
use Rattle.trac_store.proofs.Finding.{bytes-of-seen, shown-bytes, shown-text}
use Rattle.trac_store.proofs.Gaps.{bytes-seen}
use Rattle.trac_store.proofs.form_cells.FormCells.is_named.Goals as goal

pub is_text_back-requires : goal.is_text_back-requires
is_text_back-requires c = record {
  cell_bytes = shown-bytes _ _ c.name_cells-cells.ensures;
  bytes = bytes-of-seen c.args.name.now c.requires.bytes;
  same = c.if-cells-name.true;
}

pub returns-then-cells-name : goal.returns-then-cells-name
returns-then-cells-name c = λ t. record {
  named = record { within = c.requires.form.within; named = sym (shown-text _ _ c.name_cells-cells.ensures) ∙ c.is_text_back.ensures t ∙ sym (bytes-seen c.args.name.now) };
  start_is = c.requires.form.start_is;
}
