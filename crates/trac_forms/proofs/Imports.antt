-- What the proofs of this crate import.
pub use Rattle.std.proofs.Common.{All, Bool, List, MatchOption, None, Option, Some, [], ap, arith, drop, false, get_or, inl, length, map, nat_le, refl, rules, set, slice_get, slice_range, subst, suc, sym, take, true, zero, ℕ, ⊎_elim, ◌++◌, ◌+◌, ◌-◌, ◌/◌, ◌<◌, ◌∙◌, ◌∷◌, ◌≡◌, ◌≢◌, ◌≤◌, ◌⊎◌}
pub use Rattle.std.proofs.Math.Seq.{take-length}
pub use Rattle.std.proofs.lemmas.Bool.{false≢true, le-ltb, leb-false, leb-true, lt-leb, lt-ltb, ltb-false, ltb-true}
pub use Rattle.std.proofs.lemmas.List.{append-nil, append_assoc, drop-drop, drop-map, drop_at, drop_more, flat_map_more, get_or-set_other, get_or-take, length-append, length-drop, length-map, length-set, length-take-le, length_push, places, same_lists, take-append-drop, take-map, take-set-le, take-take, take_all, take_at, take_more}
pub use Rattle.std.proofs.lemmas.List.Edits.{get_or-between, get_or-remove_above, get_or-remove_below, length-between, length-remove}
pub use Rattle.std.proofs.lemmas.List.Elements.{All-append, All-cons, All-drop, All-from_get_or, All-head, All-map, All-nil, All-tail, All-take, filter-append}
pub use Rattle.std.proofs.lemmas.List.Sums.{sum_by-cons, sum_by_push}
pub use Rattle.std.specs.Bool.{OnFalse, OnTrue}
pub use Rattle.std.specs.List.{remove}
pub use Rattle.std.specs.Prelude.{filter, if◌then◌else◌, nat_lt, not, ◌==◌, ◌||◌}
pub use Rattle.trac_forms.specs.Arguments.{filled_body}
pub use Rattle.trac_forms.specs.Contents.{Contents, IsSound, IsStringCell, form_place, used}
pub use Rattle.trac_forms.specs.Listed.{IsForm, IsListed, form_of}
pub use Rattle.trac_forms.specs.Loading.{IsLoaded}
pub use Rattle.trac_forms.specs.Stored.{IsStored, shown}
pub use Rattle.trac_language.specs.Form.{Form, is_character, items_of, text_of}
pub use Rattle.trac_language.specs.Segment.{begins, segment}
pub use Rattle.trac_language.specs.Store.{IsStore, NoneNamed, cells, defined, form_cells, form_named, is_named, without}
pub use Rattle.trac_language.specs.Text.{Text}
pub use Rattle.trac_language.specs.declared.item.Item.{Item}
pub use Rattle.trac_space.specs.Cells.{IsNoCall, NoCall, bytes, seen}
pub use Rattle.trac_space.specs.Lists.{Lists, reserved}
pub use Rattle.trac_space.specs.Runs.{number_in, turned, turned_by}
pub use Rattle.trac_space.specs.Texts.{IsByte, byte_cell_at, character_of, flat_text, text_of_cells}
pub use Rattle.trac_space.specs.declared.cell.Cell.{Cell}
pub use Rattle.trac_space.specs.declared.cell.Cell.TheVariants.{Byte, Call, Comma, Gap, Head}
pub use Rattle.trac_store.proofs.Filling.{AreItems, items}
pub use Rattle.trac_store.proofs.Finding.{bytes-flat, part-seen}
pub use Rattle.trac_store.proofs.FlatLemmas.{Byte-character_of, character_of-Byte, count-le, flat_items_of, forms_in-flat, item_of-cell, length-flat, length-flat_form, length-new_form}
pub use Rattle.trac_store.proofs.Gaps.{bytes-seen}
pub use Rattle.trac_store.proofs.HeadCells.{number-at}
pub use Rattle.trac_store.proofs.IndexSearch.{index-kept, index-pointer, index-replaced, reserved-kept}
pub use Rattle.trac_store.proofs.Items.{item-stored}
pub use Rattle.trac_store.proofs.Places.{Stands, removed-lists, repointed, stands, start_of-set}
pub use Rattle.trac_store.proofs.Searches.{begins-within, body_len, characters-agree, first-agrees, gaps-agree, last-agrees, texts-agree}
pub use Rattle.trac_store.proofs.Segments.{flat-segment, regapped, written}
pub use Rattle.trac_store.proofs.DistinctForms.{NoneNamed-after, form_named-at, form_named-none, without-at, without-none, IsStore-push, IsStore-remove, IsStore-set, cells-remove, cells-set, cells-without, defined-last, pointer-within}
pub use Rattle.trac_store.specs.Arguments.{AreParted, before_comma, parts_between, texts_between}
pub use Rattle.trac_store.specs.FlatForms.{flat_form, flat_forms, flat_item}
pub use Rattle.trac_store.specs.Forms.{IsNamedAt, body_at, form_at, name_at}
pub use Rattle.trac_store.specs.Gaps.{gap_cell_at, segmented_cells, text_cells_at}
pub use Rattle.trac_store.specs.Index.{IsIndex, IsIndexBut, IsIndexed, IsKept, IsOpenFor, IsReached, buried, cell_at, earlier, forward, hash, home_in, home_place, is_open, number_of, quarter, slots, start_in, start_place, started, with_entry}
pub use Rattle.trac_store.specs.Loading.{called_part}
pub use Rattle.trac_store.specs.Parts.{IsTextPart, new_form, part_text, part_texts}
pub use Rattle.trac_forms.specs.Removal.{AreMarking, HaveOwnNames, IsFormed, IsMarkedFrom, is_among, is_marked, mark, marked, marked_if, unmarked, with_marks, without_all}
pub use Rattle.trac_store.specs.Search.{IsFirst, NonePasses, character_at, gap_at, is_gap, item_at, text_at}
pub use Rattle.trac_store.specs.Stored.{AreForms, IsPlace, forms_in, head_at, head_number, item_of, start_of, stored_item}
pub use Rattle.std.proofs.lemmas.List.Concat.{flat_map-append}
pub use Rattle.std.proofs.lemmas.Option.{slice_get_past}
pub use Rattle.std.proofs.lemmas.Slice.{drop-append-drop}
pub use Rattle.trac_space.proofs.BlockChanges.{reads}
pub use Rattle.trac_space.proofs.Characters.{part-on}
pub use Rattle.trac_space.specs.declared.part.Part.{Part}
pub use Rattle.trac_store.specs.declared.located.Located.{Located}
pub use Rattle.std.proofs.lemmas.List.{get_or-map, take_more_same}
pub use Rattle.std.proofs.lemmas.List.Edits.{paste_more}
pub use Rattle.std.proofs.lemmas.Bool.{both_ways}
pub use Rattle.std.specs.Prelude.{Decides}
pub use lib.Seq.{paste}
pub use Rattle.trac_forms.specs.Given.{given, with_form}
