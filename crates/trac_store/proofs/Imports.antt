-- What the proofs of this crate import.
pub use Rattle.std.proofs.Common.{All, Bool, List, MatchOption, None, Option, Some, [], ap, arith, cond, drop, false, get_or, inl, inr, length, map, nat_le, refl, rules, set, slice_get, slice_range, subst, suc, sym, take, true, zero, ℕ, ⊎_elim, ◌&&◌, ◌*◌, ◌++◌, ◌+◌, ◌-◌, ◌/◌, ◌<◌, ◌==◌, ◌^◌, ◌∙◌, ◌∷◌, ◌≡◌, ◌≢◌, ◌≤◌, ◌⊎◌}
pub use Rattle.std.proofs.Math.Bool.{and-false}
pub use Rattle.std.proofs.Math.Seq.{drop-append-add, get_or-append_seam}
pub use Rattle.std.proofs.lemmas.Bool.{and_from, and_parts, both_ways, cases_eq, cases_lt, eq-eqb, eqb-true, false_from_ne_true, false≢true}
pub use Rattle.std.proofs.lemmas.Grind.{common_steps}
pub use Rattle.std.proofs.lemmas.List.{append-nil, append_assoc, drop-drop, drop-map, drop-set-lt, drop_all, drop_at, drop_more, get_or-drop, get_or-map, get_or-set_other, get_or-set_same, get_or_append_left, get_or_default, get_or_past, length-append, length-drop, length-map, length-set, length-take-le, map-append, nil_from_length, places, same_lists, set-append_right, set_split, take-append-drop, take-map, take-set, take-set-le, take-take, take_all, take_at, take_more, take_more_same, take_more_set}
pub use Rattle.std.proofs.lemmas.List.Concat.{flat_map-append}
pub use Rattle.std.proofs.lemmas.List.Edits.{between_none, get_or-between, length-between, split_between}
pub use Rattle.std.proofs.lemmas.List.Elements.{All-append, All-cons, All-get_or, All-head, All-map, All-nil, All-set, All-tail}
pub use Rattle.std.proofs.lemmas.List.Sums.{sum_by-cons, sum_by-remove, sum_by-set}
pub use Rattle.std.proofs.lemmas.Nat.{and_le_r}
pub use Rattle.std.proofs.lemmas.Option.{get_or_from_slice_get, slice_get-get_or, slice_get-map, slice_get_past}
pub use Rattle.std.proofs.lemmas.Slice.Eq.{bytes_eq-Decides}
pub use Rattle.std.specs.Bool.{Decides, OnTrue}
pub use Rattle.std.specs.List.{remove}
pub use Rattle.std.specs.Option.{option_map}
pub use Rattle.std.specs.Prelude.{bit_and, bytes_eq, if◌then◌else◌}
pub use Rattle.trac_language.specs.Form.{Form, fill, is_character, items_of, text_of}
pub use Rattle.trac_language.specs.Segment.{begins, segment}
unfoldable pub use Rattle.trac_language.specs.Segment.{segment_after}
pub use Rattle.trac_language.specs.Store.{IsStore, NoneNamed, cells, changed, defined, form_cells, form_named, is_named, without}
pub use Rattle.trac_language.specs.Text.{Text}
pub use Rattle.trac_language.specs.declared.item.Item.{Item}
pub use Rattle.trac_space.proofs.BlockChanges.{reads}
pub use Rattle.trac_space.proofs.Characters.{tested-seen}
pub use Rattle.trac_space.proofs.Runs.{character-seen}
pub use Rattle.trac_space.specs.Cells.{IsNoCall, NoCall, is_call, is_comma, seen}
pub use Rattle.trac_space.specs.Filled.{HaveCommas, filled, filling, numbered_part, part_between, parts_at}
pub use Rattle.trac_space.specs.Lists.{FitsBesideIndex, Lists, used, reserved}
pub use Rattle.trac_space.specs.Tags.{HaveTags, tag_of, takes_tag, untagged}
pub use Rattle.trac_space.specs.Texts.{IsByte, byte_cell_at, character_of, flat_text, is_byte_cell, text_of_cells}
pub use Rattle.trac_space.specs.declared.cell.Cell.{Cell}
pub use Rattle.trac_space.specs.declared.cell.Cell.TheVariants.{Byte, Call, Comma, Gap, Head}
pub use Rattle.trac_store.specs.declared.located.Located.{Located}
pub use Rattle.trac_store.specs.Arguments.{IsHeadAt, before_comma, filled_cells, parts_between, texts_between}
pub use Rattle.trac_store.specs.Borders.{AreTagged, GoesOn, HaveBorders, IsBorder, IsLongestBorder, IsNextBorder, byte_at, tagged_text}
pub use Rattle.trac_store.specs.FlatForms.{flat_form, flat_forms, flat_item}
pub use Rattle.trac_store.specs.Forms.{IsNamedAt, body_at, form_at, name_at, pointer_at}
pub use Rattle.trac_store.specs.Gaps.{begins_cells, gap_cell_at, gap_number, gap_ordinal, is_byte, is_gap_cell, segment_cells, segmented_cells, text_cells_at}
pub use Rattle.trac_store.specs.Index.{HasEntry, IsEntry, IsHeld, IsIndex, IsIndexBut, IsIndexed, IsKept, IsReached, cell_at, hash, home_place, is_blank, mixed, quarter, slot, slots, start_place, with_entry}
pub use Rattle.trac_store.specs.Parts.{AreTextParts, IsTextPart, new_form, part_text, part_texts}
pub use Rattle.trac_store.specs.Search.{IsFirst, IsLast, NonePasses, character_at, gap_at, is_gap, item_at, text_at}
pub use Rattle.trac_store.specs.Stored.{IsFoundAt, IsLocated, forms_in, head_at, head_number, item_of, item_of_cell, read_forms, start_of, stored_item}
