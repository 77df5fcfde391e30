-- What the proofs of this crate import.
pub use Rattle.std.proofs.Common.{Bool, List, None, Option, Some, [], ap, arith, bytes_eq, drop, eq-eqb, eqb-true, false, get_or, if◌then◌else◌, int_lt, length, ltb-false, ltb-true, max, min, nat_lt, ne_eqb, negsuc, option_map, pos, refl, reverse, slice_range, suc, sum_by, sym, take, take_while, true, unsigned_abs, zero, ℕ, ℤ, ◌++◌, ◌+◌, ◌-◌, ◌<◌, ◌==◌, ◌∙◌, ◌∷◌, ◌≡◌, ◌≤◌}
pub use Rattle.std.proofs.lemmas.List.{append-nil, drop-append-le, drop_all, get_or-append-add, get_or_append_left, length-drop, length-map, length-reverse, length-take, length-take-le, length_push, take-append-drop, take-append-le, take_all, take_more}
pub use Rattle.std.proofs.lemmas.List.Elements.{All-append}
pub use Rattle.std.proofs.lemmas.List.Sums.{count_by_more_no, count_by_more_yes, sum_by-cons}
pub use Rattle.std.proofs.lemmas.Option.{unwrap_or-slice_get}
pub use Rattle.std.specs.List.{list_all, position_or_len, prefix_len}
pub use Rattle.std.specs.Prelude.{MatchOption, count_by, slice_get, unwrap_or}
pub use Rattle.trac_events.specs.Calls.{from_argument}
pub use Rattle.trac_events.specs.Changes.{is_same}
pub use Rattle.trac_events.specs.Places.{behind_layout, behind_text}
pub use Rattle.trac_functions.specs.Flat.{mode_of}
pub use Rattle.trac_language.specs.declared.mode.Mode.{Mode}
pub use Rattle.trac_space.specs.Calls.{IsLastCall}
pub use Rattle.trac_space.specs.Cells.{IsNoCall, NoCall, is_call, is_comma}
pub use Rattle.trac_space.specs.Texts.{character_of, is_byte_cell, text_of_cells}
pub use Rattle.trac_space.specs.declared.cell.Cell.{Cell}
pub use Rattle.trac_space.specs.declared.cell.Cell.TheVariants.{Byte, Call, Comma, Gap, Head}
