-- What the proofs of this crate import.
pub use Rattle.std.proofs.Common.{All, Bool, IsTrue, List, MatchOption, None, Option, Some, [], ap, arith, cond, count_by, drop, false, get_or, length, map, nat_eq, nat_lt, refl, replicate, rules, set, slice_get, slice_index_or, slice_range, subst, suc, sum_by, sym, take, true, zero, ℕ, inl, inr, ⊎_elim, ◌⊎◌, ◌%◌, ◌*◌, ◌++◌, ◌+◌, ◌-◌, ◌/◌, ◌<◌, ◌↔◌, ◌∙◌, ◌∷◌, ◌≡◌, ◌≤◌}
pub use Rattle.std.proofs.Math.Nat.{add_assoc, mod-lt}
pub use Rattle.std.proofs.Math.Seq.{get_or-append_seam, take-add, take-length}
pub use Rattle.std.proofs.lemmas.Bool.{cases_eq, cases_lt, false≢true}
pub use Rattle.std.proofs.lemmas.Grind.{elements, get_or-set_at, get_or_head, get_or_tail}
pub use Rattle.std.proofs.lemmas.List.{append-nil, append_assoc, drop-append-le, drop-drop, drop-map, drop-set-add, drop-set-lt, drop_all, drop_more, get_or-append_right, get_or-drop, get_or-map, get_or-set_other, get_or-set_same, get_or-take, get_or_append_left, get_or_default, get_or_push, length-append, length-drop, length-map, length-replicate, length-set, length-take, length-take-le, length_push, map-append, map-set, places, same_lists, set_at, take-append-le, take-map, take-set-le, take-take, take_at, take_more}
pub use Rattle.std.proofs.lemmas.List.Edits.{between_more, between_none, length-between, paste_more}
pub use Rattle.std.proofs.lemmas.List.Elements.{All-append, All-cons, All-get_or, All-head, All-map, All-nil, All-push, All-tail, All-take}
pub use Rattle.std.proofs.lemmas.List.Folds.{list_any-append}
pub use Rattle.std.proofs.lemmas.List.Sums.{sum_by-append, sum_by-cons}
pub use Rattle.std.proofs.lemmas.Nat.{div-add-mod'}
pub use Rattle.std.proofs.lemmas.Option.{slice_get-get_or, slice_get_past}
pub use Rattle.std.specs.List.{copy_within, list_any}
pub use Rattle.std.specs.Option.{SomeIff}
pub use Rattle.std.specs.Prelude.{if◌then◌else◌, ◌==◌}
pub use Rattle.trac_space.specs.Arguments.{IsArgument, arguments}
pub use Rattle.trac_space.specs.Block.{IsLaidOut, Parts, lists, parts, right_of, seen_lists}
pub use Rattle.trac_space.specs.Calls.{HasCallsUpTo, IsLastCall, IsLinked, IsLinkedAt, frame_link, up_to}
pub use Rattle.trac_space.specs.Cells.{IsCommaAt, IsNoCall, NoCall, NoComma, bytes, commas, is_call, is_comma, seen, written_up_to}
pub use Rattle.trac_space.specs.Filled.{HaveCommas, IsPut, filled, filling, numbered_part, ordinal_of, part_between, parts_at}
pub use Rattle.trac_space.specs.Lists.{Lists}
pub use Rattle.trac_space.specs.Runs.{IsInRun, number_in, turned, turned_by}
pub use Rattle.trac_space.specs.Texts.{IsByte, byte_cell_at, character_of, is_byte_cell, kind_number, text_of_cells}
pub use Rattle.trac_space.specs.declared.cell.Cell.{Cell}
pub use Rattle.trac_space.specs.declared.cell.Cell.TheVariants.{Byte, Call, Comma, Gap, Head}
pub use Rattle.trac_space.specs.declared.space.Space.TheInside.{Inside}
pub use borrow.Rule.Slice.PartMut.{put_mid}
pub use lib.Seq.{paste}
