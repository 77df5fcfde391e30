-- What the proofs of this crate import.
pub use Rattle.std.proofs.Common.{All, Bool, List, None, Option, Some, [], add-one, ap, append_assoc, arith, cond, drop, eqb, false, get_or, length, length-set, map, max, min, nat_le, negsuc, pos, refl, replicate, reverse, rules, set, slice_range, subst, suc, sum_by, sym, take, true, zero, ℕ, ℤ, ⊎_elim, ◌&&◌, ◌*◌, ◌++◌, ◌+◌, ◌-◌, ◌<◌, ◌^◌, ◌||◌, ◌↔◌, ◌∙◌, ◌∷◌, ◌≡◌, ◌≢◌, ◌≤◌}
pub use Rattle.std.proofs.Math.ListN.{drop_of_length-le}
pub use Rattle.std.proofs.Math.Seq.{drop-append_seam, take-add, take-append_seam, take-length}
pub use Rattle.std.proofs.lemmas.Bool.{OnTrue_at, cases_lt, false≢true, le-ltb, lt-ltb, ltb-true}
pub use Rattle.std.proofs.lemmas.Int.{fits_signed_from_abs, ints, to_z-of_z}
pub use Rattle.std.proofs.lemmas.List.{append-nil, drop-append-le, drop-drop, drop-take, drop_all, drop_more, get_or-drop, get_or-reverse, get_or-set_same, get_or-take, length-append, length-drop, length-map, length-replicate, length-reverse, length-take, map-append, map_more, nil_from_length, reverse-append, reverse-reverse, set-get_or, set-set, take-append-drop, take-append-le, take-map, take-take, take_all}
pub use Rattle.std.proofs.lemmas.List.Edits.{length-between}
pub use Rattle.std.proofs.lemmas.List.Elements.{All-cons, All-drop, All-head, All-map, All-nil, All-tail, All-take}
pub use Rattle.std.proofs.lemmas.List.FromFn.{get_or-map-range_with_len, length-map-range_with_len}
pub use Rattle.std.proofs.lemmas.List.Sums.{sum_by-append, sum_by-cons}
pub use Rattle.std.proofs.lemmas.Option.{cond_some, get_or_from_slice_get, none-some, slice_get-get_or, slice_get_within}
pub use Rattle.std.proofs.lemmas.Slice.Eq.{bytes_eq-Decides}
pub use Rattle.std.specs.Char.{is_ascii_digit, to_ascii_lowercase}
pub use Rattle.std.specs.Cmp.Lexicographic.{bytes_decides}
pub use Rattle.std.specs.Fmt.{signed_decimal}
pub use Rattle.std.specs.Int.{int_rem_euclid}
pub use Rattle.std.specs.List.{list_any, prefix_len, remove, suffix_len}
pub use Rattle.std.specs.Prelude.{IfSome, IsSome, IsTrue, bytes_eq, filter, flat_map, if◌then◌else◌, int_lt, nat_lt, not, option_map, slice_get, take_while, unsigned_abs, ◌+ℤ◌, ◌<ℤ◌}
pub use Rattle.trac_forms.proofs.Copies.{characters-between}
pub use Rattle.trac_forms.proofs.ArgumentParts.{before_comma-within, found-comma, parts-first, parts-none}
pub use Rattle.trac_forms.proofs.DistinctForms.{changed-at, form_named-at, form_named-none, without-at, without-none}
pub use Rattle.trac_forms.specs.Arguments.{AreParted, before_comma, filled_body, parts_between, texts_between}
pub use Rattle.trac_forms.specs.Contents.{AreTextParts, Contents, IsNamedAt, IsSound, IsStringCell, IsTextPart, body_at, form_at, name_at, part_text, part_texts, pointer_at, used}
pub use Rattle.trac_forms.specs.Loading.{IsLoaded, called_part}
pub use Rattle.trac_forms.specs.Search.{IsFirst, IsLast, NonePasses, character_at, gap_at, is_gap, text_at}
pub use Rattle.trac_functions.specs.BitResults.{AreDigits, AreFor, bits_at, bits_made}
pub use Rattle.trac_functions.specs.Calls.{AreArguments, IsValue, Makes, Means, Performs, Valued, texts, texts_from, world}
pub use Rattle.trac_functions.specs.Flat.{Neutral, arguments_at, in_first, memory_of, memory_with, mode_at, mode_of, neutral_of, no_neutral, texts_of, with_cell, with_cells, with_character, with_comma, with_first}
pub use Rattle.trac_functions.specs.Taking.{IsFirstOr, TakesOrDefault, TakesPart, moved, part_value}
pub use Rattle.trac_functions.specs.declared.arguments.Arguments.{Arguments}
pub use Rattle.trac_functions.specs.declared.arguments.CallResult.{CallResult}
pub use Rattle.trac_functions.specs.declared.arguments.CallResult.TheVariants.{Null, Full, Over, InFront, Unscanned, AtEnd}
pub use Rattle.trac_functions.specs.declared.bit_strings.BitResult.{BitResult}
pub use Rattle.trac_functions.specs.declared.bit_strings.BitResult.TheVariants.{Rotation}
pub use Rattle.trac_language.specs.BitString.{Bits, bit_at, bits, bits_of_digit, complement, cut, intersection, is_octal, octal, octal_digits, octal_prefix, padded, rotated, shifted, union}
pub use Rattle.trac_language.specs.Form.{Form, after_pointer, before_pointer, fill, is_character, text_of}
pub use Rattle.trac_language.specs.Function.{function_named}
pub use Rattle.trac_language.specs.Meaning.{World, bits_result, built, forced, on_form, result_or, silent, take_part, value_length, valued, with_form}
unfoldable pub use Rattle.trac_language.specs.Meaning.{meaning_of}
pub use Rattle.trac_language.specs.Number.{before_digits, digits, ends_with, exactly, if_in_range, in_range, number, prefix, without_sign}
pub use Rattle.trac_language.specs.Part.{Part, backward, characters, first_characters, forward, initial_part, last_characters, next_characters, next_segment, previous_characters, segment_from, unless_null, up_to}
pub use Rattle.trac_language.specs.Segment.{begins, place_of, segment, segment_by}
pub use Rattle.trac_language.specs.State.{Input, OpenCall, add, argument, arguments, begin_call, call_cells, size}
pub use Rattle.trac_language.specs.Store.{IsStore, NoneNamed, cells, changed, defined, form_cells, form_named, is_named, without}
pub use Rattle.trac_language.specs.Text.{Text}
pub use Rattle.trac_language.specs.declared.arith.Arith.{Arith}
pub use Rattle.trac_language.specs.declared.function.Function.{Function}
pub use Rattle.trac_language.specs.declared.function.Function.TheVariants.{Arithmetic, CallCharacter, CallForm, CallNumber, CallRestore, CallSegment, Complement, DeleteAll, DeleteDefinition, Equal, Greater, InitialPart, Intersection, ListNames, Rotate, SegmentString, Shift, Union}
pub use Rattle.trac_language.specs.declared.item.Item.{Item}
pub use Rattle.trac_language.specs.declared.mode.Mode.{Mode}
pub use Rattle.trac_space.specs.Calls.{IsLastCall}
pub use Rattle.trac_space.specs.Cells.{NoCall, NoComma, is_call, is_comma, seen}
pub use Rattle.trac_space.specs.Texts.{IsByte, character_of, flat_text, text_of_cells}
pub use Rattle.trac_space.specs.declared.cell.Cell.{Cell}
pub use Rattle.trac_space.specs.declared.cell.Cell.TheVariants.{Byte, Call, Comma, Gap, Head}
pub use Rattle.trac_values.proofs.DigitBits.{length-bitwise}
pub use Rattle.trac_values.proofs.OctalDigits.{length-bits_of, length-octal}
pub use Rattle.trac_values.proofs.Shifts.{rotation_same, shift_same}
pub use Rattle.trac_values.proofs.SuffixCells.{back_is, back_passes}
pub use Rattle.trac_values.proofs.Texts.{length-text}
pub use Rattle.trac_values.specs.Cells.{number_in}
pub use Rattle.trac_values.specs.Digits.{EachIs, IsOctal, bits_of_cells, signed}
pub use mir.Syntax.{w128}
pub use mir.Val.{of_z, to_z}
