-- What the proofs of this crate import.
pub use Rattle.std.proofs.Common.{Bool, List, None, Some, [], ap, arith, cond, drop, eqb, false, get_or, length, map, max, min, neg_ℤ, negsuc, not, pos, refl, replicate, reverse, rules, subst, suc, sym, take, true, zero, ℕ, ℤ, ⊎_elim, ◌%◌, ◌&&◌, ◌*◌, ◌++◌, ◌+◌, ◌-◌, ◌/◌, ◌<◌, ◌^◌, ◌||◌, ◌∙◌, ◌∷◌, ◌≡◌, ◌≤◌}
pub use Rattle.std.proofs.Math.Nat.{add-mod-mod, add-mod_left, add-mul, mod-add-mod, mod-eq_of_lt, mul-le-mul_right, mul_assoc, mul_right_comm, pow-le-pow_right}
pub use Rattle.std.proofs.Math.Seq.{take-add}
pub use Rattle.std.proofs.lemmas.Bool.{agree_below, agree_below_at, cases_Bool, cases_lt, eqb-true, false≢true, le-ltb}
pub use Rattle.std.proofs.lemmas.Bool.Decides.{nat_tests}
pub use Rattle.std.proofs.lemmas.Grind.{pow_more}
pub use Rattle.std.proofs.lemmas.Int.{int_rem_euclid_is, ints}
pub use Rattle.std.proofs.lemmas.Int.Digits.{digits_value_more}
pub use Rattle.std.proofs.lemmas.List.{drop-drop, drop-map, drop_more, ext_get_or, get_or-append_right, get_or-drop, get_or-map, get_or-reverse, get_or-take, get_or_append_left, get_or_past, length-append, length-drop, length-map, length-replicate, length-reverse, length-take, length-take-le, places, reverse-append, same_lists, take-append-drop, take-map, take_all, take_more_same}
pub use Rattle.std.proofs.lemmas.List.Concat.{flat_map-append}
pub use Rattle.std.proofs.lemmas.List.FromFn.{get_or-map-range_with_len, length-map-range_with_len}
pub use Rattle.std.proofs.lemmas.List.Sums.{prefix_len_passes, suffix_len-le-length, suffix_len-take_no, suffix_len-take_yes}
pub use Rattle.std.proofs.lemmas.Nat.{div-add-mod', mod_below, mul-mod_first}
pub use Rattle.std.proofs.lemmas.Option.{slice_get-get_or, slice_get_past}
pub use Rattle.std.specs.Char.{digit_value, is_ascii_digit}
pub use Rattle.std.specs.Int.{int_rem_euclid}
pub use Rattle.std.specs.List.{prefix_len, slice_index, suffix_len}
pub use Rattle.std.specs.Ordering.{nat_cmp}
pub use Rattle.std.specs.Prelude.{bit_and, bit_or, bit_xor, flat_map, if◌then◌else◌, int_lt, slice_get, unsigned_abs, ◌+ℤ◌}
pub use Rattle.std.specs.Str.Parse.{digits_value, digits_value_after}
pub use Rattle.trac_language.specs.BitString.{Bits, bit_at, bits_by, bits_of_digit, bitwise, complement, cut, intersection, is_octal, octal, octal_digit, padded, rotated, shifted, union}
pub use Rattle.trac_language.specs.Number.{before_digits, digits, ends_with, if_in_range, number}
pub use Rattle.trac_language.specs.Text.{Text}
pub use Rattle.trac_space.specs.Texts.{IsByte, character_of, text_of_cells}
pub use Rattle.trac_space.specs.declared.cell.Cell.{Cell}
pub use Rattle.trac_space.specs.declared.cell.Cell.TheVariants.{Byte}
pub use Rattle.trac_values.specs.Digits.{EachIs, IsDecimal, bits_of_cells, padded_text, signed, value_upto}
