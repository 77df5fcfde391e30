-- What the proofs of this crate import.
pub use Rattle.std.proofs.Common.{List, None, Option, Some, [], ap, append-nil, append_assoc, arith, drop, get_or, length, length-append, map, max, min, refl, rules, slice_set, subst, sym, take, true, zero, suc, ℕ, ⊎_elim, ◌*◌, ◌++◌, ◌+◌, ◌-◌, ◌<◌, ◌∙◌, ◌∷◌, ◌≡◌, ◌≤◌}
pub use Rattle.std.proofs.Math.Seq.{length-take-le}
pub use Rattle.std.proofs.lemmas.List.{drop-drop, drop_all, drop_more, length-map, map-append, take-append-drop, take_more}
pub use Rattle.std.proofs.lemmas.List.Sums.{sum_by-cons}
pub use Rattle.std.proofs.lemmas.Option.{slice_get-get_or, slice_get_cases}
pub use Rattle.std.specs.Prelude.{slice_get, slice_range, flat_map}
pub use Rattle.trac_image.specs.Buffers.{laid, laid_from}
pub use Rattle.trac_image.specs.Image.{content, form_image, four_bytes, gap_bytes, image_of, no_sums, sum_bytes, summed, with_summand}
pub use Rattle.trac_image.specs.Pages.{Page, gap_text, page, wrote}
pub use Rattle.trac_language.specs.Form.{Form, items_of, text_of}
pub use Rattle.trac_language.specs.Store.{cells, form_cells}
pub use Rattle.trac_language.specs.State.{Memory, size}
pub use Rattle.trac_language.specs.Text.{Text}
pub use Rattle.trac_language.specs.declared.item.Item.{Item}
pub use Rattle.trac_language.specs.declared.item.Item.TheVariants.{Byte, Gap}
