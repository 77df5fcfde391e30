-- What the proofs of this crate import.
pub use Rattle.std.proofs.Common.{All, Bool, List, None, Option, Some, [], ap, append_assoc, ap₂, arith, drop, get_or, length, length-append, length-take, refl, rules, subst, sym, take, take_at, unwrap_or, ℕ, ◌++◌, ◌+◌, ◌-◌, ◌<◌, ◌∙◌, ◌∷◌, ◌≡◌, ◌≤◌}
pub use Rattle.std.proofs.KnownBytes.{Appends-trans}
pub use Rattle.std.proofs.Math.ListN.{set}
pub use Rattle.std.proofs.Math.Seq.{drop-cons}
pub use Rattle.std.proofs.lemmas.List.{drop-append-le, drop-drop, drop-map, drop-take, get_or-drop, get_or-take, length-drop, length-map, length-take-le, places, take-append-drop, take_all}
pub use Rattle.std.proofs.lemmas.List.Edits.{length-between}
pub use Rattle.std.proofs.lemmas.Slice.{between_is, take-put_mid}
pub use Rattle.std.specs.Io.KnownBytes.{Appends, Consumes, IsAtEnd, Keeps, append_known, prepend_known}
pub use Rattle.std.specs.List.{take-map}
pub use Rattle.std.specs.Prelude.{Err, IsErr, IsSome, Ok, OnErr, Result, slice_range}
pub use Rattle.trac_devices.specs.Buffered.{accepted, unread}
pub use Rattle.trac_devices.specs.Characters.{AreWritten}
pub use Rattle.trac_devices.specs.Devices.{Breaks, Prints}
pub use Rattle.trac_devices.specs.Readers.{BufferedInput, CountedReader}
pub use Rattle.trac_devices.specs.Slices.{IfTells}
pub use Rattle.trac_language.specs.Text.{Text}
pub use Rattle.trac_space.proofs.Texts.{text_of_cells-append}
pub use Rattle.trac_space.specs.Texts.{IsByte, character_of, text_of_cells}
pub use Rattle.trac_space.specs.declared.cell.Cell.{Cell}
pub use Rattle.trac_space.specs.declared.cell.Cell.TheVariants.{Byte}
pub use borrow.Rule.Slice.PartMut.{put_mid}
pub use lib.Seq.{take-add, take-take}
