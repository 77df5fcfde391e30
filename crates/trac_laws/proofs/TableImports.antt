-- What the proofs of this crate import.
pub use Rattle.std.proofs.Common.{◌≡◌, ◌≢◌, ◌↔◌, ◌⊎◌, inl, inr, ℕ, zero, suc, ◌+◌, ◌<◌, ◌≤◌, Bool, true, false, not, cond, List, [], ◌∷◌, ◌++◌, take, drop, length, Option, Some, None, ℤ, pos, refl, sym, ap, ◌∙◌, subst, arith, rules}
pub use Rattle.std.proofs.lemmas.Bool.{cond_both, and_parts, false≢true, cases_Bool}
pub use Rattle.std.specs.Cmp.Lexicographic.{bytes_decides}
pub use Rattle.std.specs.List.{list_any}
pub use Rattle.std.specs.Prelude.{bytes_eq, codes, filter, find, flat_map, if◌then◌else◌, map}
pub use Rattle.std.specs.Option.{unwrap_or}
pub use Rattle.trac_language.specs.Form.{Form, after_pointer, fill}
pub use Rattle.trac_language.specs.Meaning.{Answer, Ends, Gives, Meaning, World, before_meta, from_meta, change_meta, forced, form_of_call, is_listed, on_form, printing, read_all, read_character, read_string, result_or, segmented, show_form, silent, take_of_call, take_part, valued, with_form, with_input}
unfoldable pub use Rattle.trac_language.specs.Meaning.{meaning_of}
pub use Rattle.trac_language.specs.Number.{number, prefix, arith as arith_of}
pub use Rattle.trac_language.specs.Part.{Part, characters, initial_part, next_segment}
pub use Rattle.trac_language.specs.State.{Input, argument}
pub use Rattle.trac_language.specs.Store.{changed, defined, form_named, is_named, without}
pub use Rattle.trac_language.specs.Table.{traits}
pub use Rattle.trac_language.specs.Text.{Text}
pub use Rattle.trac_language.specs.declared.arith.Arith.TheVariants.{Add, Subtract, Multiply, Divide}
pub use Rattle.trac_language.specs.declared.fate.Fate.{Fate}
pub use Rattle.trac_language.specs.declared.fate.Fate.TheVariants.{Halted, InputEnded, InputFailed}
pub use Rattle.trac_language.specs.declared.function.Function.{Function}
pub use Rattle.trac_language.specs.declared.table.Concerned.{Concerned}
pub use Rattle.trac_laws.specs.Columns.{Always, concerns, emptied, value_of, IsDefault}
