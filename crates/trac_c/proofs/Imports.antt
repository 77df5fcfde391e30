-- What the proofs of this crate import.
pub use Rattle.std.proofs.Common.{Bool, List, None, Option, Some, [], ap, append-nil, append_assoc, arith, drop, false, get_or, length, length-append, map, max, min, not, refl, rules, slice_set, subst, suc, sum_by, sym, take, zero, ℕ, ⊎_elim, ◌++◌, ◌+◌, ◌-◌, ◌<◌, ◌∙◌, ◌∷◌, ◌≡◌, ◌≢◌, ◌≤◌}
pub use Rattle.std.proofs.Math.Seq.{length-take-le}
pub use Rattle.std.proofs.lemmas.List.{drop-drop, length-drop, length-map, map-append, take_more}
pub use Rattle.std.specs.Prelude.{MatchOption, if◌then◌else◌, is_none, nat_le, nat_lt, slice_get, ◌&&◌, ◌==◌}
pub use Rattle.trac_c.specs.Buffers.{laid, laid_from}
pub use Rattle.trac_c.specs.Forms.{item_code}
pub use Rattle.trac_c.specs.Turns.{Goes, LacksRoom, SomeTurned, TellsTurn, followed_by, is_short, last_over, stands, told_again, turn_number, waits_for_input, wanted_by}
pub use Rattle.trac_c.specs.View.{calls_codes, cell_code, codes_of_neutral, comma_code, has_call, is_open_after, mark_code, with_commas}
pub use Rattle.trac_c.specs.declared.report.TracReport.{TracReport}
pub use Rattle.trac_c.specs.declared.turn.Turn.{Turn}
pub use Rattle.trac_c.specs.declared.turn.Turn.TheVariants.{Full, Over, Went}
pub use Rattle.trac_core.specs.Machine.{GoesOn, MachineState, Moment, ending, moment, state_of, state_with}
pub use Rattle.trac_core.specs.Session.{awaited, next_function, next_printed, step_prints}
pub use Rattle.trac_core.specs.View.{neutral_in}
pub use Rattle.trac_devices.specs.Slices.{stream_in}
pub use Rattle.trac_functions.specs.Flat.{Neutral, neutral_of, no_neutral, with_cell, with_cells, with_character, with_comma}
pub use Rattle.trac_language.specs.State.{Input, OpenCall, arguments, call_cells, size}
pub use Rattle.trac_language.specs.Text.{Text}
pub use Rattle.trac_language.specs.declared.fate.Fate.{Fate}
pub use Rattle.trac_space.specs.Texts.{character_of, text_of_cells}
pub use Rattle.trac_space.specs.declared.cell.Cell.TheVariants.{Byte}
