-- What the proofs of this crate import.
pub use Rattle.std.proofs.Common.{rules, All, Bool, List, MatchOption, None, Option, Some, [], ap, append-nil, append_assoc, arith, cond, drop, eq-eqb, eqb, false, get_or, inl, inr, length, length-append, map, max, min, not, refl, slice_get, slice_range, subst, suc, sum_by, sym, take, true, zero, ℕ, ⊎_elim, ◌%◌, ◌&&◌, ◌*◌, ◌++◌, ◌+◌, ◌-◌, ◌/◌, ◌<◌, ◌||◌, ◌∙◌, ◌∷◌, ◌≡◌, ◌≢◌, ◌≤◌, ◌⊎◌}
pub use Rattle.std.proofs.Math.Seq.{drop-append-add, drop-append_seam, drop-cons, drop-length, take-add, take-append_seam, take-length}
pub use Rattle.std.proofs.lemmas.Bool.{or_parts, or_right, true≢false, cases_Bool, cases_eq, cases_lt, eqb-true, false_from_ne_true, ne_eqb}
pub use Rattle.std.proofs.lemmas.Bool.Decides.{nat_tests}
pub use Rattle.std.proofs.lemmas.List.{append_cancel_left, drop-append-le, drop-drop, drop-map, drop_at, drop_more, get_or-drop, get_or-map, get_or_append_left, get_or_past, get_or_push, length-drop, length-map, length-take, length-take-le, map-append, take-append-drop, take-map, take-take, take_at, take_more, take_rest}
pub use Rattle.std.proofs.lemmas.List.Elements.{All-append, All-cons, All-drop, All-head, All-push, All-tail, All-take}
pub use Rattle.std.proofs.lemmas.List.FromFn.{get_or-map-range_with_len, length-map-range_with_len}
pub use Rattle.std.proofs.lemmas.List.Sums.{sum_by-cons}
pub use Rattle.std.proofs.lemmas.Option.{slice_get-get_or, unwrap_or-slice_get}
pub use Rattle.std.specs.List.{before_first, list_any, position_or_len, range_with_len}
pub use Rattle.std.specs.Prelude.{Err, MatchResult, Ok, OnErr, Result, bytes_eq, codes, decimal, if◌then◌else◌, is_some, nat_le, nat_lt, unwrap_or, ℤ, ◌==◌}
pub use Rattle.trac_core.specs.StepOutcomes.{AnswersCall, ClosesCall, EndsQuietly, IsCall, IsValueFrom, LeavesSink, LeavesSource, NoneFailed, Scanned, Scene, Scans, Stands, TakesFrom, Tried, TriedCall, delivered, fate_after, function_at, scene, settled, value_delivered}
pub use Rattle.trac_core.specs.Display.{display, shown}
pub use Rattle.trac_core.specs.Machine.{Answers, BrokeOff, Course, EndsRun, GoesOn, IsReportOf, KeepsFormsAndMeta, KeepsSettings, LeavesMemory, MachineState, Moment, RanThrough, RanToFailure, Reports, ReportsOf, Resumes, StopsAtAllowance, StopsAtInput, StopsAtOutput, StopsAtRoom, after_steps, counted, ending, failing, failing_state_of, first_runs, input_failures, later_runs, fresh_machine, memory_after, moment, output_failures, state_of, state_with}
pub use Rattle.trac_core.specs.Matching.{IsAt, side_in, side_of}
pub use Rattle.trac_core.specs.ReadTexts.{Reads}
pub use Rattle.trac_core.specs.OpenCalls.{asks_host, call_performed_by, calls_unknown, is_unknown, performed_call, stops_at}
pub use Rattle.trac_core.specs.Performed.{performed_by, performs, prints_output, reads_input, touches_device, calls_device, needs_device, needs_device_by}
pub use Rattle.trac_core.specs.NamedCalls.{IsAlone, IsNamed}
pub use Rattle.trac_core.specs.Advancing.{Advanced, EndsAlone, GoesAlone, NeedsMore, StepsAlone, StopsAlone, advanced_to}
pub use Rattle.trac_core.specs.Driving.{Declined, Driven, GoesBy, PerformedAlone, PerformedFor, PerformedWith, Stage, Standing, StepsBy, StopsBy, stage, standing}
pub use Rattle.trac_core.specs.Session.{printed_in}
pub use Rattle.trac_core.specs.StepsInRow.{Advances, AsksFor, IsLayout, IsOrdinary, Passes, PassesTimes, SomeSteps, is_special, kind_in, kind_of, passed, peak_after, turning}
pub use Rattle.trac_language.specs.declared.report.Report.{Report}
pub use Rattle.trac_devices.specs.Devices.{Breaks, Prints, Sent, Stream, Streams, has_byte}
pub use Rattle.trac_forms.specs.Contents.{Contents, IsSound, form_at, part_text, used}
pub use Rattle.trac_functions.specs.Calls.{IsDefined, IsHeld, IsPlaced, IsValue, Makes, is_self_contained, texts, texts_from, world}
pub use Rattle.trac_functions.specs.Flat.{Neutral, arguments_at, is_active_mode, memory_of, memory_with, mode_at, mode_of, neutral_of, no_neutral, texts_of, with_cell, with_cells}
pub use Rattle.trac_functions.specs.declared.arguments.CallResult.TheVariants.{Null, Full, Over, InFront, Unscanned, AtEnd}
pub use Rattle.trac_language.specs.Form.{Form, after_pointer, before_pointer}
pub use Rattle.trac_language.specs.Function.{function_named}
pub use Rattle.trac_language.specs.Meaning.{Answer, Ends, Gives, Meaning, World, before_meta, built, change_meta, form_of_call, from_meta, meaning, on_form, printing, read_all, read_character, read_string, result_or, show, show_form, silent, take_part, value_length, valued, with_input}
unfoldable pub use Rattle.trac_language.specs.Meaning.{meaning_of}
pub use Rattle.trac_language.specs.Protected.{count, protected, split_at_match}
pub use Rattle.trac_language.specs.Rule.{AddCharacter, AddProtected, BeginArgument, BeginCall, ClearActive, DeleteLayout, EndCall, LoadIdling, Rule, is_layout, number_sign_rule, parenthesis_rule}
unfoldable pub use Rattle.trac_language.specs.Rule.{rule}
pub use Rattle.trac_language.specs.Run.{Run}
unfoldable pub use Rattle.trac_language.specs.Run.{run}
pub use Rattle.trac_language.specs.State.{Input, Memory, OpenCall, State, add, argument, arguments, begin_argument, first, size}
pub use Rattle.trac_language.specs.Step.{Next, Outcome, deliver, end_call, end_need, follow, function_of, idling, need_by, perform, with_active, world_of}
unfoldable pub use Rattle.trac_language.specs.Step.{need, step}
pub use Rattle.trac_language.specs.Store.{cells, form_named}
pub use Rattle.trac_language.specs.Text.{Text}
pub use Rattle.trac_language.specs.declared.fate.Fate.{Fate}
pub use Rattle.trac_language.specs.declared.fate.Fate.TheVariants.{Halted, InputEnded, InputFailed, OutputFailed, Steps, Workspace}
pub use Rattle.trac_language.specs.declared.function.Function.{Function}
pub use Rattle.trac_language.specs.declared.function.Function.TheVariants.{Arithmetic, CallCharacter, CallForm, CallNumber, CallRestore, CallSegment, ChangeMeta, Halt, InitialPart, PrintForm, PrintString, ReadCharacter, ReadString, SegmentString}
pub use Rattle.trac_language.specs.declared.item.Item.{Item}
pub use Rattle.trac_language.specs.declared.mode.Mode.{Mode}
pub use Rattle.trac_language.specs.declared.mode.Mode.TheVariants.{Active}
pub use Rattle.trac_laws.specs.StateAfter.{state_after}
pub use Rattle.trac_laws.specs.LastRead.{is_read_string, reads_last, reads_last_by, reads_to_end}
pub use Rattle.trac_space.specs.Calls.{IsLastCall}
pub use Rattle.trac_space.specs.Cells.{IsNoCall, NoCall, is_call, is_comma, seen}
pub use Rattle.trac_space.specs.Runs.{turned}
pub use Rattle.trac_space.specs.Texts.{IsByte, character_of, flat_text, text_of_cells}
pub use Rattle.trac_space.specs.declared.cell.Cell.{Cell}
pub use Rattle.trac_space.specs.declared.cell.Cell.TheVariants.{Byte, Call, Comma}
