-- What the proofs of this crate import.
pub use Rattle.std.proofs.Common.{Bool, List, None, Option, Some, [], ap, append-nil, append_assoc, ap₂, arith, cond, drop, false, inl, inr, length, max, min, not, pos, refl, subst, suc, sym, take, take-append-drop, true, zero, ℕ, ℤ, ⊎_elim, ◌&&◌, ◌++◌, ◌+◌, ◌-◌, ◌<◌, ◌||◌, ◌↔◌, ◌∙◌, ◌∷◌, ◌≡◌, ◌≢◌, ◌≤◌, ◌⊎◌}
pub use Rattle.std.proofs.lemmas.Bool.{and_cases, and_from, and_left, and_parts, and_right, both_ways, cases_Bool, cases_eq, cases_lt, cond_both, eq-eqb, eqb-true, false≢true, le-ltb, lt-ltb, ne_eqb}
pub use Rattle.std.proofs.lemmas.List.{append_cancel_left, append_cancel_right, drop_at, length-append, length-drop, length-take, nil_from_length, take-append-le, take_all, take_at}
pub use Rattle.std.proofs.lemmas.List.Elements.{recursion_from_All}
pub use Rattle.std.proofs.lemmas.List.Folds.{list_any-append}
pub use Rattle.std.proofs.lemmas.List.Sums.{sum_by_push}
pub use Rattle.std.specs.Cmp.Lexicographic.{bytes_decides}
unfoldable pub use Rattle.std.specs.Fmt.{digits}
pub use Rattle.std.specs.List.{before_first, list_any, position_or_len, prefix_len, range_with_len}
pub use Rattle.std.specs.Prelude.{All, bytes_eq, codes, filter, if◌then◌else◌, map, nat_lt, negsuc, option_map, take_while, ⊤, ◌==◌}
pub use Rattle.trac_language.specs.Form.{Form, after_pointer, before_pointer, fill, is_character, items_of, text_of}
pub use Rattle.trac_language.specs.Meaning.{Answer, Ends, Gives, Meaning, World, before_meta, built, change_meta, from_meta, meaning, on_form, printing, read_all, read_character, read_string, result_or, show_form, silent, take_part, value_length, valued, with_form}
unfoldable pub use Rattle.trac_language.specs.Meaning.{meaning_of}
pub use Rattle.trac_language.specs.Number.{number, prefix}
pub use Rattle.trac_language.specs.Part.{Part, backward, characters, first_characters, forward, initial_part, last_characters, next_segment, segment_from, unless_null, up_to}
pub use Rattle.trac_language.specs.Protected.{count, protected}
unfoldable pub use Rattle.trac_language.specs.Protected.{split_at_match}
pub use Rattle.trac_language.specs.Rule.{AddCharacter, AddProtected, BeginArgument, BeginCall, ClearActive, DeleteLayout, EndCall, LoadIdling, Rule, parenthesis_rule}
unfoldable pub use Rattle.trac_language.specs.Rule.{rule}
pub use Rattle.trac_language.specs.Run.{Run, counted, go_on, one_more, stopped, within}
unfoldable pub use Rattle.trac_language.specs.Run.{run}
pub use Rattle.trac_language.specs.Segment.{begins, place_of, segment_by}
unfoldable pub use Rattle.trac_language.specs.Segment.{segment_after}
pub use Rattle.trac_language.specs.State.{Input, Memory, OpenCall, State, add, add_to, argument, arguments, begin_argument, first, size}
pub use Rattle.trac_language.specs.Step.{Next, Outcome, Over, deliver, end_call, end_need, follow, function_of, need_by, perform, with_active, world_of}
unfoldable pub use Rattle.trac_language.specs.Step.{need, step}
pub use Rattle.trac_language.specs.Store.{IsStore, NoneNamed, changed, defined, form_named, is_named, without}
pub use Rattle.trac_language.specs.Text.{Text}
pub use Rattle.trac_language.specs.declared.fate.Fate.{Fate}
pub use Rattle.trac_language.specs.declared.fate.Fate.TheVariants.{Halted, InputEnded, InputFailed, Steps, Workspace}
pub use Rattle.trac_language.specs.declared.function.Function.{Function}
pub use Rattle.trac_language.specs.declared.function.Function.TheVariants.{Arithmetic, CallCharacter, CallForm, CallNumber, CallRestore, CallSegment, ChangeMeta, DefineString, DeleteAll, DeleteDefinition, Halt, InitialPart, PrintForm, ReadCharacter, ReadString, SegmentString}
pub use Rattle.trac_language.specs.declared.item.Item.{Item}
pub use Rattle.trac_language.specs.declared.item.Item.TheVariants.{Byte, Gap}
pub use Rattle.trac_language.specs.declared.mode.Mode.{Mode}
pub use Rattle.trac_language.specs.declared.mode.Mode.TheVariants.{Active, Neutral}
pub use Rattle.trac_laws.specs.Balance.{IsBalanced, IsProtected}
pub use Rattle.trac_laws.specs.Fitting.{Begins, Fits, IsAdded}
pub use Rattle.trac_laws.specs.LastRead.{end_reads_last, is_read_string, reads_last, reads_last_by, reads_to_end}
pub use Rattle.trac_laws.specs.Laws.{FewerSteps, IsPrefix, LeastRoom, LessRoom, MoreRoom, MoreSteps, Quoted, ReadsNoFurther, quoting, with_more}
pub use Rattle.trac_laws.specs.Stepping.{Adds, AddsArgument, Delivers, Does, EndsCall, FollowsMeaning, IsAfter, Leads, rest_of}
