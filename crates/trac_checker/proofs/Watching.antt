-- A run that is watched, step by step beside the run of the definition.
use Rattle.std.proofs.Common.{◌≡◌, ℕ, suc, [], ◌++◌, Some, ap, map, reverse, refl, sym, subst}
use Rattle.trac_language.specs.declared.fate.Fate.{Fate}
use Rattle.trac_language.specs.declared.report.Report.{Report}
use Rattle.trac_language.specs.Text.{Text}
use Rattle.trac_devices.specs.Devices.{Stream}
use Rattle.trac_core.specs.Machine.{MachineState, Moment, moment, Answers, GoesOn, fresh_machine}
use Rattle.trac_core.proofs.Moments.{OnCourse, course-none, course-more}
use Rattle.trac_core.proofs.Reported.{course_to, report_of, reported, reports-made}
use Rattle.trac_views.specs.CallLines.{is_fault}
use Rattle.trac_warnings.specs.Watched.{IsFresh, KeepsRun, said}
use Rattle.trac_warnings.specs.declared.watch.Watch.{Watch}
use Rattle.trac_checker.specs.FoundSoFar.{FoundSoFar, found_in_script, with_all, with_fault, with_names}
use Rattle.trac_checker.specs.Warned.{names_of}
use Rattle.trac_checker.specs.WatchedRuns.{WatchedSoFar, Watches, WatchesRun, WatchesSteps, not_begun}

-- how far a run has come
abbrev pub so_far : {A : Type 0} → Moment → Watch A → FoundSoFar → WatchedSoFar A
so_far at watch found = record { at = at; watch = watch; found = found }

-- the definition's run led from `start` to the moment `at`, and was watched: the watch is then `watch`, and `found` is
-- what was found
pub record IsWatched {A : Type 0} (input : Text) (start : MachineState) (bytes : Stream) (at : Moment) (watch : Watch A) (found : FoundSoFar) : Type 0 where
  pub first : Watch A
  pub fresh : IsFresh first
  pub count : ℕ
  pub goes : WatchesSteps input count (not_begun input (moment start bytes []) first) (so_far at watch found)
  pub course : OnCourse start bytes.bytes [] at

watched-none : {A : Type 0} (input : Text) (start : MachineState) (bytes : Stream) (watch : Watch A) → IsFresh watch → IsWatched input start bytes (moment start bytes []) watch (found_in_script input)
watched-none input start bytes watch fresh =
    record {
      first = watch;
      fresh = fresh;
      count = 0;
      goes = refl;
      course = course-none start bytes [];
    }

-- before the first step only the script's spelling was looked at
pub watched-first : {A : Type 0} (input : Text) (room allowance : ℕ) (bytes : Stream) (m : MachineState) (written : Text) (watch : Watch A) (found : FoundSoFar) → IsFresh watch → m ≡ fresh_machine room allowance → written ≡ [] → found ≡ found_in_script input → IsWatched input (fresh_machine room allowance) bytes (moment m bytes written) watch found
watched-first input room allowance bytes m written watch found fresh m_is written_is found_is =
    let start = fresh_machine room allowance in
    subst (λ m. IsWatched input start bytes (moment m bytes written) watch found) (sym m_is)
    (subst (λ written. IsWatched input start bytes (moment start bytes written) watch found) (sym written_is)
    (subst (IsWatched input start bytes (moment start bytes []) watch) (sym found_is) (watched-none input start bytes watch fresh)))

module _ {A : Type 0} (input : Text) (start : MachineState) (bytes : Stream) (old new : Moment) (watch judged kept : Watch A) (found more : FoundSoFar) (room_is : old.machine.room ≡ start.room) (so : IsWatched input start bytes old watch found) (watches : Watches input old.machine new.machine watch judged) (keeps : KeepsRun judged kept) (finds : more ≡ with_all (reverse (map said judged.warnings.items)) found) where
  -- one step more was watched, and the run goes on
  pub watched-more : (taken : Text) → old.source.bytes ≡ taken ++ new.source.bytes → GoesOn old new → IsWatched input start bytes new kept more
  watched-more taken took goes_on =
      record {
        first = so.first;
        fresh = so.fresh;
        count = suc so.count;
        goes = (so_far old watch found, (so.goes, record { goes = goes_on; finds = record { judged = judged; watches = watches; keeps = keeps; finds = finds } }));
        course = course-more start bytes.bytes [] taken old new room_is took so.course goes_on;
      }

-- the step with which the run is over
pub watched-over : {A : Type 0} (input : Text) (room allowance : ℕ) (bytes : Stream) (old new : Moment) (watch judged kept : Watch A) (found more whole : FoundSoFar) (fate : Fate) (report : Report) → old.machine.room ≡ room → old.machine.allowance ≡ allowance → IsWatched input (fresh_machine room allowance) bytes old watch found → Watches input old.machine new.machine watch judged → KeepsRun judged kept → more ≡ with_all (reverse (map said judged.warnings.items)) found → whole ≡ with_names input (with_fault (is_fault fate) input kept more) → Answers old (Some fate) new → report ≡ report_of fate new.machine → WatchesRun A input room allowance bytes new.source (names_of kept.names.items) whole.counts report
watched-over {A} input room allowance bytes old new watch judged kept found more whole fate report room_is allowance_is so watches keeps finds whole_is answers report_is =
    let start = fresh_machine room allowance in
    subst (WatchesRun A input room allowance bytes new.source (names_of kept.names.items) whole.counts) (sym report_is) (record {
      first = so.first;
      fresh = so.fresh;
      count = so.count;
      before = so_far old watch found;
      after = so_far new kept more;
      goes = so.goes;
      ends = record { answers = answers; finds = record { judged = judged; watches = watches; keeps = keeps; finds = finds } };
      left = refl;
      steps = refl;
      peak = refl;
      reports =
          reports-made start refl fate (course_to start bytes.bytes [] new) (report_of fate new.machine) refl
          (reported start bytes.bytes [] old new room_is allowance_is so.course fate answers);
      names_are = refl;
      found_is = ap (λ (f : FoundSoFar). f.counts) whole_is;
    })
