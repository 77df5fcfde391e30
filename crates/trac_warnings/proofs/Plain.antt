-- Steps that read nothing and only take a character from the active string.
use Rattle.std.proofs.Common.{◌≡◌, ◌∙◌, ◌-◌, ◌++◌, ◌∷◌, ℕ, Bool, true, false, List, [], ap, length, map, refl, subst, sym}
use Rattle.std.specs.Prelude.{◌&&◌, reverse}
use Rattle.trac_space.specs.declared.cell.Cell.{Cell}
use Rattle.trac_functions.specs.Flat.{neutral_of}
use Rattle.trac_core.specs.Machine.{MachineState}
use Rattle.trac_core.specs.View.{neutral_in}
use Rattle.trac_core.specs.declared.machine.session.Awaits.{Awaits}
use Rattle.trac_core.specs.declared.machine.session.Awaits.TheVariants as awaits
use Rattle.trac_core.specs.declared.rules.ScanningRule.{ScanningRule}
use Rattle.trac_core.specs.declared.rules.ScanningRule.TheVariants as row
use Rattle.trac_events.specs.Calls.{SeesValue}
use Rattle.trac_events.specs.declared.before.Before.{Before}
use Rattle.trac_warnings.specs.Counted.{counts_behind, counts_of}
use Rattle.trac_warnings.specs.Looked.{place_of}
use Rattle.trac_warnings.specs.Origins.{in_input, moved, taken}
use Rattle.trac_warnings.specs.StepWarnings.{JudgesStep, calls_behind, ended, is_plain, not_ended, read_warnings, reads_nothing}
use Rattle.trac_warnings.specs.StepWarnings.{rule_warnings, strings_behind, strings_read, takes_only}
use Rattle.trac_warnings.specs.Watched.{Moves, Reads, ReadsLen, Said, said}
use Rattle.trac_warnings.specs.declared.watch.OpenString.{OpenString}
use Rattle.trac_warnings.specs.declared.watch.Watch.{Watch}

both_left : (a b : Bool) → (a && b) ≡ true → a ≡ true
both_left true b is = refl
both_left false b is = is

both_right : (a b : Bool) → (a && b) ≡ true → b ≡ true
both_right true b is = is
both_right false b is = absurd cc

reads_none : (a : Awaits) → reads_nothing a ≡ true → a ≡ awaits.Nothing
reads_none awaits.Nothing is = refl
reads_none awaits.Text is = absurd cc
reads_none awaits.Byte is = absurd cc

-- what holds for these rules
by_rule : (P : ScanningRule → Type 0) → P row.Layout → P row.NumberSign → P row.Character → (r : ScanningRule) → takes_only r ≡ true → P r
by_rule P layout sign character row.Layout is = layout
by_rule P layout sign character row.NumberSign is = sign
by_rule P layout sign character row.Character is = character
by_rule P layout sign character row.Idling is = absurd cc
by_rule P layout sign character row.Protection is = absurd cc
by_rule P layout sign character row.Argument is = absurd cc
by_rule P layout sign character row.ActiveCall is = absurd cc
by_rule P layout sign character row.NeutralCall is = absurd cc
by_rule P layout sign character row.EndOfCall is = absurd cc

no_more : (reported : List Said) → reported ≡ reported ++ [] ++ []
no_more [] = refl
no_more (first ∷ reported) = ap (λ t. first ∷ t) (no_more reported)

module _ {A : Type 0} (before : Before) (m : MachineState) (input : List ℕ) (old new : Watch A) (value neutral : List Cell) (active : ℕ) (plain : is_plain before ≡ true) (active_is : active ≡ length m.memory.active) where
  only : takes_only before.rule ≡ true
  only = both_right (reads_nothing before.awaits) (takes_only before.rule) plain

  none : before.awaits ≡ awaits.Nothing
  none = reads_none before.awaits (both_left (reads_nothing before.awaits) (takes_only before.rule) plain)

  pub plain_counted : counts_of new.written.entries ≡ counts_of old.written.entries → counts_of new.written.entries ≡ counts_behind before.rule old
  plain_counted is = by_rule (λ r. counts_of new.written.entries ≡ counts_behind r old) is is is before.rule only

  pub plain_moves : reverse new.runs.items ≡ taken (before.active - active) (reverse old.runs.items) → Moves before m old new
  plain_moves is =
      let there = is ∙ ap (λ n. taken (before.active - n) (reverse old.runs.items)) active_is in (
        in_input old.read,
        (
          (λ r. refl),
          by_rule (λ r. reverse new.runs.items ≡ moved r before.active (length m.memory.active) (in_input old.read) (reverse old.runs.items)) there there there before.rule only,
        ),
      )

  pub plain_reads : SeesValue m before.call before.active value → new.read ≡ old.read → Reads before m input old.read new.read
  plain_reads sees is =
      (value, (sees, subst (λ a. ReadsLen a before input (length value) old.read new.read) (sym none) is))

  abbrev strings_at : ScanningRule → Awaits → ℕ → List OpenString
  strings_at r a n = strings_read a before input old.read (length value) n (length (calls_behind r old)) (strings_behind r old)

  abbrev reported_at : ScanningRule → Awaits → ℕ → List Said
  reported_at r a n =
      ended r n (place_of old) (calls_behind r old)
      (map said old.warnings.items ++ rule_warnings r old before n (length neutral) ++ read_warnings a before input old.read (length value))
      (strings_at r a n)

  pub plain_judges : SeesValue m before.call before.active value → neutral_of neutral ≡ neutral_in m.memory
      → map said new.warnings.items ≡ ended before.rule active (place_of old) old.calls.items (map said old.warnings.items) (reverse old.strings.items)
      → new.calls.items ≡ old.calls.items → reverse new.strings.items ≡ not_ended active (reverse old.strings.items) → JudgesStep before m input old new
  plain_judges sees neutral_is reported calls strings =
      let n = length m.memory.active in
      let ends = λ (r : ScanningRule). ap (λ t. ended r active (place_of old) old.calls.items t (reverse old.strings.items)) (no_more (map said old.warnings.items)) in
      let whole : ended before.rule active (place_of old) old.calls.items (map said old.warnings.items) (reverse old.strings.items) ≡ reported_at before.rule awaits.Nothing active =
      by_rule (λ r. ended r active (place_of old) old.calls.items (map said old.warnings.items) (reverse old.strings.items) ≡ reported_at r awaits.Nothing active) (ends row.Layout) (ends row.NumberSign) (ends row.Character) before.rule only in
      let same : reverse old.strings.items ≡ strings_at before.rule awaits.Nothing active =
      by_rule (λ r. reverse old.strings.items ≡ strings_at r awaits.Nothing active) refl refl refl before.rule only in (
        value,
        (
          neutral,
          (
            sees,
            (
              neutral_is,
              (
                reported ∙ whole ∙ ap (λ a. reported_at before.rule a active) (sym none) ∙ ap (reported_at before.rule before.awaits) active_is,
                (
                  by_rule (λ r. new.calls.items ≡ calls_behind r old) calls calls calls before.rule only,
                  strings ∙ ap (not_ended active) (same ∙ ap (λ a. strings_at before.rule a active) (sym none)) ∙ ap (λ k. not_ended k (strings_at before.rule before.awaits k)) active_is,
                ),
              ),
            ),
          ),
        ),
      )
