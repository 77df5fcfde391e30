-- What a step reads, by the arguments of the innermost call.
use Rattle.std.proofs.Common.{◌≡◌, ◌∙◌, ◌+◌, ◌⊎◌, inl, inr, ℕ, suc, Bool, true, false, List, [], ◌∷◌, Option, Some, None, ap, arith, drop, if◌then◌else◌, refl, subst, sym, take}
use Rattle.std.specs.Prelude.{option_map, unwrap_or}
use Rattle.std.proofs.lemmas.List.Elements.{All-cons}
use Rattle.trac_language.specs.declared.function.Function.{Function}
use Rattle.trac_language.specs.Function.{function_named}
use Rattle.trac_language.specs.State.{OpenCall, argument, arguments}
use Rattle.trac_language.specs.Rule.{Rule, LoadIdling, DeleteLayout, AddProtected, ClearActive, BeginArgument, BeginCall, EndCall, AddCharacter, rule}
use Rattle.trac_space.specs.Calls.{IsLastCall}
use Rattle.trac_space.specs.Cells.{IsNoCall, NoCall, is_call}
use Rattle.trac_space.specs.Texts.{text_of_cells}
use Rattle.trac_space.specs.declared.cell.Cell.{Cell}
use Rattle.trac_functions.specs.Flat.{Neutral, neutral_of}
use Rattle.trac_functions.proofs.ArgumentLemmas.{texts_of-first}
use Rattle.trac_functions.proofs.FlatLemmas.{arguments-call_at, call_at, calls-none, neutral_of-innermost}
use Rattle.trac_core.specs.Machine.{MachineState}
use Rattle.trac_core.specs.OpenCalls.{mark_of}
use Rattle.trac_core.specs.Performed.{performed_by}
use Rattle.trac_language.specs.Step.{function_of}
use Rattle.trac_core.specs.Session.{awaited, next_function}
use Rattle.trac_core.specs.View.{neutral_in}
use Rattle.trac_core.specs.declared.machine.open_calls.CallMark.{CallMark}
use Rattle.trac_core.specs.declared.machine.session.Awaits.TheVariants.{Nothing}
use Rattle.trac_core.proofs.OpenCalls.{mark_from, mark-last, mark-none}
use Rattle.trac_events.specs.Calls.{argument_of, top_frame}
use Rattle.trac_events.proofs.FirstComma.{first_comma}

-- the last mark of a call among cells, if there is one
last-call : (cells : List Cell) → NoCall cells ⊎ ((place : ℕ) × IsLastCall cells place)
last-call [] = inl (λ k d within. absurd (omega (arith, within)))
last-call (cell ∷ cells) = go (last-call cells) (is_call cell) refl
  where
    go : NoCall cells ⊎ ((place : ℕ) × IsLastCall cells place) → (b : Bool) → is_call cell ≡ b → NoCall (cell ∷ cells) ⊎ ((place : ℕ) × IsLastCall (cell ∷ cells) place)
    go (inr last) b is =
        let next : suc last.0 + 1 ≡ suc (last.0 + 1) = omega arith in
        inr (
          suc last.0,
          record {
            mark = (omega (arith, last.1.mark.0), last.1.mark.1);
            after = subst (λ n. NoCall (drop n (cell ∷ cells))) (sym next) last.1.after;
          },
        )
    go (inl none) true is = inr (0, record { mark = (omega arith, is); after = none })
    go (inl none) false is = inl (All-cons IsNoCall cell cells is none)

-- the function of a call is named by what stands before the first comma mark behind its mark
named : (neutral : List Cell) (place : ℕ) → IsLastCall neutral place → function_named (argument (arguments (call_at neutral place)) 0) ≡ function_named (text_of_cells (argument_of (top_frame neutral place) 0))
named neutral place last =
    let frame = top_frame neutral place in
    ap (λ texts. function_named (argument texts 0)) (arguments-call_at neutral place last)
    ∙ ap function_named (texts_of-first frame ∙ ap (λ n. text_of_cells (take n frame)) (first_comma frame))

if-nothing : (b : Bool) (function : Option Function) → awaited function ≡ Nothing → awaited (if b then function else None) ≡ Nothing
if-nothing true function e = e
if-nothing false function e = refl

-- a step by a rule performs the innermost call, or none
by-rule : (r : Rule) (call : OpenCall) (outer : List OpenCall) → awaited (function_of call) ≡ Nothing → awaited (performed_by r (call ∷ outer)) ≡ Nothing
by-rule (EndCall rest) call outer e = e
by-rule LoadIdling call outer e = refl
by-rule (DeleteLayout rest) call outer e = refl
by-rule (AddProtected inside rest) call outer e = refl
by-rule ClearActive call outer e = refl
by-rule (BeginArgument rest) call outer e = refl
by-rule (BeginCall mode rest) call outer e = refl
by-rule (AddCharacter c rest) call outer e = refl

by-none : (r : Rule) → performed_by r [] ≡ None
by-none (EndCall rest) = refl
by-none LoadIdling = refl
by-none (DeleteLayout rest) = refl
by-none (AddProtected inside rest) = refl
by-none ClearActive = refl
by-none (BeginArgument rest) = refl
by-none (BeginCall mode rest) = refl
by-none (AddCharacter c rest) = refl

module _ (m : MachineState) (neutral : List Cell) (is : neutral_of neutral ≡ neutral_in m.memory) where
  at : (o : Option CallMark) → o ≡ mark_of 0 (neutral_in m.memory) → o ≡ mark_of 0 (neutral_of neutral)
  at o e = e ∙ ap (mark_of 0) (sym is)

  calls-are : (calls : List OpenCall) → (neutral_of neutral).calls ≡ calls → m.memory.calls ≡ calls
  calls-are calls e = sym (ap (λ (n : Neutral). n.calls) is) ∙ e

  -- without an open call the step reads nothing
  pub none-reads : None ≡ mark_of 0 (neutral_in m.memory) → awaited (next_function m) ≡ Nothing
  none-reads e = if-nothing _ (performed_by (rule m.memory.active) m.memory.calls) (go (last-call neutral))
    where
      go : NoCall neutral ⊎ ((place : ℕ) × IsLastCall neutral place) → awaited (performed_by (rule m.memory.active) m.memory.calls) ≡ Nothing
      go (inl none) = ap (λ calls. awaited (performed_by (rule m.memory.active) calls)) (calls-are [] (calls-none neutral none)) ∙ ap awaited (by-none (rule m.memory.active))
      go (inr last) = let some = at None e ∙ mark-last 0 neutral last.0 last.1 in absurd cc

  -- nor does it where the innermost call names a function that reads nothing
  pub other-reads : (mark : CallMark) → Some mark ≡ mark_of 0 (neutral_in m.memory) → awaited (function_named (text_of_cells (argument_of (top_frame neutral mark.place) 0))) ≡ Nothing → awaited (next_function m) ≡ Nothing
  other-reads mark e nothing = if-nothing _ (performed_by (rule m.memory.active) m.memory.calls) (go (last-call neutral))
    where
      go : NoCall neutral ⊎ ((place : ℕ) × IsLastCall neutral place) → awaited (performed_by (rule m.memory.active) m.memory.calls) ≡ Nothing
      go (inl none) = let no = at (Some mark) e ∙ mark-none 0 neutral none in absurd cc
      go (inr last) =
          let innermost = neutral_of-innermost neutral last.0 last.1 in
          let same : Some mark ≡ mark_from 0 neutral last.0 = at (Some mark) e ∙ mark-last 0 neutral last.0 last.1 in
          let place : mark.place ≡ last.0 = ap (λ o. unwrap_or (option_map (λ (m : CallMark). m.place) o) 0) same in
          let outer = (neutral_of (take last.0 neutral)).calls in
          ap (λ calls. awaited (performed_by (rule m.memory.active) calls)) (calls-are _ (ap (λ (n : Neutral). n.calls) innermost))
          ∙ by-rule (rule m.memory.active) (call_at neutral last.0) outer
          (ap awaited (named neutral last.0 last.1) ∙ subst (λ n. awaited (function_named (text_of_cells (argument_of (top_frame neutral n) 0))) ≡ Nothing) place nothing)
