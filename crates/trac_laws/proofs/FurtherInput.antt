-- A step that doesn't read to the end of its input does the same where more stands behind that.
use Rattle.trac_laws.proofs.Imports.{◌≡◌, ℕ, Form, Bool, true, false, not, ◌||◌, List, [], ◌∷◌, ◌++◌, Option, Some, None, refl, sym, ap, ap₂, subst, ◌∙◌, append_assoc, ⊎_elim, ◌==◌, list_any, and_cases, and_left, and_right, list_any-append, Mode, Function}
use Rattle.trac_laws.proofs.Imports.{Text, Input, OpenCall, State, arguments, World, Meaning, Gives, Ends, meaning, Rule, EndCall, rule, Outcome, Next, Over, function_of, world_of, perform, end_call, follow, step, need}
use Rattle.trac_laws.proofs.Imports.{is_read_string, reads_last, end_reads_last, reads_last_by, reads_to_end, ReadsNoFurther, with_more}
use Rattle.trac_laws.proofs.Shape.{LeftOf, Reading, Stopped, Given, Shape, Reads, Ended, Does, shape}
use Rattle.trac_laws.proofs.TakenInput.{standing, step_anywhere}

-- ---- what is left of the input stands at its end

abbrev Leaves : Input → Meaning → Type 0
Leaves i (Gives answer) = LeftOf i answer.world.input
Leaves i (Ends fate) = Unit {0}

leaves-shape : (f : Function) (forms : List Form) (meta : ℕ) (m : Input → Meaning) → Shape f forms meta m → (i : Input) → Leaves i (m i)
leaves-shape f forms meta m (Reads r each) i = go (each i)
  where
    go : Reading forms meta i (m i) → Leaves i (m i)
    go (Stopped fate e) = subst (Leaves i) (sym e) tt
    go (Given value left of e) = subst (Leaves i) (sym e) of
leaves-shape f forms meta m (Ended fate e) i = subst (Leaves i) (sym (e i)) tt
leaves-shape f forms meta m (Does value forced forms' meta' printed keeps quiet e) i = subst (Leaves i) (sym (e i)) ([], (refl, refl))

meaning_leaves : (f : Option Function) (args : List Text) (world : World) → Leaves world.input (meaning f args world)
meaning_leaves None args world = ([], (refl, refl))
meaning_leaves (Some f) args world = leaves-shape f world.forms world.meta _ (shape f args world.forms world.meta) world.input

abbrev LeavesNext : Input → Outcome → Type 0
LeavesNext i (Next s) = LeftOf i s.input
LeavesNext i (Over fate) = Unit {0}

perform_leaves : (mode : Mode) (m : Meaning) (i : Input) (s : State) → Leaves i m → LeavesNext i (perform mode m s)
perform_leaves mode (Gives answer) i s left = left
perform_leaves mode (Ends fate) i s left = tt

end_leaves : (calls : List OpenCall) (s : State) → LeavesNext s.input (end_call calls s)
end_leaves [] s = ([], (refl, refl))
end_leaves (call ∷ outer) s = perform_leaves call.mode (meaning (function_of call) (arguments call) (world_of s)) s.input _ (meaning_leaves (function_of call) (arguments call) (world_of s))

follow_leaves : (r : Rule) (s : State) → LeavesNext s.input (follow r s)
follow_leaves (EndCall rest) s = end_leaves s.memory.calls _
follow_leaves r s = ([], (refl, refl))

step_leaves : (s t : State) → step s ≡ Next t → LeftOf s.input t.input
unfolding step
step_leaves s t e = subst (LeavesNext s.input) e (follow_leaves (rule s.memory.active) s)

-- ---- the law

pub reads_no_further_law : ReadsNoFurther
reads_no_further_law before after more fails open_still last e =
    let left = step_leaves before after e in
    let g = left.0 in
    let r = after.input.text in
    let here : before ≡ standing before.memory (g ++ r) false before.output = ap₂ (λ t b. standing before.memory t b before.output) left.1.0 open_still in
    let there : after ≡ standing after.memory r false after.output = ap (λ b. standing after.memory r b after.output) (left.1.1 ∙ open_still) in
    let same = step_anywhere g r before.output after.output after.memory before.memory (sym (ap reads_to_end here) ∙ last) (sym (ap step here) ∙ e ∙ ap Next there) (r ++ more) fails in
    let text : before.input.text ++ more ≡ g ++ (r ++ more) = ap (λ t. t ++ more) left.1.0 ∙ append_assoc g r more in (
      ap (λ t. step (standing before.memory t fails before.output)) text ∙ same.0,
      ap (λ t. need (standing before.memory t fails before.output)) text ∙ same.1 ∙ sym (ap need here),
    )

-- ---- nor does it read to the end then

abbrev behind : Text → Bool → World → World
behind more fails world = record world { input = record { text = world.input.text ++ more; fails = fails } }

pub any_still : (any more : Bool) → not any ≡ false → not (any || more) ≡ false
any_still true more e = refl
any_still false more e = cc

call_still : (f : Option Function) (world : World) (more : Text) (fails : Bool) → reads_last f world ≡ false → reads_last f (behind more fails world) ≡ false
call_still None world more fails e = refl
call_still (Some f) world more fails e =
    let is_meta = λ (c : ℕ). c == world.meta in
    let text = world.input.text in
    ⊎_elim
    (λ other. and_left (is_read_string f) (not (list_any is_meta (text ++ more))) other)
    (λ any. and_right (is_read_string f) (not (list_any is_meta (text ++ more))) (ap not (list_any-append is_meta text more) ∙ any_still (list_any is_meta text) (list_any is_meta more) any))
    (and_cases (is_read_string f) (not (list_any is_meta text)) e)

end_still : (calls : List OpenCall) (world : World) (more : Text) (fails : Bool) → end_reads_last calls world ≡ false → end_reads_last calls (behind more fails world) ≡ false
end_still [] world more fails e = refl
end_still (call ∷ outer) world more fails e = call_still (function_of call) world more fails e

rule_still : (r : Rule) (s : State) (more : Text) (fails : Bool) → reads_last_by r s ≡ false → reads_last_by r (with_more more fails s) ≡ false
rule_still (EndCall rest) s more fails e = end_still s.memory.calls (world_of s) more fails e
rule_still r s more fails e = refl

pub still_not_last : (s : State) (more : Text) (fails : Bool) → reads_to_end s ≡ false → reads_to_end (with_more more fails s) ≡ false
still_not_last s more fails e = rule_still (rule s.memory.active) s more fails e
