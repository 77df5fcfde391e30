use Rattle.trac_events.proofs.Imports.{◌≡◌, ◌≤◌, ◌∙◌, ℕ, List, [], None, Some, ap, sym, arith, length, length-map, slice_get, unwrap_or, unwrap_or-slice_get, Cell, character_of, text_of_cells}
use Rattle.trac_language.specs.State.{argument, size}
use Rattle.trac_core.specs.Machine.{MachineState}
use Rattle.trac_core.specs.OpenCalls.{next_texts}
use Rattle.trac_events.proofs.ArgumentLengths.{argument-fits}
use Rattle.trac_events.proofs.source.next_argument.Goals as goal

-- the characters of an argument that is there
there : (m : MachineState) (k : ℕ) (cells : List Cell) → slice_get (next_texts m) k ≡ Some (text_of_cells cells) → text_of_cells cells ≡ argument (next_texts m) k
there m k cells e = sym (ap (λ o. unwrap_or o []) e) ∙ unwrap_or-slice_get (next_texts m) k []

-- an argument that is not there is null
missing : (m : MachineState) (k : ℕ) → slice_get (next_texts m) k ≡ None → [] ≡ argument (next_texts m) k
missing m k e = sym (ap (λ o. unwrap_or o []) e) ∙ unwrap_or-slice_get (next_texts m) k []

-- it is no longer than the memory is large
fits : (m : MachineState) (k : ℕ) (cells : List Cell) → slice_get (next_texts m) k ≡ Some (text_of_cells cells) → size m.memory ≤ 16777216 → length cells ≤ 16777216
fits m k cells e small =
    let same = sym (length-map cells character_of) ∙ ap length (there m k cells e) in
    omega (arith, same, small, argument-fits m k)

pub returns-in-Some-clause-argument : goal.returns-in-Some-clause-argument
returns-in-Some-clause-argument c = there c.args.machine.now c.args.which c.in-Some.text.now c.in-Some.ensures.argument

pub returns-in-Some-clause-few : goal.returns-in-Some-clause-few
returns-in-Some-clause-few c = fits c.args.machine.now c.args.which c.in-Some.text.now c.in-Some.ensures.argument

pub returns-in-None-clause-argument : goal.returns-in-None-clause-argument
returns-in-None-clause-argument c = missing c.args.machine.now c.args.which c.in-None.ensures.argument
