-- What C holds of a machine between two calls.
use Rattle.std.specs.Prelude.{◌≡◌, ℕ, ◌<◌, ◌≤◌, ◌⊎◌, [], None, replicate}
use mathlib.Core.Logic.{inl, inr}
use base.Fml.{Fml, fex, fsep}
use base.Fraction.{full_share}
use denote.Array.{Array}
use denote.RawPtr.{Ptr, lies_at, room_at}
use denote.Signature.{static_lft}
use Rattle.std.specs.Mem.{type_size}
use Rattle.trac_space.specs.contracts.cell.Cell as Cell
use Rattle.trac_space.specs.declared.cell.Cell.TheVariants.{Byte}
use Rattle.trac_core.specs.contracts.machine.Machine as Machine
use Rattle.trac_core.specs.Machine.{MachineState, fresh_machine}

-- a machine in this state lies at a place, and has its block for good
abbrev pub machine_at : Ptr → MachineState → Fml
machine_at place m = lies_at (Machine.the_row static_lft) full_share place m

-- the bytes in which a machine lies
abbrev pub machine_bytes : ℕ
machine_bytes = type_size (Machine.the_row static_lft)

-- there is room for a machine
abbrev pub machine_room : Ptr → Fml
machine_room place = room_at (Machine.the_row static_lft) place

-- there is room for `cells` cells at `block`
abbrev pub cells_room : ℕ → Ptr → Fml
cells_room cells block = room_at (Array Cell.the_row cells) block

-- there are `cells` cells at `block` whose bytes are 0: each is the character 0
abbrev pub zeroed : ℕ → Ptr → Fml
zeroed cells block =
    lies_at (Array Cell.the_row cells) full_share block (replicate cells (Byte 0))

-- a number of cells that is taken, with the answer 0, or refused, with the answer 9
abbrev pub Opening : (cells answer : ℕ) → Type 0
Opening cells answer = ((cells ≤ 16777216) × (answer ≡ 0)) ⊎ ((16777216 < cells) × (answer ≡ 9))

-- what there is after an opening: a new machine, which has the block, or the rooms as before
abbrev pub opened_by :
    (cells steps : ℕ) → (place block : Ptr) → (answer : ℕ) → Opening cells answer → Fml
opened_by cells steps place block answer (inl taken) = machine_at place (fresh_machine cells steps)
opened_by cells steps place block answer (inr refused) =
    fsep (machine_room place) (cells_room cells block)

abbrev pub opened : (cells steps : ℕ) → (place block : Ptr) → (answer : ℕ) → Fml
opened cells steps place block answer =
    fex (Opening cells answer) (opened_by cells steps place block answer)

-- what there is after an opening over zero bytes: a new machine, which has the block, or what was there before
abbrev pub opened_zeroed_by :
    (cells steps : ℕ) → (place block : Ptr) → (answer : ℕ) → Opening cells answer → Fml
opened_zeroed_by cells steps place block answer (inl taken) = machine_at place (fresh_machine cells steps)
opened_zeroed_by cells steps place block answer (inr refused) =
    fsep (machine_room place) (zeroed cells block)

abbrev pub opened_zeroed : (cells steps : ℕ) → (place block : Ptr) → (answer : ℕ) → Fml
opened_zeroed cells steps place block answer =
    fex (Opening cells answer) (opened_zeroed_by cells steps place block answer)

-- a machine that stands in a relation to what it was lies at a place
abbrev pub machine_after : Ptr → (MachineState → Type 0) → Fml
machine_after place Holds = fex ((m : MachineState) × Holds m) (λ t. machine_at place t.0)

-- a machine whose strings are cleared, and which begins a new run
abbrev pub begun_again : (steps : ℕ) → MachineState → MachineState
begun_again steps m =
    record m {
      memory = record m.memory { active = []; base = []; calls = [] };
      allowance = steps;
      steps = 0;
      peak = 0;
      fate = None;
    }
