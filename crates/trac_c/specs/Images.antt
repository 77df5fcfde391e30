-- Images that C gives to a machine that it keeps.
use Rattle.std.specs.Prelude.{◌≡◌, ℕ, ◌⊎◌}
use Rattle.trac_language.specs.Text.{Text}
use Rattle.trac_core.specs.Machine.{MachineState}
use Rattle.trac_image.specs.Loading.{IsLoadable, Loads}

-- an image that can be taken is, with the answer 0; else the answer is 9, and nothing has changed
abbrev pub Loaded : (image : Text) → MachineState → (answer : ℕ) → MachineState → Type 0
Loaded image old answer new =
    (IsLoadable old image × (answer ≡ 0) × Loads old image new)
    ⊎ ((IsLoadable old image → ⊥) × (answer ≡ 9) × (new ≡ old))
