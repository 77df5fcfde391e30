-- The lines that the program writes on standard error, without their line feed.
use Rattle.std.specs.Prelude.{◌+◌, ◌++◌, ◌==◌, ℕ, Bool, List, Option, Some, None, codes, not}
use Rattle.std.specs.Prelude.{decimal}
use Rattle.std.specs.List.{list_all}
use Rattle.trac_language.specs.declared.fate.Fate.{Fate}
use Rattle.trac_language.specs.declared.fate.Fate.TheVariants.{Halted, InputEnded, Workspace, Steps}
use Rattle.trac_language.specs.declared.fate.Fate.TheVariants.{InputFailed, OutputFailed}

abbrev pub is_one_line : List ℕ → Bool
is_one_line = list_all (λ b. not (b == 10))

-- the line on a run with this fate, in a workspace of `cells`
-- cells, with `allowed` steps allowed and `done` steps done
abbrev pub fault_text : Fate → ℕ → ℕ → ℕ → Option (List ℕ)
fault_text Halted cells allowed done = None
fault_text InputEnded cells allowed done = None
fault_text Workspace cells allowed done =
    Some (codes "trac: workspace of " ++ decimal cells
    ++ codes " cells full at step " ++ decimal (done + 1))
fault_text Steps cells allowed done =
    Some (codes "trac: allowance of " ++ decimal allowed ++ codes " steps used up")
fault_text InputFailed cells allowed done =
    Some (codes "trac: input failed at step " ++ decimal (done + 1))
fault_text OutputFailed cells allowed done =
    Some (codes "trac: output failed at step " ++ decimal (done + 1))

abbrev pub report_text : ℕ → ℕ → List ℕ
report_text done peak =
    codes "trac: " ++ decimal done ++ codes " steps, peak " ++ decimal peak ++ codes " cells"

abbrev pub memory_text : ℕ → List ℕ
memory_text cells = codes "trac: no memory for " ++ decimal cells ++ codes " cells"

-- the exit status of the program after a run with this fate
abbrev pub status_of : Fate → ℕ
status_of Halted = 0
status_of InputEnded = 0
status_of Workspace = 1
status_of Steps = 3
status_of InputFailed = 4
status_of OutputFailed = 5
