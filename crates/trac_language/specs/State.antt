-- The state of the processor.
use Rattle.std.specs.Prelude.{ℕ, ◌+◌, Bool, List, [], ◌∷◌, ◌++◌, length, get_or, sum_by}
use Rattle.trac_language.specs.declared.mode.Mode.{Mode}
use Rattle.trac_language.specs.Text.{Text}
use Rattle.trac_language.specs.Form.{Form}
use Rattle.trac_language.specs.Store.{cells}

-- a call that is open: at least one argument, of which the last still grows
pub record OpenCall : Type 0 where
  pub mode : Mode
  pub earlier : List Text
  pub last : Text

-- the arguments of an open call so far
abbrev pub arguments : OpenCall → List Text
arguments call = call.earlier ++ call.last ∷ []

-- argument k, null if it is missing
abbrev pub argument : List Text → ℕ → Text
argument texts k = get_or texts k []

-- the strings, the forms and the meta character; the open calls stand innermost first
pub record Memory : Type 0 where
  pub active : Text
  pub base : Text
  pub calls : List OpenCall
  pub forms : List Form
  pub meta : ℕ

-- what is still to be read, and whether the source then fails or is at its end
pub record Input : Type 0 where
  pub text : Text
  pub fails : Bool

-- all that a step reads and changes
pub record State : Type 0 where
  pub memory : Memory
  pub input : Input
  pub output : Text

-- the memory before the first step: the apostrophe is the meta character
abbrev pub empty : Memory
empty = record { active = []; base = []; calls = []; forms = []; meta = 39 }

-- the state before the first step
abbrev pub first : Input → State
first input = record { memory = empty; input = input; output = [] }

-- the cells of an open call: its mark, its arguments and the commas between them
abbrev pub call_cells : OpenCall → ℕ
call_cells call = 1 + (length call.last + sum_by (λ text. length text + 1) call.earlier)

-- the cells of the strings and of all forms
abbrev pub size : Memory → ℕ
size memory =
    length memory.active + length memory.base + sum_by call_cells memory.calls + cells memory.forms

-- the text put at the end of the last argument of the innermost open call, or of the base text if no call
-- is open
abbrev pub add_to : List OpenCall → Text → Memory → Memory
add_to [] text memory = record memory { base = memory.base ++ text }
add_to (call ∷ outer) text memory =
    record memory { calls = record call { last = call.last ++ text } ∷ outer }

-- the text put at the end of the neutral string
abbrev pub add : Text → Memory → Memory
add text memory = add_to memory.calls text memory

-- a new null argument of the innermost open call
abbrev pub begin_argument : List OpenCall → List OpenCall
begin_argument [] = []
begin_argument (call ∷ outer) = record call { earlier = arguments call; last = [] } ∷ outer

-- a new innermost open call, with one null argument
abbrev pub begin_call : Mode → List OpenCall → List OpenCall
begin_call mode calls = record { mode = mode; earlier = []; last = [] } ∷ calls
