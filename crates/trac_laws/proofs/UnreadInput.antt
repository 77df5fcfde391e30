-- A step that doesn't read to the end of the input looks at nothing past what it takes.
use Rattle.trac_laws.proofs.Imports.{◌≡◌, ℕ, false, List, Some, refl, sym, ap, ◌∙◌, Function, ReadString, ReadCharacter, DefineString, Text, Form, Input, World, Meaning, Gives, Ends, meaning_of, value_length, built}
use Rattle.trac_laws.proofs.Shape.{Shape, Reads, Ended, Does, reads, shape}

-- what a call means, with another input
abbrev pub with_source : Input → Meaning → Meaning
with_source i (Gives answer) = Gives (record answer { world = record answer.world { input = i } })
with_source i (Ends fate) = Ends fate

unread-shape : (f : Function) (forms : List Form) (meta : ℕ) (m : Input → Meaning) → Shape f forms meta m → (j i : Input) → reads f ≡ false → m i ≡ with_source i (m j)
unread-shape f forms meta m (Reads r each) j i none = absurd cc
unread-shape f forms meta m (Ended fate e) j i none = e i ∙ ap (with_source i) (sym (e j))
unread-shape f forms meta m (Does value forced forms' meta' printed keeps quiet e) j i none = e i ∙ ap (with_source i) (sym (e j))

-- a call that doesn't read means the same with another input
pub elsewhere : (f : Function) (args : List Text) (world : World) (i : Input) → reads f ≡ false → meaning_of f args (record world { input = i }) ≡ with_source i (meaning_of f args world)
elsewhere f args world i none = unread-shape f world.forms world.meta _ (shape f args world.forms world.meta) world.input i none

value_length-with_source : (i : Input) (m : Meaning) → value_length (with_source i m) ≡ value_length m
value_length-with_source i (Gives answer) = refl
value_length-with_source i (Ends fate) = refl

-- a call that doesn't read builds as much with another input
pub built_elsewhere : (f : Function) (args : List Text) (world : World) (i : Input) → reads f ≡ false → built (Some f) args (record world { input = i }) ≡ built (Some f) args world
built_elsewhere ReadString args world i e = cc
built_elsewhere ReadCharacter args world i e = cc
built_elsewhere DefineString args world i e = refl
built_elsewhere f args world i e = ap value_length (elsewhere f args world i e) ∙ value_length-with_source i (meaning_of f args world)
