-- Numbers of digits alone, in which nothing is suspicious.
use Rattle.std.proofs.Common.{◌≡◌, ◌∙◌, ◌+◌, ◌==◌, ℕ, Bool, true, false, List, [], ◌∷◌, ◌++◌, Option, None, Some, ap, arith, drop, if◌then◌else◌, length, option_map, refl, rules, sym, take}
use Rattle.std.specs.Prelude.{◌&&◌, ◌||◌}
use Rattle.std.specs.Char.{is_ascii_digit}
use Rattle.std.specs.List.{list_all}
use Rattle.trac_language.specs.Form.{Form}
use Rattle.trac_language.specs.Text.{Text}
use Rattle.trac_language.specs.declared.arith.Arith.{Arith}
use Rattle.trac_language.specs.declared.arith.Arith.TheVariants.{Add, Subtract, Multiply, Divide}
use Rattle.trac_language.specs.declared.function.Function.{Function}
use Rattle.trac_language.specs.declared.function.Function.TheVariants as function
use Rattle.trac_space.specs.declared.cell.Cell.{Cell}
use Rattle.trac_space.specs.Texts.{character_of, text_of_cells}
use Rattle.trac_events.specs.Calls.{argument_of}
use Rattle.trac_warnings.specs.Operands.{adds, are_digits, are_thousands, behind_digit, is_number, operand_among, suspicion_of_number, suspicion_of_operand, takes_numbers}
use Rattle.trac_warnings.specs.Performed.{first_warned, operand_warnings, parts_number, use_warnings, where_so}
use Rattle.trac_warnings.specs.declared.performed.Ending.{Ending}
use Rattle.trac_warnings.specs.declared.warning.Suspicion.{Suspicion}
use Rattle.trac_warnings.specs.declared.warning.Suspicion.TheVariants.{CommaInNumber, DigitsInside}

both : (a b : Bool) → a && b ≡ true → (a ≡ true) × (b ≡ true)
both true b e = (refl, e)
both false b e = absurd cc

number-fine : (c : ℕ) (text : Text) → (is_ascii_digit c && list_all is_ascii_digit text) ≡ true → suspicion_of_number (c ∷ text) ≡ None
number-fine c text e =
    let all = both (is_ascii_digit c) (list_all is_ascii_digit text) e in
    ap (λ b. if b then behind_digit text else suspicion_of_number text) all.0 ∙ ap (λ b. if b then None else Some DigitsInside) all.1

-- nothing is suspicious in digits alone
pub digits-fine : (cells : List Cell) → are_digits cells ≡ true → suspicion_of_operand cells ≡ None
digits-fine [] e = refl
digits-fine (cell ∷ cells) e =
    let some : (length (cell ∷ cells) == 0) ≡ false = search (arith, rules) in
    ap (λ b. if b then None else suspicion_of_number (text_of_cells (cell ∷ cells))) some ∙ number-fine (character_of cell) (text_of_cells cells) e

and-false : (b : Bool) → b && false ≡ false
and-false true = refl
and-false false = refl

none-warned : (forms : List Form) (ending : Ending) → let one = argument_of ending.arguments.now 1 in let other = argument_of ending.arguments.now 2 in
    suspicion_of_operand one ≡ None → suspicion_of_operand other ≡ None → first_warned (operand_among forms one) (operand_among forms other) ending.begin one other ≡ []
none-warned forms ending first second =
    let one = argument_of ending.arguments.now 1 in
    let other = argument_of ending.arguments.now 2 in
    rw (first, second) refl

not-parted : (arguments : List Cell) → argument_of arguments 3 ≡ [] → parts_number arguments ≡ false
not-parted arguments none =
    let one = text_of_cells (argument_of arguments 1) in
    let other = text_of_cells (argument_of arguments 2) in
    let thousands = λ (more : Text). are_thousands one other || are_thousands other more in
    ap (λ (more : List Cell). ((is_number one && is_number other) && is_number (text_of_cells more)) && thousands (text_of_cells more)) none
    ∙ ap (λ b. b && thousands []) (and-false (is_number one && is_number other))

adding : (operation : Arith) (forms : List Form) (ending : Ending) → suspicion_of_operand (argument_of ending.arguments.now 1) ≡ None → suspicion_of_operand (argument_of ending.arguments.now 2) ≡ None → argument_of ending.arguments.now 3 ≡ []
    → let warned = where_so (parts_number ending.arguments.now) CommaInNumber ending.begin (argument_of ending.arguments.now 0) in
    first_warned (operand_among forms (argument_of ending.arguments.now 1)) (operand_among forms (argument_of ending.arguments.now 2)) ending.begin (argument_of ending.arguments.now 1) (argument_of ending.arguments.now 2) ++ ((warned ++ []) ++ []) ≡ []
adding operation forms ending first second none =
    let name = argument_of ending.arguments.now 0 in
    ap (λ t. t ++ ((where_so (parts_number ending.arguments.now) CommaInNumber ending.begin name ++ []) ++ [])) (none-warned forms ending first second)
    ∙ ap (λ b. (where_so b CommaInNumber ending.begin name ++ []) ++ []) (not-parted ending.arguments.now none)

-- nothing is suspicious in what a function uses that takes numbers of digits alone
pub plain-use : (function : Function) (forms : List Form) (ending : Ending) → takes_numbers function ≡ true → suspicion_of_operand (argument_of ending.arguments.now 1) ≡ None → suspicion_of_operand (argument_of ending.arguments.now 2) ≡ None
    → (adds function ≡ true → argument_of ending.arguments.now 3 ≡ []) → use_warnings function forms ending ≡ []
plain-use function.Greater forms ending takes first second more = ap (λ t. t ++ []) (none-warned forms ending first second)
plain-use (function.Arithmetic Divide) forms ending takes first second more = ap (λ t. t ++ []) (none-warned forms ending first second)
plain-use (function.Arithmetic Add) forms ending takes first second more = adding Add forms ending first second (more refl)
plain-use (function.Arithmetic Subtract) forms ending takes first second more = adding Subtract forms ending first second (more refl)
plain-use (function.Arithmetic Multiply) forms ending takes first second more = adding Multiply forms ending first second (more refl)
plain-use function.ReadString forms ending takes first second more = absurd cc
plain-use function.ReadCharacter forms ending takes first second more = absurd cc
plain-use function.ChangeMeta forms ending takes first second more = absurd cc
plain-use function.PrintString forms ending takes first second more = absurd cc
plain-use function.Halt forms ending takes first second more = absurd cc
plain-use function.DefineString forms ending takes first second more = absurd cc
plain-use function.SegmentString forms ending takes first second more = absurd cc
plain-use function.DeleteDefinition forms ending takes first second more = absurd cc
plain-use function.DeleteAll forms ending takes first second more = absurd cc
plain-use function.ListNames forms ending takes first second more = absurd cc
plain-use function.PrintForm forms ending takes first second more = absurd cc
plain-use function.CallForm forms ending takes first second more = absurd cc
plain-use function.CallSegment forms ending takes first second more = absurd cc
plain-use function.CallCharacter forms ending takes first second more = absurd cc
plain-use function.CallNumber forms ending takes first second more = absurd cc
plain-use function.InitialPart forms ending takes first second more = absurd cc
plain-use function.CallRestore forms ending takes first second more = absurd cc
plain-use function.Equal forms ending takes first second more = absurd cc
plain-use function.Union forms ending takes first second more = absurd cc
plain-use function.Intersection forms ending takes first second more = absurd cc
plain-use function.Complement forms ending takes first second more = absurd cc
plain-use function.Shift forms ending takes first second more = absurd cc
plain-use function.Rotate forms ending takes first second more = absurd cc
