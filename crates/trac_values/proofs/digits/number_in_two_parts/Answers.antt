use Rattle.trac_values.proofs.Imports.{◌≡◌, ◌-◌, ◌∙◌, ap, sym, arith, length, drop, digits, digits_value, before_digits, text_of_cells, length-map, length-drop, character_of}
use Rattle.trac_values.proofs.TwoParts.{behind-start, behind-digits, across-start, across-value}
use Rattle.trac_values.proofs.digits.number_in_two_parts.Goals as goal

pub returns-then-start-gt0-clause-start : goal.returns-then-start-gt0-clause-start
returns-then-start-gt0-clause-start c =
    let cells = c.args.cells.now in
    let n = length cells - 19 in
    let is = c.in_ok-start.ensures.start ∙ ap (λ l. length (before_digits (text_of_cells l))) c.in_ok-front.ensures.cases.1 in
    let rest = behind-start cells n (omega (arith, c.in_ok-front.ensures.cases.2)) (omega (arith, is, c.if-start-gt0.true)) in
    omega (arith, is, rest, c.in_ok-front.ensures.cases.2)

pub returns-then-start-gt0-clause-value : goal.returns-then-start-gt0-clause-value
returns-then-start-gt0-clause-value c =
    let cells = c.args.cells.now in
    let n = length cells - 19 in
    let is = c.in_ok-start.ensures.start ∙ ap (λ l. length (before_digits (text_of_cells l))) c.in_ok-front.ensures.cases.1 in
    let value = c.in_ok-start.ensures.value ∙ ap (λ l. digits_value 10 (digits (text_of_cells l))) c.in_ok-front.ensures.cases.1 in
    c.from.ensures ∙ value ∙ ap (digits_value 10) (sym (behind-digits cells n (omega (arith, c.in_ok-front.ensures.cases.2)) (omega (arith, is, c.if-start-gt0.true))))

pub returns-clause-start : goal.returns-clause-start
returns-clause-start c =
    let cells = c.args.cells.now in
    let n = length cells - 19 in
    let is = c.in_ok-start.ensures.start ∙ ap (λ l. length (before_digits (text_of_cells l))) c.in_ok-front.ensures.cases.1 in
    let first = c.in_ok-start-2.ensures.start ∙ ap (λ l. length (before_digits (text_of_cells l))) c.in_ok-front.ensures.cases.0 in
    first ∙ sym (across-start cells n (omega (arith, c.in_ok-front.ensures.cases.2)) (omega (arith, is, c.if-start-gt0.false)))

pub returns-clause-value : goal.returns-clause-value
returns-clause-value c =
    let cells = c.args.cells.now in
    let n = length cells - 19 in
    let is = c.in_ok-start.ensures.start ∙ ap (λ l. length (before_digits (text_of_cells l))) c.in_ok-front.ensures.cases.1 in
    let low = c.in_ok-start.ensures.value ∙ ap (λ l. digits_value 10 (digits (text_of_cells l))) c.in_ok-front.ensures.cases.1 in
    let high = c.in_ok-start-2.ensures.value ∙ ap (λ l. digits_value 10 (digits (text_of_cells l))) c.in_ok-front.ensures.cases.0 in
    let long : length (text_of_cells (drop n cells)) ≡ 19 = length-map (drop n cells) character_of ∙ omega (arith, length-drop n cells, c.in_ok-front.ensures.cases.2) in
    let all = across-value cells n (omega (arith, c.in_ok-front.ensures.cases.2)) (omega (arith, is, c.if-start-gt0.false)) 19 long in
    omega (arith, all, low, high, c.from-2.ensures, c.from-3.ensures)
