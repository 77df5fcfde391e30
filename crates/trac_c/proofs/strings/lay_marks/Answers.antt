use Rattle.std.proofs.lemmas.List.{drop_all}
use Rattle.trac_c.proofs.Imports.{laid_from, ◌∷◌, [], ◌≡◌, ◌+◌, ◌∙◌, take, get_or, sym, ap, arith, length-drop, length-take-le, Byte, neutral_of, laid, codes_of_neutral, cell_code, has_call, is_open_after}
use Rattle.trac_c.proofs.Coding.{codes-count, codes-end, codes-laid, next-call}
use Rattle.trac_c.proofs.strings.lay_marks.Goals as goal

pub returns-then-from-cells-clause-length : goal.returns-then-from-cells-clause-length
returns-then-from-cells-clause-length c =
    let cells = c.args.cells.now in
    omega (arith, codes-count cells, length-drop c.args.from (codes_of_neutral (neutral_of cells)))

pub returns-then-from-cells-clause-laid : goal.returns-then-from-cells-clause-laid
returns-then-from-cells-clause-laid c =
    let cells = c.args.cells.now in
    sym (ap (λ l. laid l c.args.room.now) (drop_all c.args.from (codes_of_neutral (neutral_of cells)) (omega (arith, codes-count cells))))

pub loop-i-init : goal.loop-i-init
loop-i-init c =
    let cells = c.args.cells.now in
    let from = c.args.from in
    let front = take (from + 0) cells in
    let none = drop_all from (codes_of_neutral (neutral_of front)) (omega (arith, codes-count front, length-take-le (from + 0) cells (omega arith))) in
    let same : from ≡ from + 0 = omega arith in
    record {
      laid = sym (ap (λ l. laid l c.args.room.now) none);
      in_call = c.is_open_before-in_call.ensures ∙ ap (λ k. has_call (neutral_of (take k cells)).calls) same;
      within = omega arith;
    }

pub loop-i-preserved : goal.loop-i-preserved
loop-i-preserved c =
    let i = c.loop-i.invariant in
    let cells = c.args.cells.now in
    let from = c.args.from in
    let k = from + c.loop-i.i in
    let cell = get_or cells k (Byte 0) in
    let place : from + (c.loop-i.i + 1) ≡ k + 1 = omega arith in
    record {
      laid =
          codes-laid cells from c.loop-i.i c.args.room.now c.loop-i.room c.put.new.room (omega arith) i.laid
          (c.put.ensures ∙ ap (λ code. laid_from c.loop-i.i (code ∷ []) c.loop-i.room) (c.code.ensures ∙ ap (λ b. cell_code b cell) i.in_call));
      in_call =
          c.is_in_call-in_call.ensures ∙ ap (is_open_after cell) i.in_call ∙ sym (next-call cells k (omega arith))
          ∙ sym (ap (λ k. has_call (neutral_of (take k cells)).calls) place);
      within = omega arith;
    }

pub returns-clause-length : goal.returns-clause-length
returns-clause-length c =
    let cells = c.args.cells.now in
    omega (arith, codes-count cells, length-drop c.args.from (codes_of_neutral (neutral_of cells)))

pub returns-clause-laid : goal.returns-clause-laid
returns-clause-laid c =
    c.loop-i.invariant.laid ∙ codes-end c.args.cells.now c.args.from c.loop-i.i c.args.room.now c.loop-i.invariant.within (omega arith)
