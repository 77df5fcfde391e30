use Rattle.trac_core.proofs.Imports.{◌≡◌, ◌++◌, ◌∙◌, None, ap, sym, subst, arith, length, true≢false, Contents, ending, prints_output, performs, true, memory_of, scene, Tried}
use Rattle.trac_core.specs.Session.{step_prints}
use Rattle.trac_core.proofs.Performed.{uncalled, performs-innermost}
use Rattle.trac_core.proofs.Printed.{step-prints-call}
use Rattle.trac_core.proofs.machine.printing.skip_printing.Goals as goal

pub returns-in_default-clause-skipped : goal.returns-in_default-clause-skipped
returns-in_default-clause-skipped c =
    let w = c.printed_len.new.work in
    let none = uncalled (memory_of 0 w) (c.in_default.ensures.call 0) in
    let prints = subst (λ (w : Contents). prints_output (performs (memory_of 0 w)) ≡ true) (sym c.printed_len.ensures.same) (c.requires.prints 0) in
    absurd (true≢false (sym prints ∙ ap prints_output none))

pub end_printing-requires-clause-prints : goal.end_printing-requires-clause-prints
end_printing-requires-clause-prints c =
    let closed = c.in-Some.ensures.call in
    let w = c.printed_len.new.work in
    let prints = subst (λ (w : Contents). prints_output (performs (memory_of 0 w)) ≡ true) (sym c.printed_len.ensures.same) (c.requires.prints 0) in
    ap prints_output (performs-innermost w c.in-Some.place 0 c.printed_len.ensures.sound closed.0 closed.1) ∙ prints

pub returns-clause-skipped : goal.returns-clause-skipped
returns-clause-skipped c =
    let closed = c.in-Some.ensures.call in
    let w = c.printed_len.new.work in
    let same = c.printed_len.ensures.same in
    let h = c.end_printing.ensures in (
      h.done,
      (
        omega (arith, h.fits, ap (λ (w : Contents). w.room) same),
        (
          λ meta input none. absurd (let long = c.printed_len.ensures.length meta input ∙ ap length none in omega (arith, long)),
          λ meta source written.
              subst (λ (w : Contents). Tried (scene w meta source written) None c.end_printing.result.need (scene c.end_printing.new.work meta source (written ++ step_prints (memory_of meta w) (ending source.bytes)))) same
              (subst (λ text. Tried (scene w meta source written) None c.end_printing.result.need (scene c.end_printing.new.work meta source (written ++ text)))
              (sym (step-prints-call w c.in-Some.place meta (ending source.bytes) c.printed_len.ensures.sound closed.0 closed.1)) (h.tried meta source written)),
        ),
      ),
    )
