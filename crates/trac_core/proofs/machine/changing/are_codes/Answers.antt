use Rattle.trac_core.proofs.Imports.{◌≤◌, get_or, refl, subst, sym, take, arith}
use Rattle.std.specs.Prelude.{All}
use Rattle.std.proofs.lemmas.List.{take_all, take_more}
use Rattle.std.proofs.lemmas.List.Elements.{All-push}
use Rattle.trac_core.specs.Changing.{IsCode}
use Rattle.trac_core.proofs.machine.changing.are_codes.Goals as goal

pub loop-code-preserved : goal.loop-code-preserved
loop-code-preserved c =
    let codes = c.args.codes.now in
    let i = c.loop-code.code-index in
    let small : get_or codes i 0 ≤ 16777471 = omega (arith, c.if-code-gt-LAST_CODE.false) in
    subst (All IsCode) (sym (take_more codes i 0 (omega arith))) (All-push IsCode (take i codes) (get_or codes i 0) c.loop-code.invariant small)

pub returns : goal.returns
returns c =
    let codes = c.args.codes.now in
    (λ _. subst (All IsCode) (take_all c.loop-code.code-index codes (omega arith)) c.loop-code.invariant, λ _. refl)
