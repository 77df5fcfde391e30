use Rattle.trac_core.proofs.Imports.{◌≡◌, take, All, sym, ◌∙◌, subst, arith, text_of_cells, IsOrdinary}
use Rattle.trac_core.proofs.OrdinaryBlocks.{one-more}
use Rattle.trac_core.proofs.runs.special_before.Goals as goal

pub loop-i-preserved : goal.loop-i-preserved
loop-i-preserved c =
    record {
      within = omega arith;
      ordinary = one-more IsOrdinary c.args.cells.now c.loop-i.i c.byte_in.result (omega arith) c.byte_in.ensures (sym c.is_special.ensures ∙ c.if-is_special.false) c.loop-i.invariant.ordinary;
    }

pub returns-then-is_special : goal.returns-then-is_special
returns-then-is_special c = (omega arith, c.loop-i.invariant.ordinary)

pub returns : goal.returns
returns c =
    let same : c.loop-i.i ≡ c.args.end = omega (arith, c.loop-i.invariant.within) in
    subst (λ n. All IsOrdinary (take n (text_of_cells c.args.cells.now))) same c.loop-i.invariant.ordinary
