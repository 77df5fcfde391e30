use Rattle.trac_space.proofs.Imports.{◌≡◌, ◌<◌, ◌∙◌, arith, length, subst, sym, drop, NoComma}
use Rattle.trac_space.proofs.TaggedCommas.{tagged-none, tagged-other, tagged-comma, tagged-commas, first-takes}
use Rattle.trac_space.proofs.filling.tag_commas.Goals as goal
use Rattle.trac_space.proofs.filling.tag_commas.Goals.{then-is_comma, else-is_comma}

pub loop-at-init : goal.loop-at-init
loop-at-init c = tagged-none c.args.cells.now c.requires.takes

pub tagged-requires-clause-takes : goal.tagged-requires-clause-takes
tagged-requires-clause-takes c =
    first-takes c.args.cells.now c.loop-at.cells c.loop-at.at c.loop-at.count c.loop-at.invariant (omega (arith, c.loop-at-test.true, c.requires.within)) c.requires.takes

pub loop-at-preserved : goal.loop-at-preserved
loop-at-preserved c =
    let was = c.args.cells.now in
    let now = c.loop-at.cells in
    let h = c.loop-at.invariant in
    let less : c.loop-at.at < length was = omega (arith, c.loop-at-test.true, c.requires.within) in
    elim c.if-is_comma.branch [
      | then-is_comma w ↦
          rw (w.cells-is, w.count-is) (tagged-comma was now c.loop-at.at c.loop-at.count h less w.tagged.result (sym c.is_comma.ensures ∙ w.if-is_comma.true) w.tagged.ensures.untagged w.tagged.ensures.tag_of w.tagged.ensures.numbered)
      | else-is_comma w ↦
          rw (w.cells-is, w.count-is) (tagged-other was now c.loop-at.at c.loop-at.count h less (sym c.is_comma.ensures ∙ w.if-is_comma.false))
    ]

pub returns-clause-commas : goal.returns-clause-commas
returns-clause-commas c =
    let end : c.loop-at.at ≡ c.args.no_comma_from = omega (arith, c.loop-at-test.false, c.loop-at.auto.at-end) in
    tagged-commas c.args.cells.now c.loop-at.cells c.loop-at.at c.loop-at.count c.loop-at.invariant (subst (λ i. NoComma (drop i c.args.cells.now)) (sym end) c.requires.no_comma_from) c.requires.takes
