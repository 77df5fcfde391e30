use Rattle.trac_values.proofs.Imports.{ap, sym, ◌∙◌, arith, is_ascii_digit}
use Rattle.trac_values.proofs.Suffixes.{suffix_more, suffix_stops}
use Rattle.trac_values.proofs.digits.digits_start.Goals as goal

pub loop-start-preserved : goal.loop-start-preserved
loop-start-preserved c = record {
  within = omega arith;
  digits = suffix_more is_ascii_digit c.args.cells.now c.loop-start.start (omega arith) c.loop-start.invariant.within (ap is_ascii_digit (sym c.character_of.ensures) ∙ sym c.is_ascii_digit.ensures.value ∙ c.if-is_ascii_digit.true) c.loop-start.invariant.digits;
}

pub returns-else-is_ascii_digit : goal.returns-else-is_ascii_digit
returns-else-is_ascii_digit c = suffix_stops is_ascii_digit c.args.cells.now c.loop-start.start (omega arith) c.loop-start.invariant.within (ap is_ascii_digit (sym c.character_of.ensures) ∙ sym c.is_ascii_digit.ensures.value ∙ c.if-is_ascii_digit.false) c.loop-start.invariant.digits
