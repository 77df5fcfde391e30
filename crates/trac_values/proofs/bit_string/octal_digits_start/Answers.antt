use Rattle.trac_values.proofs.Imports.{ap, sym, ◌∙◌, arith, is_octal}
use Rattle.trac_values.proofs.Suffixes.{suffix_more, suffix_stops}
use Rattle.trac_values.proofs.bit_string.octal_digits_start.Goals as goal

pub loop-start-preserved : goal.loop-start-preserved
loop-start-preserved c = record {
  within = omega arith;
  digits = suffix_more is_octal c.args.cells.now c.loop-start.start (omega arith) c.loop-start.invariant.within (ap is_octal (sym c.character_of.ensures) ∙ sym c.is_octal.ensures ∙ c.if-is_octal.true) c.loop-start.invariant.digits;
}

pub returns-else-is_octal : goal.returns-else-is_octal
returns-else-is_octal c = suffix_stops is_octal c.args.cells.now c.loop-start.start (omega arith) c.loop-start.invariant.within (ap is_octal (sym c.character_of.ensures) ∙ sym c.is_octal.ensures ∙ c.if-is_octal.false) c.loop-start.invariant.digits
