use Rattle.trac_devices.proofs.Imports.{refl, sym, arith}
use Rattle.trac_devices.proofs.DigitCounts.{length-decimal, one-digit}
use Rattle.trac_devices.proofs.digits.decimal_len.Goals as goal

pub returns-then-number-lt10-clause-length : goal.returns-then-number-lt10-clause-length
returns-then-number-lt10-clause-length c = sym (one-digit c.args.number c.if-number-lt10.true)

pub returns-then-number-lt100-clause-length : goal.returns-then-number-lt100-clause-length
returns-then-number-lt100-clause-length c = sym (length-decimal 1 10 c.args.number refl (omega (arith, c.if-number-lt10.false)) (omega (arith, c.if-number-lt100.true)) (omega (arith, c.if-number-lt100.true)))

pub returns-then-number-lt1000-clause-length : goal.returns-then-number-lt1000-clause-length
returns-then-number-lt1000-clause-length c = sym (length-decimal 2 100 c.args.number refl (omega (arith, c.if-number-lt100.false)) (omega (arith, c.if-number-lt1000.true)) (omega (arith, c.if-number-lt1000.true)))

pub returns-then-number-lt10000-clause-length : goal.returns-then-number-lt10000-clause-length
returns-then-number-lt10000-clause-length c = sym (length-decimal 3 1000 c.args.number refl (omega (arith, c.if-number-lt1000.false)) (omega (arith, c.if-number-lt10000.true)) (omega (arith, c.if-number-lt10000.true)))

pub returns-then-number-lt100000-clause-length : goal.returns-then-number-lt100000-clause-length
returns-then-number-lt100000-clause-length c = sym (length-decimal 4 10000 c.args.number refl (omega (arith, c.if-number-lt10000.false)) (omega (arith, c.if-number-lt100000.true)) (omega (arith, c.if-number-lt100000.true)))

pub returns-then-number-lt1000000-clause-length : goal.returns-then-number-lt1000000-clause-length
returns-then-number-lt1000000-clause-length c = sym (length-decimal 5 100000 c.args.number refl (omega (arith, c.if-number-lt100000.false)) (omega (arith, c.if-number-lt1000000.true)) (omega (arith, c.if-number-lt1000000.true)))

pub returns-then-number-lt10000000-clause-length : goal.returns-then-number-lt10000000-clause-length
returns-then-number-lt10000000-clause-length c = sym (length-decimal 6 1000000 c.args.number refl (omega (arith, c.if-number-lt1000000.false)) (omega (arith, c.if-number-lt10000000.true)) (omega (arith, c.if-number-lt10000000.true)))

pub returns-then-number-lt100000000-clause-length : goal.returns-then-number-lt100000000-clause-length
returns-then-number-lt100000000-clause-length c = sym (length-decimal 7 10000000 c.args.number refl (omega (arith, c.if-number-lt10000000.false)) (omega (arith, c.if-number-lt100000000.true)) (omega (arith, c.if-number-lt100000000.true)))

pub returns-then-number-lt1000000000-clause-length : goal.returns-then-number-lt1000000000-clause-length
returns-then-number-lt1000000000-clause-length c = sym (length-decimal 8 100000000 c.args.number refl (omega (arith, c.if-number-lt100000000.false)) (omega (arith, c.if-number-lt1000000000.true)) (omega (arith, c.if-number-lt1000000000.true)))

pub returns-else-number-lt1000000000-clause-length : goal.returns-else-number-lt1000000000-clause-length
returns-else-number-lt1000000000-clause-length c = sym (length-decimal 9 1000000000 c.args.number refl (omega (arith, c.if-number-lt1000000000.false)) (omega (arith, c.ranges.number.fits)) (omega (arith, c.ranges.number.fits)))
