use Rattle.std.proofs.Common.{◌≡◌, drop}
use Rattle.trac_image.specs.Image.{no_sums, summed}
use Rattle.trac_image.proofs.checksum.checksum_of.Given as goal

-- what is left to sum gives what all gives
abbrev pub invariant-loop-byte : goal.invariant-loop-byte
invariant-loop-byte l = summed (drop l.byte-index l.text) l.sums ≡ summed l.text no_sums
