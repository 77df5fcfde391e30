use Rattle.trac_functions.proofs.Imports.{◌≡◌, ◌++◌, take, octal, flat_text, IsSound, bits_made}
use Rattle.trac_functions.proofs.bit_strings.put_digits.Given as goal

-- the first digits stand at the end
abbrev pub invariant-loop-place : goal.invariant-loop-place
invariant-loop-place l = record {
  put : l.work ≡ record l.initial.work { neutral = l.initial.work.neutral ++ flat_text (take l.place (octal (bits_made l.initial.work.neutral l.bits))) };
  sound : IsSound l.work;
}
