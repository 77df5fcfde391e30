use Rattle.trac_core.proofs.Imports.{take}
use Rattle.std.specs.Prelude.{All}
use Rattle.trac_core.specs.Changing.{IsCode}
use Rattle.trac_core.proofs.machine.changing.are_codes.Given as goal

-- the codes so far are those of items
abbrev pub invariant-loop-code : goal.invariant-loop-code
invariant-loop-code l = All IsCode (take l.code-index l.codes)
