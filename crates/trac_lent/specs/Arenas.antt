-- Where lists in lent memory are.
use Rattle.std.specs.Borrow.{Bor}
use Rattle.bumpalo.specs.declared.bump.Bump.{Bump}
use Rattle.trac_lent.specs.contracts.lent.LentAllocator.TheImpl as allocator
use Rattle.trac_lent.specs.declared.lent.Lent.{Lent}

-- a reference to an arena
abbrev pub Lists : Type 0
Lists = Bor (Bump Lent (allocator.ghosts))
