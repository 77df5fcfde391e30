-- What was written to a sink that keeps nothing.
use Rattle.std.specs.Prelude.{ℕ, List, [], ◌∷◌, ◌++◌}
use Rattle.trac_checker.specs.declared.written.Written.{Written}
use Rattle.trac_checker.specs.declared.written.Written.TheVariants.{Nothing, Then'}

-- the bytes that were written, the first of them first
abbrev pub bytes_of : Written → List ℕ
bytes_of Nothing = []
bytes_of (Then' place earlier byte) = bytes_of earlier ++ byte ∷ []
