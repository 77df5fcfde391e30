use Rattle.std.proofs.Common.{◌≡◌, ◌+◌, drop, map}
use Rattle.std.specs.Prelude.{string_bytes}
use Rattle.trac_trace.specs.CommandLine.{place_of_check}
use Rattle.trac_trace.proofs.words.place_of_check.Given as goal

-- `--check` is none of the words so far
abbrev pub invariant-loop-place : goal.invariant-loop-place
invariant-loop-place l = place_of_check (map string_bytes l.words) ≡ l.place + place_of_check (map string_bytes (drop l.place l.words))
