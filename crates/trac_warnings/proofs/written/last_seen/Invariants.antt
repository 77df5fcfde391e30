use Rattle.std.proofs.Common.{◌≡◌, ◌<◌, None, drop}
use Rattle.std.specs.Prelude.{IfSome}
use Rattle.trac_warnings.specs.Script.{last_seen}
use Rattle.trac_warnings.proofs.written.last_seen.Given as goal

-- the last byte that is no layout and no blank, so far or among the bytes that are left, is that of the text; it
-- stands before the place
abbrev pub invariant-loop-place : goal.invariant-loop-place
invariant-loop-place l =
    record {
      same : last_seen l.last l.place (drop l.place l.text) ≡ last_seen None 0 l.text;
      within : IfSome l.last (λ last. last.0 < l.place);
    }
