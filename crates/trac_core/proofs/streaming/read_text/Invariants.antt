use Rattle.trac_core.proofs.Imports.{◌≡◌, ◌-◌, List, ℕ, used, IsSound, Streams, Reads}
use Rattle.trac_core.proofs.streaming.read_text.Given as goal

-- a text was read so far, and no failure came
abbrev pub invariant-loop-byte : goal.invariant-loop-byte
invariant-loop-byte g l =
    record {
      sound : IsSound l.work;
      counts : g.I.Source.failure_count l.source ≡ g.I.Source.failure_count l.initial.source;
      told : g.I.Source.tells l.initial.source → g.I.Source.tells l.source;
      reads : (text : List ℕ) × (Reads l.meta l.initial.work l.work text × (g.I.Source.tells l.initial.source → Streams (g.I.Source.stream l.initial.source) text (g.I.Source.stream l.source)));
    }

-- the cells that are free
abbrev pub decreases-loop-byte : goal.decreases-loop-byte
decreases-loop-byte g l = l.work.room - used l.work
