-- What a reader keeps of what it reads.
use Rattle.std.specs.Prelude.{◌≡◌, ◌++◌, true, false, List, ℕ}
use Rattle.trac_tracer.specs.declared.record.Record.{Record}

-- the record holds `bytes` too; if there was no memory for them, it is not whole from then on
pub record KeepsRead (bytes : List ℕ) (old new : Record) : Type 0 where
  pub whole :
      new.is_whole ≡ true →
      (old.is_whole ≡ true) × (new.bytes.items ≡ old.bytes.items ++ bytes)
  pub stays : old.is_whole ≡ false → new.is_whole ≡ false
