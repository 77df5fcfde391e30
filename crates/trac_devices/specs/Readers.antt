-- What contracts say of the devices over a reader and over a writer.
use Rattle.std.specs.Prelude.{ℕ, Bool, List}

-- a reader, and its failures so far
pub record CountedReader (R : Type 0) : Type 0 where
  pub reader : R
  pub failures : ℕ

-- a writer, its failures so far, and whether all that it took has been sent on
pub record CountedWriter (W : Type 0) : Type 0 where
  pub writer : W
  pub failures : ℕ
  pub is_flushed : Bool

-- a reader behind a buffer, and the bytes that were read and not yet given
pub record BufferedInput (R : Type 0) : Type 0 where
  pub device : CountedReader R
  pub held : List ℕ

-- a writer behind a buffer, the bytes that were given and not yet written, and how many more can be
-- given before some of them have to be written
pub record BufferedOutput (W : Type 0) : Type 0 where
  pub device : CountedWriter W
  pub waiting : List ℕ
  pub space : ℕ

-- a source over a reader: the reader, whether it has ended, and its failures so far
pub record ReaderInput (R : Type 0) : Type 0 where
  pub reader : R
  pub ended : Bool
  pub failures : ℕ

-- a source over a reader behind a buffer, and whether it has ended
pub record SourceInput (R : Type 0) : Type 0 where
  pub reader : BufferedInput R
  pub ended : Bool
