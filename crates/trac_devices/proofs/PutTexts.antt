-- Texts that are put into a sink.
use Rattle.trac_devices.proofs.Imports.{◌≡◌, ℕ, ◌++◌, take, drop, sym, ◌∙◌, Result, Ok, Err, IsErr, take-append-drop, Text, Breaks, Prints}

-- the first k characters were put, and no more
pub breaks-text : (old mid new text : Text) (k : ℕ) → mid ≡ old ++ take k text → new ≡ mid → Breaks old text new
breaks-text old mid new text k first same = (take k text, (drop k text, (sym (take-append-drop k text), same ∙ first)))

-- a text that was broken off
pub prints-err : {A E : Type 0} (r : Result A E) (old new a : Text) → IsErr r → Breaks old a new → Prints r old a new
prints-err (Ok x) old new a wrong p = absurd cc
prints-err (Err e) old new a err p = p
