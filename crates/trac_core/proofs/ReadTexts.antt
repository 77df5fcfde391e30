-- A text that is read in runs.
use Rattle.trac_core.proofs.Imports.{◌≡◌, ℕ, ◌||◌, false, [], ◌∷◌, ◌++◌, refl, sym, ap, ◌∙◌, append_assoc, append-nil, eqb, ◌==◌, map-append, Text, flat_text, Contents, Stream, Streams, has_byte, Reads}
use Rattle.std.proofs.lemmas.List.Folds.{list_any-append}
use Rattle.trac_space.specs.declared.cell.Cell.TheVariants.{Byte as ByteCell}
use Rattle.trac_devices.specs.declared.device.Next.TheVariants.{Byte, End, Failed}
use Rattle.trac_devices.specs.Devices.{Gives}
use Rattle.trac_core.specs.declared.streaming.ReadEnd.TheVariants as ended
use Rattle.trac_core.specs.ReadTexts.{StreamsTo}

streams-join : (first middle last : Stream) (text more : Text) → Streams first text middle → Streams middle more last → Streams first (text ++ more) last
streams-join first middle last text more h k =
    (h.0 ∙ ap (λ rest. text ++ rest) k.0 ∙ sym (append_assoc text more last.bytes), h.1 ∙ k.1)

module _ (meta : ℕ) where
  -- one text after another was read
  reads-join : (first middle last : Contents) (text more : Text) → Reads meta first middle text → Reads meta middle last more → Reads meta first last (text ++ more)
  reads-join first middle last text more h k =
      record {
        pushed = rw (k.pushed, h.pushed, append_assoc first.neutral (flat_text text) (flat_text more), map-append ByteCell text more) refl;
        no_meta = list_any-append (λ c. c == meta) text more ∙ ap (λ b. b || has_byte meta more) h.no_meta ∙ k.no_meta;
      }

  -- one more byte was read
  pub reads-more : (first old new : Contents) (text : Text) (byte : ℕ) → Reads meta first old text → new ≡ record old { neutral = old.neutral ++ ByteCell byte ∷ [] } → eqb byte meta ≡ false → Reads meta first new (text ++ byte ∷ [])
  reads-more first old new text byte reads pushed differs =
      reads-join first old new text (byte ∷ []) reads (record { pushed = pushed; no_meta = ap (λ b. b || false) differs })

  -- the same with what both say of streams where those are told
  pub reads-on :
      (first middle last : Contents) (old now new : Stream) {Told More : Type 0} →
      (text : Text) × (Reads meta first middle text × (Told → Streams old text now)) → (text : Text) × (Reads meta middle last text × (More → Streams now text new)) →
      (Told → More) → (text : Text) × (Reads meta first last text × (Told → Streams old text new))
  reads-on first middle last old now new r s on =
      (r.0 ++ s.0, (reads-join first middle last r.0 s.0 r.1.0 s.1.0, λ told. streams-join old now new r.0 s.0 (r.1.1 told) (s.1.1 (on told))))

module _ (old middle new : Stream) (text : Text) (given : Streams old text middle) where
  -- an answer after the text
  pub streams-byte : (byte : ℕ) → Gives middle (Byte byte) new → (old.bytes ≡ text ++ byte ∷ new.bytes) × (old.ended ≡ false) × (new.ended ≡ false)
  streams-byte byte gives = (given.0 ∙ ap (λ rest. text ++ rest) gives.0, given.1 ∙ gives.1, gives.2)

  pub streams-more : (byte : ℕ) → Gives middle (Byte byte) new → Streams old (text ++ byte ∷ []) new
  streams-more byte gives =
      let s = streams-byte byte gives in
      (s.0 ∙ sym (append_assoc text (byte ∷ []) new.bytes), s.1 ∙ sym s.2)

  pub streams-full : (meta byte : ℕ) → eqb byte meta ≡ false → Gives middle (Byte byte) new → StreamsTo ended.Full meta old text new
  streams-full meta byte differs gives = (byte, ((streams-byte byte gives).0, ap (λ b. b || false) differs))

  pub streams-end : (meta : ℕ) → Gives middle End new → StreamsTo ended.Ended meta old text new
  streams-end meta gives = (given.0 ∙ ap (λ rest. text ++ rest) gives.0 ∙ append-nil text, gives.1, gives.2)

  pub streams-failed : (meta : ℕ) → Gives middle Failed new → StreamsTo ended.Failed meta old text new
  streams-failed meta gives = (given.0 ∙ ap (λ s. text ++ s.bytes) (sym gives.1), given.1 ∙ gives.0)
