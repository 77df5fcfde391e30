-- The string of the idling procedure, read where the scanner would move the characters that it begins with: it is as if
-- it had been read behind the call of `rs`, and then delivered.
use Rattle.trac_core.proofs.Imports.{◌≡◌, ◌≢◌, ℕ, ◌+◌, ◌-◌, ◌<◌, ◌≤◌, true, false, [], ◌∷◌, ◌++◌, length, take, drop, All, Some, None, refl, sym, ap, ◌∙◌, subst, arith, codes, length-append, length-map, All-append, All-cons, drop-append-le, drop-append-add, InputEnded, InputFailed, Workspace, ReadString, Active, Text, Byte, Call, Comma, IsByte, IsNoCall, flat_text, text_of_cells, Contents, used, IsSound, Stream, has_byte, Reads, memory_of, performs, scene, IsCall, ClosesCall, Tried, TriedCall, settled, AtEnd, IsOrdinary, Advances, Option, Fate, Steps, input_failures, output_failures, inl, LeavesSource, PerformedWith, stage, KeepsFormsAndMeta, counted}
use Rattle.std.proofs.Math.Seq.{take-append-add}
use Rattle.std.proofs.lemmas.List.{take-append-le, length-take-le}
use Rattle.trac_forms.specs.Contents.{IsStringCell}
use Rattle.trac_forms.proofs.Copies.{string_cells-text}
use Rattle.trac_space.proofs.Texts.{text_of_cells-append}
use Rattle.trac_functions.proofs.FlatLemmas.{text_of-flat, size-used}
use Rattle.trac_functions.proofs.ArgumentLemmas.{bytes-flat}
use Rattle.trac_core.specs.StepOutcomes.{TakesAtMost}
use Rattle.trac_core.specs.StepsInRow.{idling_begun}
use Rattle.trac_core.specs.declared.outcome.StepOutcome.{StepOutcome}
use Rattle.trac_core.specs.ReadInPlace.{before_string, reading_string, LeavesFront, ReadsInPlace}
use Rattle.trac_core.proofs.Performing.{function-performs}
use Rattle.trac_core.proofs.ReadCalls.{read-to-meta, read-some, read-none, read-failed, read-full, reads-take}
use Rattle.trac_core.proofs.StepsInRow.{characters-pass}
use Rattle.trac_core.proofs.Advancing.{counted-memory}
use Rattle.trac_core.specs.Driving.{ReadsOn}

-- the call of `rs` is to be performed
abbrev pub called : Contents → Contents
called w = record (idling_begun w) { active = flat_text (codes ")") }

-- what it read stands behind it
abbrev pub read : Contents → Text → Contents
read w text = record (called w) { neutral = (idling_begun w).neutral ++ flat_text text }

-- and is delivered
abbrev pub delivered_string : Contents → Text → Contents
delivered_string w text = record w { neutral = before_string; active = flat_text text ++ flat_text (codes ")") }

pub closes : (w : Contents) → ClosesCall (idling_begun w) (called w) 4
closes w =
    record {
      same = refl;
      innermost = record { mark = (omega arith, refl); after = All-cons IsNoCall (Byte 114) (Byte 115 ∷ []) refl (All-cons IsNoCall (Byte 115) [] refl (λ k d within. absurd (omega (arith, within)))) };
    }

pub names : (w : Contents) (meta : ℕ) → performs (memory_of meta (idling_begun w)) ≡ Some ReadString
names w meta = function-performs (idling_begun w) (called w) 4 meta (closes w)

before-strings : All IsStringCell before_string
before-strings =
    All-cons IsStringCell (Call Active 0) (Byte 112 ∷ Byte 115 ∷ Comma ∷ []) tt
    (All-append IsStringCell (Byte 112 ∷ Byte 115 ∷ []) (Comma ∷ []) (string_cells-text (codes "ps")) (All-cons IsStringCell Comma [] tt (λ k d within. absurd (omega (arith, within)))))

begun-strings : (w : Contents) → All IsStringCell (idling_begun w).neutral
begun-strings w =
    All-append IsStringCell before_string (Call Active 0 ∷ Byte 114 ∷ Byte 115 ∷ []) before-strings
    (All-cons IsStringCell (Call Active 0) (Byte 114 ∷ Byte 115 ∷ []) tt (string_cells-text (codes "rs")))

module _ (w p : Contents) (text : Text) (meta : ℕ) (sound : IsSound w) (after : IsSound p) (reads : Reads meta (reading_string w) p text) where
  long : length p.neutral ≡ 4 + length text
  long = ap (λ (w : Contents). length w.neutral) reads.pushed ∙ length-append before_string (flat_text text) ∙ ap (λ n. 4 + n) (length-map text Byte)

  room-same : p.room ≡ w.room
  room-same = ap (λ (w : Contents). w.room) reads.pushed

  -- as many cells are used as behind the call of `rs`
  pub used-same : used p ≡ used (read w text)
  used-same =
      ap used reads.pushed
      ∙ omega (arith, length-append before_string (flat_text text), length-append (idling_begun w).neutral (flat_text text))

  used-text : used p ≡ used (called w) + length text
  used-text = used-same ∙ omega (arith, length-append (idling_begun w).neutral (flat_text text), length-map text Byte)

  sound-read : IsSound (read w text)
  sound-read =
      record {
        fits = let fits = after.fits in omega (arith, used-same, room-same);
        bounded = sound.bounded;
        forms = sound.forms;
        neutral = All-append IsStringCell (idling_begun w).neutral (flat_text text) (begun-strings w) (string_cells-text text);
        active = bytes-flat (codes ")");
      }

  reads-read : Reads meta (called w) (read w text) text
  reads-read = record { pushed = refl; no_meta = reads.no_meta }

  call : IsCall (called w) 4 (Some ReadString)
  call =
      record {
        sound = record {
          fits = let fits = after.fits in omega (arith, used-text, room-same);
          bounded = sound.bounded;
          forms = sound.forms;
          neutral = begun-strings w;
          active = bytes-flat (codes ")");
        };
        innermost = (closes w).innermost;
        names = refl;
      }

  pub sound-delivered : IsSound (delivered_string w text)
  sound-delivered =
      record {
        fits = let fits = after.fits in omega (arith, used-text, room-same, length-append (flat_text text) (flat_text (codes ")")), length-map text Byte);
        bounded = sound.bounded;
        forms = sound.forms;
        neutral = before-strings;
        active = All-append IsByte (flat_text text) (flat_text (codes ")")) (bytes-flat text) (bytes-flat (codes ")"));
      }

  pub used-delivered : used (delivered_string w text) ≤ used p
  used-delivered = omega (arith, used-text, length-append (flat_text text) (flat_text (codes ")")), length-map text Byte)

  delivers : settled AtEnd 4 7 (read w text) ≡ delivered_string w text
  delivers = rw (text_of-flat text) refl

  needs : used (called w) + (length (read w text).neutral - 7) ≡ used p
  needs = omega (arith, used-text, length-append (idling_begun w).neutral (flat_text text), length-map text Byte)

  value : (source source' : Stream) (written : Text) → TriedCall 4 (scene (called w) meta source written) None (used (called w) + (length (read w text).neutral - 7)) (scene (settled AtEnd 4 7 (read w text)) meta source' written) → Tried (scene (idling_begun w) meta source written) None (used p) (scene (delivered_string w text) meta source' written)
  value source source' written tried =
      subst (λ n. Tried (scene (idling_begun w) meta source written) None n (scene (delivered_string w text) meta source' written)) needs
      (subst (λ contents. Tried (scene (idling_begun w) meta source written) None (used (called w) + (length (read w text).neutral - 7)) (scene contents meta source' written)) delivers
      (tried (idling_begun w) (closes w)))

  -- the meta character followed
  pub in-place-to-meta : (source source' : Stream) (written : Text) → source.bytes ≡ text ++ meta ∷ source'.bytes → source.ended ≡ false → Tried (scene (idling_begun w) meta source written) None (used p) (scene (delivered_string w text) meta source' written)
  in-place-to-meta source source' written gave open_still =
      value source source' written (read-to-meta (called w) (read w text) 4 meta text call reads-read sound-read source source' written gave open_still)

  -- the source ended after some bytes
  pub in-place-some : (source source' : Stream) (written : Text) → 4 < length p.neutral → source.bytes ≡ text → source'.bytes ≡ [] → source'.ended ≡ true → Tried (scene (idling_begun w) meta source written) None (used p) (scene (delivered_string w text) meta source' written)
  in-place-some source source' written some gave none_left ended =
      value source source' written (read-some (called w) (read w text) 4 meta text call reads-read sound-read source source' written (omega (arith, long)) gave none_left ended)

  -- the source ended at once
  pub in-place-none : (source source' : Stream) (written : Text) → length p.neutral ≤ 4 → source.bytes ≡ text → source'.bytes ≡ [] → Tried (scene (idling_begun w) meta source written) (Some InputEnded) (used p) (scene p meta source' written)
  in-place-none source source' written none gave none_left =
      read-none (called w) (read w text) 4 meta text call reads-read sound-read p used-same source source' written (omega (arith, long)) gave none_left (idling_begun w) (closes w)

  -- the source failed
  pub in-place-failed : (source source' : Stream) (written : Text) → source.bytes ≡ text ++ source'.bytes → source.ended ≡ false → Tried (scene (idling_begun w) meta source written) (Some InputFailed) (used p) (scene p meta source' written)
  in-place-failed source source' written gave open_still =
      read-failed (called w) (read w text) 4 meta text call reads-read sound-read p used-same source source' written gave open_still (idling_begun w) (closes w)

  -- no cell was free for the next byte
  pub in-place-full : (source source' : Stream) (written : Text) (next : ℕ) → p.room ≤ used p → source.bytes ≡ text ++ next ∷ source'.bytes → has_byte meta (next ∷ []) ≡ false → Tried (scene (idling_begun w) meta source written) (Some Workspace) 0 (scene p meta source' written)
  in-place-full source source' written next full gave differs =
      read-full (called w) (read w text) 4 meta text call reads-read sound-read p source source' written next (omega (arith, full, used-same, room-same)) gave differs (idling_begun w) (closes w)

  -- what was taken from the source
  pub in-place-takes : (last : Text) (source source' : Stream) → length last ≤ 1 → source.bytes ≡ text ++ (last ++ source'.bytes) → (taken : Text) × TakesAtMost (idling_begun w) source source' taken
  in-place-takes last source source' short gave =
      let took = reads-take meta (called w) (read w text) text reads-read last source source' sound-read short gave in
      (text ++ last, record { consumed = took.consumed; few = let few = took.few in omega arith })

  -- what stands behind the call of `ps` are characters
  pub behind-bytes : All IsByte (drop 4 p.neutral)
  behind-bytes = subst (λ (w : Contents). All IsByte (drop 4 w.neutral)) (sym reads.pushed) (bytes-flat text)

  module _ (new : Contents) (most count : ℕ) (leaves : LeavesFront most count p new) where
    moved-to : new ≡ record w { neutral = before_string ++ take count (flat_text text); active = drop count (flat_text text) ++ flat_text (codes ")") }
    moved-to =
        leaves.moved ∙ ap (λ (p : Contents). record p { neutral = take (4 + count) p.neutral; active = drop (4 + count) p.neutral ++ drop 3 p.active }) reads.pushed
        ∙ rw (take-append-add before_string (flat_text text) count, drop-append-add before_string (flat_text text) count) refl

    inside : count ≤ length (flat_text text)
    inside = let within = leaves.within in omega (arith, long, length-map text Byte)

    front-ordinary : All IsOrdinary (take count (text_of_cells (flat_text text ++ flat_text (codes ")"))))
    front-ordinary =
        let behind : text_of_cells (drop 4 p.neutral) ≡ text = ap (λ (w : Contents). text_of_cells (drop 4 w.neutral)) reads.pushed ∙ text_of-flat text in
        let same : text_of_cells (flat_text text ++ flat_text (codes ")")) ≡ text ++ codes ")" = text_of_cells-append (flat_text text) (flat_text (codes ")")) ∙ ap (λ t. t ++ codes ")") (text_of-flat text) in
        subst (λ t. All IsOrdinary (take count t)) (sym same)
        (subst (All IsOrdinary) (sym (take-append-le count text (codes ")") (omega (arith, inside, length-map text Byte))))
        (subst (λ t. All IsOrdinary (take count t)) behind leaves.ordinary))

    -- the characters in front are scanned
    pub in-place-scans : Advances count (delivered_string w text) new
    in-place-scans = λ meta.
        let middle = delivered_string w text in
        let passes = characters-pass meta count middle sound-delivered.active (omega (arith, inside, length-append (flat_text text) (flat_text (codes ")")))) front-ordinary in
        rw (moved-to, sym (take-append-le count (flat_text text) (flat_text (codes ")")) inside), sym (drop-append-le count (flat_text text) (flat_text (codes ")")) inside)) passes

    pub in-place-long : length new.neutral ≡ 4 + count
    in-place-long =
        ap (λ (w : Contents). length w.neutral) leaves.moved ∙ length-take-le (4 + count) p.neutral leaves.within

module _ {S : Type 0} (tells : S → Type 0) (stream : S → Stream) (failures : S → ℕ) (outcome : StepOutcome) (w p : Contents) (text : Text) (most meta : ℕ) (sound : IsSound w) (after : IsSound p) (reads : Reads meta (reading_string w) p text) (source left : S) where
  abbrev ReadsTo : Option Fate → ℕ → Contents → Type 0
  ReadsTo fate need middle = tells source → (written : Text) → Tried (scene (idling_begun w) meta (stream source) written) fate need (scene middle meta (stream left) written)

  abbrev Takes : Type 0
  Takes = tells source → (taken : Text) × TakesAtMost (idling_begun w) (stream source) (stream left) taken

  -- the run goes on
  pub in-place-goes : (new : Contents) → outcome ≡ record { fate = None; need = used p } → (count : ℕ) × LeavesFront most count p new → ReadsTo None (used p) (delivered_string w text) → Takes → (tells source → tells left) → failures left ≡ failures source + 0 → ReadsInPlace tells stream failures outcome most meta (idling_begun w) source new left
  in-place-goes new is leaves tried takes told counts =
      let fate = ap (λ (o : StepOutcome). o.fate) is in
      record {
        middle = delivered_string w text;
        tried = λ tells written. rw is (tried tells written);
        takes = takes;
        leaves = rw fate (told, counts, λ e. absurd cc);
        unspent = λ e. absurd (let no = sym fate ∙ e in cc);
        printed = rw fate refl;
        forms = refl;
        room = refl;
        sound = sound-delivered w p text meta sound after reads;
        ends = λ e. absurd (e fate);
        fits = λ e. rw is (used-delivered w p text meta sound after reads);
        scans = λ e. (leaves.0, (in-place-long w p text meta sound after reads new most leaves.0 leaves.1, (leaves.1.few, in-place-scans w p text meta sound after reads new most leaves.0 leaves.1)));
      }

  -- the run ends
  pub in-place-ends : (fate : Fate) (need : ℕ) → outcome ≡ record { fate = Some fate; need = need } → ReadsTo (Some fate) need p → Takes → (tells source → tells left) → failures left ≡ failures source + input_failures None (Some fate) → fate ≢ Steps → output_failures None (Some fate) ≡ 0 → ReadsInPlace tells stream failures outcome most meta (idling_begun w) source p left
  in-place-ends fate need is tried takes told counts unspent printed =
      let fate_is = ap (λ (o : StepOutcome). o.fate) is in
      record {
        middle = p;
        tried = λ tells written. rw is (tried tells written);
        takes = takes;
        leaves = rw fate_is (told, counts, λ e. absurd cc);
        unspent = λ e. unspent (some-same (sym fate_is ∙ e));
        printed = rw fate_is printed;
        forms = ap (λ (w : Contents). w.forms) reads.pushed;
        room = ap (λ (w : Contents). w.room) reads.pushed;
        sound = after;
        ends = λ e. refl;
        fits = λ e. absurd (let no = sym fate_is ∙ e in cc);
        scans = λ e. absurd (let no = sym fate_is ∙ e in cc);
      }
    where
      some-same : Some fate ≡ Some Steps → fate ≡ Steps
      some-same e = cc

-- where a source and a sink perform the calls
module _ {I O L : Type 0} (tells : I → Type 0) (stream : I → Stream) (failures : I → ℕ) (told flushed : O → Type 0) (written : O → Text) (lent : O → L) (broken : O → ℕ) (outcome : StepOutcome) (w new : Contents) (most meta : ℕ) (source left : I) (sink : O) (r : ReadsInPlace tells stream failures outcome most meta (idling_begun w) source new left) where
  reads-on : (scanned : ℕ) → Advances scanned r.middle new → ReadsOn (PerformedWith tells stream failures told flushed written lent broken) outcome scanned (stage (idling_begun w) meta source sink) new left
  reads-on scanned scans =
      record {
        middle = r.middle;
        step = λ m room_is memory_is allowed.
            record {
              answers = λ tells told. r.tried tells (written sink) m room_is memory_is allowed;
              takes = λ tells. (let took = r.takes tells in (took.0, (took.1.consumed, let few = took.1.few in rw (memory_is, room_is) (omega (arith, size-used meta (idling_begun w))))));
              source = subst (λ f. LeavesSource tells failures outcome.fate f source left) (sym (ap performs memory_is ∙ names w meta)) r.leaves;
              sink = (λ told. told, omega (arith, r.printed), λ e. refl, refl, λ e. inl refl);
              unspent = r.unspent;
              keeps = λ some. subst (λ old. KeepsFormsAndMeta old (counted m (memory_of meta r.middle) outcome.need outcome.fate).memory) (sym memory_is)
                  (subst (KeepsFormsAndMeta (memory_of meta (idling_begun w))) (sym (counted-memory m (memory_of meta r.middle) outcome.need outcome.fate)) (r.forms, refl));
            };
        scans = scans;
        room = r.room;
        sound = r.sound;
        ends = r.ends;
        fits = r.fits;
      }

  -- the run goes on
  pub goes-on : (scanned : ℕ) → outcome.fate ≡ None → length new.neutral ≡ 4 + scanned → ReadsOn (PerformedWith tells stream failures told flushed written lent broken) outcome scanned (stage (idling_begun w) meta source sink) new left
  goes-on scanned none long =
      let s = r.scans none in
      let same : s.0 ≡ scanned = omega (arith, long, s.1.0) in
      reads-on scanned (subst (λ n. Advances n r.middle new) same s.1.1.1)

  -- or it ends
  pub ends-here : (scanned : ℕ) → scanned ≡ 0 → outcome.fate ≢ None → ReadsOn (PerformedWith tells stream failures told flushed written lent broken) outcome scanned (stage (idling_begun w) meta source sink) new left
  ends-here scanned none some =
      reads-on scanned (subst (λ n. Advances n r.middle new) (sym none) (λ meta. ap (memory_of meta) (sym (r.ends some))))
