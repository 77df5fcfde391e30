-- The calls that read.
use Rattle.std.proofs.lemmas.List.{drop_all, take_all}
use Rattle.trac_language.specs.declared.mode.Mode.TheVariants.{Neutral}
use Rattle.trac_core.proofs.Imports.{None, Null, Mode, Active, take, append-nil, subst, delivered, mode_at, text_of_cells, TriedCall}
use Rattle.trac_core.proofs.Imports.{◌≡◌, ℕ, ◌+◌, ◌-◌, ◌<◌, ◌≤◌, true, false, not, List, [], ◌∷◌, ◌++◌, length, drop, Some, refl, sym, ap, ◌∙◌, arith, append_assoc, length-append, ⊎_elim, eq-eqb, ◌==◌, before_first, position_or_len, list_any, length-map, cases_lt, ReadString, ReadCharacter, InputEnded, InputFailed, Text, World, meaning_of, built, before_meta, from_meta, read_string, reads_last, read_all, valued, with_input, Byte, flat_text, Contents, used, IsSound, Stream, has_byte, Reads, arguments_at, world, ending, failing, Full, AtEnd, Over, scene, IsCall, settled, AnswersCall, IsValueFrom, TakesFrom, or_parts}
use Rattle.trac_functions.proofs.PutCharacters.{used-with}
use Rattle.trac_core.proofs.MetaCharacters.{position-past, before-none, from-none, before-at, from-at, length-before, any-at}
use Rattle.trac_core.proofs.Performing.{tried-answer, tried-full, tried-end, tried-failed, delivered-value, text-stands}

-- a text was read behind what was there
module _ (meta : ℕ) (w mid : Contents) (text : Text) (reads : Reads meta w mid text) where
  -- the cells that are used then
  pub used-reads : used mid ≡ used w + length text
  used-reads = ap used reads.pushed ∙ used-with w text

  pub room-reads : mid.room ≡ w.room
  room-reads = ap (λ (w : Contents). w.room) reads.pushed

  pub neutral-reads : length mid.neutral ≡ length w.neutral + length text
  neutral-reads = ap (λ (w : Contents). length w.neutral) reads.pushed ∙ length-append w.neutral (flat_text text) ∙ ap (λ n. length w.neutral + n) (length-map text Byte)

  -- the same, as a settled value counts them
  put-reads : used w + (length mid.neutral - length w.neutral) ≡ used w + length text
  put-reads = omega (arith, neutral-reads)

  -- what a call of rs took from the source
  pub reads-take : (last : Text) (old new : Stream) → IsSound mid → length last ≤ 1 → old.bytes ≡ text ++ (last ++ new.bytes) → TakesFrom w old new (text ++ last)
  reads-take last old new sound short gave =
      record { consumed = gave ∙ sym (append_assoc text last new.bytes); few = omega (arith, length-append text last, used-reads, room-reads, sound.fits) }

  -- what was read stands as a value
  pub reads-stands : IsSound mid → IsValueFrom (used w) (length w.neutral) mid
  reads-stands sound = text-stands w mid w.forms text reads.pushed (omega (arith, used-reads, room-reads, sound.fits))

-- a value of no characters is null
null-delivered : (mode : Mode) (place from : ℕ) (w : Contents) → length w.neutral ≡ from → delivered mode false (text_of_cells (drop from w.neutral)) place (record w { neutral = take from w.neutral }) ≡ record w { neutral = take place w.neutral }
null-delivered mode place from w size =
    rw (drop_all from w.neutral (omega (arith, size)), take_all from w.neutral (omega (arith, size))) (go mode)
  where
    go : (mode : Mode) → delivered mode false [] place w ≡ record w { neutral = take place w.neutral }
    go Active = refl
    go Neutral = ap (λ cells. record w { neutral = cells }) (append-nil (take place w.neutral))

pub null-read : (place : ℕ) (w mid : Contents) (meta : ℕ) (source source' : Stream) (written : Text) → length mid.neutral ≡ length w.neutral → AnswersCall place (scene w meta source written) AtEnd (scene mid meta source' written) → AnswersCall place (scene w meta source written) (Null 0) (scene mid meta source' written)
null-read place w mid meta source source' written size answers =
    let needs : used w + (length mid.neutral - length w.neutral) ≡ used w + 0 = omega (arith, size) in
    subst (λ n. TriedCall place (scene w meta source written) None n (scene (settled (Null 0) place (length w.neutral) mid) meta source' written)) needs
    (subst (λ contents. TriedCall place (scene w meta source written) None (used w + (length mid.neutral - length w.neutral)) (scene contents meta source' written))
    (null-delivered (mode_at mid.neutral place) place (length w.neutral) mid size) answers)

is-same : (meta : ℕ) → (meta == meta) ≡ true
is-same meta = eq-eqb meta meta refl

module _ (w mid : Contents) (place meta : ℕ) (text : Text) (call : IsCall w place (Some ReadString)) (reads : Reads meta w mid text) (sound : IsSound mid) where
  args : List Text
  args = arguments_at w.neutral place

  -- what was read is the value
  read-value : (source source' : Stream) (written : Text) → before_meta (world w.forms meta (ending source.bytes)) ≡ text → read_string text (from_meta (world w.forms meta (ending source.bytes))) (world w.forms meta (ending source.bytes)) ≡ valued text (world w.forms meta (ending source'.bytes)) → (source.ended ≡ true → source'.ended ≡ true) → (reads_last (Some ReadString) (world w.forms meta (ending source.bytes)) ≡ true → source'.ended ≡ true) → AnswersCall place (scene w meta source written) AtEnd (scene mid meta source' written)
  unfolding meaning_of
  read-value source source' written before means stays_ended read_all =
      let here = world w.forms meta (ending source.bytes) in
      let room = room-reads meta w mid text reads in
      tried-answer place (Some ReadString) (scene w meta source written) _ _ (used w + (length mid.neutral - length w.neutral))
      (record { names = call.names; means = ap (λ t. read_string t (from_meta here) here) before ∙ means; needs = put-reads meta w mid text reads ∙ ap (λ t. used w + length t) (sym before); fits = omega (arith, put-reads meta w mid text reads, used-reads meta w mid text reads) })
      (record { stands = delivered-value w mid place text w.forms call.innermost reads.pushed; world = refl; prints = sym (append-nil written); stays_ended = stays_ended; read_all = read_all })

  -- the meta character followed
  pub read-to-meta : (source source' : Stream) (written : Text) → source.bytes ≡ text ++ meta ∷ source'.bytes → source.ended ≡ false → AnswersCall place (scene w meta source written) AtEnd (scene mid meta source' written)
  read-to-meta source source' written gave open_still =
      let p = λ (c : ℕ). c == meta in
      let here = world w.forms meta (ending source.bytes) in
      let before : before_meta here ≡ text = ap (before_first p) gave ∙ before-at p text meta source'.bytes reads.no_meta (is-same meta) in
      let after : from_meta here ≡ meta ∷ source'.bytes = ap (λ t. drop (position_or_len p t) t) gave ∙ from-at p text meta source'.bytes reads.no_meta (is-same meta) in
      read-value source source' written before (ap (λ t. read_string text t here) after) (λ e. absurd cc)
      (λ e. absurd (let any = ap (list_any p) gave ∙ any-at p text meta source'.bytes (is-same meta) in let n = ap not any in cc))

  -- the source ended after some bytes
  pub read-some : (source source' : Stream) (written : Text) → 0 < length text → source.bytes ≡ text → source'.bytes ≡ [] → source'.ended ≡ true → AnswersCall place (scene w meta source written) AtEnd (scene mid meta source' written)
  read-some source source' written some gave none_left ended =
      let p = λ (c : ℕ). c == meta in
      let here = world w.forms meta (ending source.bytes) in
      let before : before_meta here ≡ text = ap (before_first p) gave ∙ before-none p text reads.no_meta in
      let after : from_meta here ≡ [] = ap (λ t. drop (position_or_len p t) t) gave ∙ from-none p text reads.no_meta in
      read-value source source' written before (ap (λ t. read_string text t here) after ∙ all text some here ∙ ap (λ t. valued text (with_input t here)) (sym none_left)) (λ e. ended) (λ e. ended)
    where
      all : (text : Text) → 0 < length text → (here : World) → read_all false text here ≡ valued text (with_input [] here)
      all [] some here = absurd (omega arith)
      all (c ∷ text) some here = refl

  -- the source ended at once
  pub read-none : (new : Contents) → used new ≡ used mid → (source source' : Stream) (written : Text) → length text ≡ 0 → source.bytes ≡ text → source'.bytes ≡ [] → AnswersCall place (scene w meta source written) (Over InputEnded) (scene new meta source' written)
  unfolding meaning_of
  read-none new same source source' written none gave none_left = λ old p m room_is memory_is allowed.
      let here = world w.forms meta (ending source.bytes) in
      let text_is : text ≡ [] = nothing text none in
      let bytes_is : source.bytes ≡ [] = gave ∙ text_is in
      let room = room-reads meta w mid text reads in
      tried-end place (Some ReadString) InputEnded (scene w meta source written) source' (used new)
      (record { names = call.names; means = ap (λ bytes. meaning_of ReadString (arguments_at w.neutral place) (world w.forms meta (ending bytes))) bytes_is; needs = same ∙ used-reads meta w mid text reads ∙ ap (λ n. used w + n) (none ∙ sym (ap (λ bytes. length (before_first (λ c. c == meta) bytes)) bytes_is)); fits = omega arith })
      (none_left ∙ sym bytes_is) old p m room_is memory_is allowed _ refl refl
    where
      nothing : (text : Text) → length text ≡ 0 → text ≡ []
      nothing [] e = refl
      nothing (c ∷ text) e = absurd (omega arith)

  -- the source failed
  pub read-failed : (new : Contents) → used new ≡ used mid → (source source' : Stream) (written : Text) → source.bytes ≡ text ++ source'.bytes → source.ended ≡ false → AnswersCall place (scene w meta source written) (Over InputFailed) (scene new meta source' written)
  unfolding meaning_of
  read-failed new same source source' written gave open_still =
      let p = λ (c : ℕ). c == meta in
      let here = world w.forms meta (failing text) in
      let before : before_meta here ≡ text = before-none p text reads.no_meta in
      let after : from_meta here ≡ [] = from-none p text reads.no_meta in
      let room = room-reads meta w mid text reads in
      tried-failed place (Some ReadString) (scene w meta source written) new source' text (used new)
      (record { names = call.names; means = ap (λ t. read_string t (from_meta here) here) before ∙ ap (λ t. read_string text t here) after; needs = same ∙ used-reads meta w mid text reads ∙ ap (λ t. used w + length t) (sym before); fits = omega arith })
      gave open_still

  -- no cell was free for the next byte
  pub read-full : (new : Contents) (source source' : Stream) (written : Text) (next : ℕ) → mid.room ≤ used mid → source.bytes ≡ text ++ next ∷ source'.bytes → has_byte meta (next ∷ []) ≡ false → AnswersCall place (scene w meta source written) Full (scene new meta source' written)
  read-full new source source' written next full gave differs =
      let p = λ (c : ℕ). c == meta in
      let here = world w.forms meta (ending source.bytes) in
      let more = position-past p text next source'.bytes reads.no_meta (or_parts (next == meta) false differs).0 in
      let long : length (before_meta here) ≡ position_or_len p (text ++ next ∷ source'.bytes) = ap (λ t. length (before_first p t)) gave ∙ length-before p (text ++ next ∷ source'.bytes) in
      let room = room-reads meta w mid text reads in
      let cells = used-reads meta w mid text reads in
      tried-full place (Some ReadString) (scene w meta source written) new source' 0 call.names (omega arith)

-- ---- rc

module _ (w : Contents) (place meta : ℕ) (call : IsCall w place (Some ReadCharacter)) where
  pub character-read : (mid : Contents) (byte : ℕ) (source source' : Stream) (written : Text) → IsSound mid → mid ≡ record w { neutral = w.neutral ++ Byte byte ∷ [] } → source.bytes ≡ byte ∷ source'.bytes → source.ended ≡ false → AnswersCall place (scene w meta source written) AtEnd (scene mid meta source' written)
  unfolding meaning_of
  character-read mid byte source source' written sound pushed gave open_still =
      let args = arguments_at w.neutral place in
      let means = ap (λ bytes. meaning_of ReadCharacter args (world w.forms meta (ending bytes))) gave in
      let long = length-append w.neutral (Byte byte ∷ []) in
      let room = ap (λ (w : Contents). w.room) pushed in
      let cells : used mid ≡ used w + 1 = ap used pushed ∙ omega arith in
      let one : length mid.neutral ≡ length w.neutral + 1 = ap (λ (w : Contents). length w.neutral) pushed ∙ long in
      tried-answer place (Some ReadCharacter) (scene w meta source written) _ _ (used w + (length mid.neutral - length w.neutral))
      (record { names = call.names; means = means; needs = (let more : used w + (length mid.neutral - length w.neutral) ≡ used w + 1 = omega arith in more) ∙ ap (λ bytes. used w + built (Some ReadCharacter) args (world w.forms meta (ending bytes))) (sym gave); fits = omega arith })
      (record { stands = delivered-value w mid place (byte ∷ []) w.forms call.innermost pushed; world = refl; prints = sym (append-nil written); stays_ended = λ e. absurd cc; read_all = λ e. absurd cc })

  pub character-full : (new : Contents) (byte : ℕ) (source source' : Stream) (written : Text) → w.room ≤ used w → source.bytes ≡ byte ∷ source'.bytes → AnswersCall place (scene w meta source written) Full (scene new meta source' written)
  unfolding meaning_of
  character-full new byte source source' written full gave =
      let args = arguments_at w.neutral place in
      let one : built (Some ReadCharacter) args (world w.forms meta (ending source.bytes)) ≡ 1 = ap (λ bytes. built (Some ReadCharacter) args (world w.forms meta (ending bytes))) gave in
      tried-full place (Some ReadCharacter) (scene w meta source written) new source' 0 call.names (omega arith)

  pub character-ended : (source source' : Stream) (written : Text) → source.bytes ≡ [] → source'.bytes ≡ [] → AnswersCall place (scene w meta source written) (Over InputEnded) (scene w meta source' written)
  unfolding meaning_of
  character-ended source source' written none none_left = λ old p m room_is memory_is allowed.
      let args = arguments_at w.neutral place in
      let zero_built : built (Some ReadCharacter) args (world w.forms meta (ending source.bytes)) ≡ 0 = ap (λ bytes. built (Some ReadCharacter) args (world w.forms meta (ending bytes))) none in
      tried-end place (Some ReadCharacter) InputEnded (scene w meta source written) source' (used w)
      (record { names = call.names; means = ap (λ bytes. meaning_of ReadCharacter args (world w.forms meta (ending bytes))) none; needs = omega arith; fits = call.sound.fits })
      (none_left ∙ sym none) old p m room_is memory_is allowed _ refl refl

  pub character-failed : (source source' : Stream) (written : Text) → source'.bytes ≡ source.bytes → source.ended ≡ false → AnswersCall place (scene w meta source written) (Over InputFailed) (scene w meta source' written)
  unfolding meaning_of
  character-failed source source' written same open_still =
      tried-failed place (Some ReadCharacter) (scene w meta source written) w source' [] (used w) (record { names = call.names; means = refl; needs = omega arith; fits = call.sound.fits }) (sym same) open_still

pub not-less : (a b : ℕ) → (a < b → false ≡ true) → b ≤ a
not-less a b h = ⊎_elim (λ lt. absurd (let e = h lt in cc)) (λ le. le) (cases_lt a b)
