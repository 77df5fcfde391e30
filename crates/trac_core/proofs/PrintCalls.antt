-- The calls that print, change the meta character and stop.
use Rattle.trac_core.proofs.Imports.{◌≡◌, ◌≢◌, ℕ, List, [], ◌∷◌, ◌++◌, drop, false, length, nat_lt, Some, None, refl, sym, ap, ◌∙◌, arith, slice_get, get_or-drop, append-nil, PrintString, ChangeMeta, Halt, Halted, OutputFailed, Text, argument, World, change_meta, silent, meaning_of, value_length, Contents, used, Stream, arguments_at, world, ending, Null, Over, scene, IsCall, AnswersCall}
use Rattle.trac_core.proofs.Performing.{tried-null, tried-end, tried-broken}

-- the first argument after the name
pub argument-one : (args rest : List Text) → rest ≡ drop 1 args → argument rest 0 ≡ argument args 1
argument-one args rest e = ap (λ l. argument l 0) e ∙ get_or-drop 1 args 0 []

pub null-text : (text : Text) → nat_lt 0 (length text) ≡ false → text ≡ []
null-text [] e = refl
null-text (c ∷ text) e = absurd (grind (arith, e))

pub some-same : {a b : ℕ} → Some a ≡ Some b → a ≡ b
some-same e = cc

module _ (w : Contents) (place : ℕ) where
  pub answers-print : IsCall w place (Some PrintString) → (meta : ℕ) (source : Stream) (written : Text) → AnswersCall place (scene w meta source written) (Null 0) (scene w meta source (written ++ argument (arguments_at w.neutral place) 1))
  unfolding meaning_of
  answers-print call meta source written =
      tried-null place (Some PrintString) (scene w meta source written) meta (argument (arguments_at w.neutral place) 1) _ call refl refl refl refl

  pub answers-print-broken : IsCall w place (Some PrintString) → (meta : ℕ) (source : Stream) (written put rest : Text) → argument (arguments_at w.neutral place) 1 ≡ put ++ rest → put ++ rest ≢ [] → AnswersCall place (scene w meta source written) (Over OutputFailed) (scene w meta source (written ++ put))
  unfolding meaning_of
  answers-print-broken call meta source written put rest parts some =
      tried-broken place (Some PrintString) (scene w meta source written) put rest (used w) _ (record { names = call.names; means = refl; needs = omega arith; fits = call.sound.fits }) parts some

  pub answers-halt : IsCall w place (Some Halt) → (meta : ℕ) (source : Stream) (written : Text) → AnswersCall place (scene w meta source written) (Over Halted) (scene w meta source written)
  unfolding meaning_of
  answers-halt call meta source written = λ old p m room_is memory_is allowed.
      tried-end place (Some Halt) Halted (scene w meta source written) source (used w) (record { names = call.names; means = refl; needs = omega arith; fits = call.sound.fits }) refl old p m room_is memory_is allowed _ refl refl

  -- the meta character after a text was given
  first-meta : (meta meta' : ℕ) (text : Text) → ((c : ℕ) → slice_get text 0 ≡ Some c → meta' ≡ c) → (slice_get text 0 ≡ None → meta' ≡ meta) → (world' : World) → change_meta text (record world' { meta = meta }) ≡ silent (record world' { meta = meta' })
  first-meta meta meta' [] some none world' = ap (λ m. silent (record world' { meta = m })) (sym (none refl))
  first-meta meta meta' (c ∷ text) some none world' = ap (λ m. silent (record world' { meta = m })) (sym (some c refl))

  pub answers-meta : (meta meta' : ℕ) → IsCall w place (Some ChangeMeta) → ((c : ℕ) → slice_get (argument (arguments_at w.neutral place) 1) 0 ≡ Some c → meta' ≡ c) → (slice_get (argument (arguments_at w.neutral place) 1) 0 ≡ None → meta' ≡ meta) → (source : Stream) (written : Text) → AnswersCall place (scene w meta source written) (Null 0) (scene w meta' source written)
  unfolding meaning_of
  answers-meta meta meta' call some none source written =
      let means = first-meta meta meta' (argument (arguments_at w.neutral place) 1) some none (world w.forms meta (ending source.bytes)) in
      tried-null place (Some ChangeMeta) (scene w meta source written) meta' [] written call means (sym (ap value_length means)) refl (sym (append-nil written))
