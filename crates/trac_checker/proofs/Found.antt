-- What a warning says, added to what was found.
use Rattle.std.proofs.Common.{◌≡◌, ◌∙◌, ℕ, Bool, true, false, List, [], ◌∷◌, ◌++◌, map, reverse, refl, sym, ap, Ordering}
use Rattle.std.proofs.lemmas.List.{map-append, reverse-append}
use Rattle.std.specs.Prelude.{◌&&◌, ◌||◌}
use Rattle.std.specs.BTreeMap.{insert_entry, is_at}
use Rattle.std.specs.Cmp.Lexicographic.{slice_cmp}
use Rattle.std.specs.List.{list_any}
use Rattle.std.specs.Map.{lookup}
use Rattle.std.specs.Ordering.{is_eq, nat_cmp}
use Rattle.std.specs.declared.vec.Vec.{Vec}
use Rattle.trac_language.specs.Text.{Text}
use Rattle.trac_warnings.specs.Findings.{is_noted, is_of_form, is_repeated, once_more, texts_of, with_text}
use Rattle.trac_warnings.specs.Watched.{said}
use Rattle.trac_warnings.specs.declared.findings.Findings.{Findings}
use Rattle.trac_warnings.specs.declared.warning.Warning.{Warning}
use Rattle.trac_warnings.proofs.Seen.{itself, seen-insert, seen-lookup}
use Rattle.trac_checker.specs.FoundSoFar.{FoundSoFar, counts_with, found_in, is_said_again, reported_with, said_cmp, with_all, with_said}
use Rattle.trac_checker.specs.Warned.{found_of}

-- a key counted once more, seen by what it stands for
module _ {K T : Type 0} (f : K → T) (cmp : K → K → Ordering) (to : T → T → Ordering) (same : (a b : K) → cmp a b ≡ to (f a) (f b)) where
  abbrev counts : List (K × ℕ) → List (T × ℕ)
  counts entries = map (λ entry. (f entry.0, entry.1)) entries

  pub counted : (entries : List (K × ℕ)) (key : K) → counts (insert_entry cmp entries key (once_more (lookup (is_at (cmp key)) entries))) ≡ insert_entry to (counts entries) (f key) (once_more (lookup (is_at (to (f key))) (counts entries)))
  counted entries key =
      seen-insert f (λ n. n) cmp to same entries key (once_more (lookup (is_at (cmp key)) entries))
      ∙ ap (λ n. insert_entry to (counts entries) (f key) (once_more n)) (sym (itself (lookup (is_at (cmp key)) entries)) ∙ seen-lookup f (λ n. n) cmp to same entries key)

-- a text is among texts
among : {A : Type 0} (text : Text) (texts : List (Vec ℕ A)) → list_any (is_at (λ other. slice_cmp nat_cmp text other.items)) texts ≡ list_any (is_at (slice_cmp nat_cmp text)) (map (λ text. text.items) texts)
among text [] = refl
among text (x ∷ texts) = ap (λ b. is_eq (slice_cmp nat_cmp text x.items) || b) (among text texts)

module _ {A : Type 0} (cmp : Warning A → Warning A → Ordering) (same : (a b : Warning A) → cmp a b ≡ said_cmp (said a) (said b)) (old new : Findings A) (w : Warning A) where
  counts-by : (again : Bool) → again ≡ is_said_again (said w) (texts_of old.reported) → (again ≡ true → new.counts.entries ≡ old.counts.entries)
      → (again ≡ false → new.counts.entries ≡ insert_entry cmp old.counts.entries w (once_more (lookup (is_at (cmp w)) old.counts.entries)))
      → found_of new.counts.entries ≡ counts_with again (said w) (found_of old.counts.entries)
  counts-by true is repeated count = ap found_of (repeated refl)
  counts-by false is repeated count = ap found_of (count refl) ∙ counted said cmp said_cmp same old.counts.entries w

  reported-by : (none : Bool) → (none ≡ false → new.reported ≡ old.reported) → (none ≡ true → texts_of new.reported ≡ with_text w.text.items (texts_of old.reported)) → texts_of new.reported ≡ reported_with none w.text.items (texts_of old.reported)
  reported-by true others noted = noted refl
  reported-by false others noted = ap texts_of (others refl)

  again-is : is_repeated w old.reported ≡ is_said_again (said w) (texts_of old.reported)
  again-is = ap (λ b. is_of_form w.suspicion && b) (among w.text.items old.reported.keys)

  -- a warning was added
  pub adds : (is_repeated w old.reported ≡ true → new.counts.entries ≡ old.counts.entries)
      → (is_repeated w old.reported ≡ false → new.counts.entries ≡ insert_entry cmp old.counts.entries w (once_more (lookup (is_at (cmp w)) old.counts.entries)))
      → (is_noted w.suspicion ≡ false → new.reported ≡ old.reported)
      → (is_noted w.suspicion ≡ true → texts_of new.reported ≡ with_text w.text.items (texts_of old.reported))
      → found_in new ≡ with_said (said w) (found_in old)
  adds repeated count others noted =
      let counts : found_of new.counts.entries ≡ counts_with (is_said_again (said w) (texts_of old.reported)) (said w) (found_of old.counts.entries) =
      counts-by (is_repeated w old.reported) again-is repeated count ∙ ap (λ b. counts_with b (said w) (found_of old.counts.entries)) again-is in
      let reported = reported-by (is_noted w.suspicion) others noted in
      λ i. record { counts = counts i; reported = reported i }

-- what warnings say, that of the last first
last-said : {A : Type 0} (warnings : List (Warning A)) (last : Warning A) → reverse (map said (warnings ++ last ∷ [])) ≡ said last ∷ reverse (map said warnings)
last-said warnings last = ap reverse (map-append said warnings (last ∷ [])) ∙ reverse-append (map said warnings) (said last ∷ [])

-- the last of some warnings was taken away, and what it says was found: with what is left, the whole is the same
pub taken : {A : Type 0} (warnings left : List (Warning A)) (last : Warning A) (old new whole : FoundSoFar) → warnings ≡ left ++ last ∷ [] → new ≡ with_said (said last) old → with_all (reverse (map said warnings)) old ≡ whole → with_all (reverse (map said left)) new ≡ whole
taken warnings left last old new whole last_is found all =
    ap (with_all (reverse (map said left))) found
    ∙ ap (λ reported. with_all reported old) (sym (last-said left last) ∙ ap (λ all. reverse (map said all)) (sym last_is))
    ∙ all
