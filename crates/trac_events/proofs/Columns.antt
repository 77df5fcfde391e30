-- Bytes that take a column each.
use Rattle.std.proofs.Common.{◌≡◌, ◌∙◌, ◌≤◌, ◌+◌, ◌-◌, ◌==◌, ℕ, zero, suc, Bool, true, false, [], ◌∷◌, drop, take}
use Rattle.std.proofs.Common.{length, refl, ap, sym, arith, if◌then◌else◌}
use Rattle.std.specs.Prelude.{◌^◌, ◌&&◌, ◌||◌, min, nat_le, nat_lt}
use Rattle.std.proofs.lemmas.List.{drop-drop, length-drop, take_all}
use Rattle.trac_language.specs.Text.{Text}
use Rattle.trac_events.specs.ByteSearch.{is_apart, len_before}
use Rattle.trac_events.specs.Places.{behind, behind_text, one_more}
use Rattle.trac_events.specs.declared.place.Place.{Place}

abbrev columns : Place → ℕ → Place
columns place n = record place { column = min (place.column + n) (2 ^ 64 - 1) }

none-apart : (a b : Bool) → a || b ≡ false → (a ≡ false) × (b ≡ false)
none-apart true b e = absurd cc
none-apart false b e = (refl, e)

no-column : (place : Place) → place.column ≤ 2 ^ 64 - 1 → place ≡ columns place 0
no-column place fits = let same : place.column
    ≡ min (place.column + 0) (2 ^ 64 - 1) = omega (arith, fits) in ap (λ n. record place { column = n }) same

one-more : (place : Place) (n : ℕ) → columns (columns place 1) n ≡ columns place (suc n)
one-more place n =
    let same : min (min (place.column + 1) (2 ^ 64 - 1) + n) (2 ^ 64 - 1)
    ≡ min (place.column + suc n) (2 ^ 64 - 1) = omega arith in
    ap (λ m. record place { column = m }) same

-- the place behind a text is that behind what follows the bytes that take a column each
pub to-apart : (place : Place) (text : Text) → place.column ≤ 2 ^ 64 - 1
    → behind_text place text ≡ behind_text (record place
    { column = min (place.column + len_before is_apart text) (2 ^ 64 - 1) })
    (drop (len_before is_apart text) text)
to-apart place [] fits = no-column place fits
to-apart place (c ∷ text) fits = by (is_apart c) refl (λ p q. to-apart p text q)
  where
    by : (m : Bool) → is_apart c ≡ m
        → ((p : Place) → p.column ≤ 2 ^ 64 - 1 → behind_text p text
        ≡ behind_text (columns p (len_before is_apart text)) (drop (len_before is_apart text) text))
        → behind_text place (c ∷ text)
        ≡ behind_text (columns place (if m then 0 else suc (len_before is_apart text)))
        (drop (if m then 0 else suc (len_before is_apart text)) (c ∷ text))
    by true apart rest = ap (λ p. behind_text p (c ∷ text)) (no-column place fits)
    by false plain rest =
        let none = none-apart (c == 10) (nat_le 128 c) plain in
        let here : behind place c ≡ columns place 1 = rw (none.0, none.1) refl in
        ap (λ p. behind_text p text) here ∙ rest (columns place 1) (omega arith)
        ∙ ap (λ p. behind_text p (drop (len_before is_apart text) text)) (one-more place (len_before is_apart text))

-- the same of the text from a place of the bytes on
pub next-apart : (place : Place) (bytes : Text) (done plain : ℕ) → place.column ≤ 2 ^ 64 - 1
    → plain ≡ len_before is_apart (take (length bytes - done) (drop done bytes))
    → behind_text place (drop done bytes) ≡ behind_text
    (record place { column = min (place.column + plain) (2 ^ 64 - 1) }) (drop (done + plain) bytes)
next-apart place bytes done plain fits is =
    let same : plain ≡ len_before is_apart (drop done bytes) = is
    ∙ ap (len_before is_apart) (take_all (length bytes - done) (drop done bytes)
    (omega (arith, length-drop done bytes))) in
    to-apart place (drop done bytes) fits
    ∙ sym (ap (λ n. behind_text (columns place n) (drop n (drop done bytes))) same)
    ∙ ap (behind_text (columns place plain)) (drop-drop plain done bytes)

-- the columns of places fit 64 bits
pub column-fits : (place : Place) (byte : ℕ) → place.column ≤ 2 ^ 64 - 1 → (behind place byte).column ≤ 2 ^ 64 - 1
column-fits place byte fits = by (byte == 10) (nat_le 128 byte && nat_lt byte 192)
  where
    by : (a b : Bool) → (if a then record { line = one_more place.line; column = 1 } else
        (if b then place else record place { column = one_more place.column })).column ≤ 2 ^ 64 - 1
    by true b = omega arith
    by false true = fits
    by false false = omega arith
