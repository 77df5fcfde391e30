-- What is read from an image.
use Rattle.std.proofs.Common.{All, List, [], ap, append_assoc, arith, drop, get_or, length, length-append, refl, subst, sym, take, zero, suc, ℕ, ◌*◌, ◌++◌, ◌+◌, ◌-◌, ◌<◌, ◌∙◌, ◌∷◌, ◌≡◌, ◌≤◌, ⊎_elim, ◌/◌, ◌%◌, true, false, eq-eqb}
use Rattle.std.proofs.lemmas.Bool.{true≢false, cases_Bool, eqb-true, ne_eqb}
use Rattle.std.proofs.lemmas.List.{drop-drop, length-drop, length-take-le, take-append-drop}
use Rattle.std.proofs.lemmas.List.Elements.{All-drop, All-head, All-tail, All-take}
use Rattle.std.proofs.Math.Seq.{drop-append_seam, take-append_seam}
use Rattle.std.specs.Prelude.{if◌then◌else◌, flat_map}
use Rattle.trac_language.specs.declared.item.Item.{Item}
use Rattle.trac_language.specs.declared.item.Item.TheVariants.{Byte, Gap}
use Rattle.trac_language.specs.Text.{Text}
use Rattle.trac_language.specs.Form.{Form, text_of}
use Rattle.trac_image.specs.Laws.{AreCodable, HaveOrdinals, IsCodable}
use Rattle.trac_image.specs.Image.{four_bytes, gap_bytes, form_image}
use Rattle.trac_image.specs.Reading.{number_in, is_gap_behind, woven, GapsFit, HasParts, heads_in, name_in, behind_name, characters_in, behind_characters, gap_size, gaps_in, form_in, behind_form, forms_in, behind_forms, gap_count, IsCharacter}

digits : (n : ℕ) → n < 4294967296 → n ≡ n % 256 + 256 * (n / 256 % 256) + 65536 * (n / 65536 % 256) + 16777216 * (n / 16777216 % 256)
digits n few = omega (arith, few)

-- the number that four bytes hold
pub number-read : (n : ℕ) (rest : Text) → n < 4294967296 → number_in (four_bytes n ++ rest) ≡ n
number-read n rest few = sym (digits n few)

-- four bytes hold a number
pub number-bytes : (t : Text) → 4 ≤ length t → All IsCharacter t → t ≡ four_bytes (number_in t) ++ drop 4 t
number-bytes [] long bytes = absurd (omega (arith, long))
number-bytes (a ∷ []) long bytes = absurd (omega (arith, long))
number-bytes (a ∷ b ∷ []) long bytes = absurd (omega (arith, long))
number-bytes (a ∷ b ∷ c ∷ []) long bytes = absurd (omega (arith, long))
number-bytes (a ∷ b ∷ c ∷ d ∷ rest) long bytes =
    let n = a + 256 * b + 65536 * c + 16777216 * d in
    let a_few : a < 256 = All-head IsCharacter a (b ∷ c ∷ d ∷ rest) bytes in
    let bytes_b = All-tail IsCharacter a (b ∷ c ∷ d ∷ rest) bytes in
    let b_few : b < 256 = All-head IsCharacter b (c ∷ d ∷ rest) bytes_b in
    let bytes_c = All-tail IsCharacter b (c ∷ d ∷ rest) bytes_b in
    let c_few : c < 256 = All-head IsCharacter c (d ∷ rest) bytes_c in
    let d_few : d < 256 = All-head IsCharacter d rest (All-tail IsCharacter c (d ∷ rest) bytes_c) in
    let first : a ≡ n % 256 = omega (arith, a_few, b_few, c_few, d_few) in
    let second : b ≡ n / 256 % 256 = omega (arith, a_few, b_few, c_few, d_few) in
    let third : c ≡ n / 65536 % 256 = omega (arith, a_few, b_few, c_few, d_few) in
    let fourth : d ≡ n / 16777216 % 256 = omega (arith, a_few, b_few, c_few, d_few) in
    λ i. first i ∷ second i ∷ third i ∷ fourth i ∷ rest

pub gaps-few : (items : List Item) → gap_count items ≤ length items
gaps-few [] = omega arith
gaps-few (Byte c ∷ items) = omega (arith, gaps-few items)
gaps-few (Gap k ∷ items) = omega (arith, gaps-few items)

-- the next item is a gap, or a character
pub woven-gap : (n since : ℕ) (gaps chars : Text) → is_gap_behind since gaps ≡ true → woven (suc n) since gaps chars ≡ Gap (number_in (drop 4 gaps)) ∷ woven n 0 (drop 8 gaps) chars
woven-gap n since gaps chars is =
    ap (λ b. if b then Gap (number_in (drop 4 gaps)) ∷ woven n 0 (drop 8 gaps) chars else Byte (get_or chars 0 0) ∷ woven n (since + 1) gaps (drop 1 chars)) is

pub woven-byte : (n since : ℕ) (gaps chars : Text) → is_gap_behind since gaps ≡ false → woven (suc n) since gaps chars ≡ Byte (get_or chars 0 0) ∷ woven n (since + 1) gaps (drop 1 chars)
woven-byte n since gaps chars is =
    ap (λ b. if b then Gap (number_in (drop 4 gaps)) ∷ woven n 0 (drop 8 gaps) chars else Byte (get_or chars 0 0) ∷ woven n (since + 1) gaps (drop 1 chars)) is

pub length-woven : (n since : ℕ) (gaps chars : Text) → length (woven n since gaps chars) ≡ n
length-woven zero since gaps chars = refl
length-woven (suc n) since gaps chars =
    ⊎_elim
    (λ is. ap length (woven-gap n since gaps chars is) ∙ ap suc (length-woven n 0 (drop 8 gaps) chars))
    (λ is. ap length (woven-byte n since gaps chars is) ∙ ap suc (length-woven n (since + 1) gaps (drop 1 chars)))
    (cases_Bool (is_gap_behind since gaps))

-- a gap's eight bytes
gap-split : (since : ℕ) (gaps : Text) → 8 ≤ length gaps → All IsCharacter gaps → number_in gaps ≡ since → four_bytes since ++ (four_bytes (number_in (drop 4 gaps)) ++ drop 8 gaps) ≡ gaps
gap-split since gaps long bytes is =
    let behind = number-bytes (drop 4 gaps) (omega (arith, long, length-drop 4 gaps)) (All-drop IsCharacter 4 gaps bytes) in
    let front = number-bytes gaps (omega (arith, long)) bytes in
    let rest : drop 4 (drop 4 gaps) ≡ drop 8 gaps = drop-drop 4 4 gaps in
    ap (λ n. four_bytes n ++ (four_bytes (number_in (drop 4 gaps)) ++ drop 8 gaps)) (sym is)
    ∙ ap (λ t. four_bytes (number_in gaps) ++ (four_bytes (number_in (drop 4 gaps)) ++ t)) (sym rest)
    ∙ ap (λ t. four_bytes (number_in gaps) ++ t) (sym behind)
    ∙ sym front

-- the items have these characters, and these gaps behind so many characters
pub record Weaves (items : List Item) (since : ℕ) (marks chars : Text) : Type 0 where
  pub text : text_of items ≡ chars
  pub gaps : gap_bytes since items ≡ marks

is-since : (since : ℕ) (gaps : Text) → is_gap_behind since gaps ≡ true → number_in gaps ≡ since
is-since since [] is = elim (true≢false (sym is)) [ ]
is-since since (b ∷ gaps) is = eqb-true (number_in (b ∷ gaps)) since is

weave-gap : (since g : ℕ) (gaps chars : Text) (items : List Item) → length gaps ≡ 8 * (g + 1) → All IsCharacter gaps → is_gap_behind since gaps ≡ true → Weaves items 0 (drop 8 gaps) chars → Weaves (Gap (number_in (drop 4 gaps)) ∷ items) since gaps chars
weave-gap since g gaps chars items long bytes is rest = record {
  text = rest.text;
  gaps = ap (λ t. four_bytes since ++ (four_bytes (number_in (drop 4 gaps)) ++ t)) rest.gaps ∙ gap-split since gaps (omega (arith, long)) bytes (is-since since gaps is);
}

-- woven items have the characters and the gaps of which they were woven, where as many of them are gaps
pub woven-back : (n g since : ℕ) (gaps chars : Text) → All IsCharacter gaps → length gaps ≡ 8 * g → n ≡ g + length chars → gap_count (woven n since gaps chars) ≡ g → Weaves (woven n since gaps chars) since gaps chars
woven-back zero g since [] [] bytes groups all count = record { text = refl; gaps = refl }
woven-back zero g since (b ∷ gaps) chars bytes groups all count = absurd (omega (arith, groups, all))
woven-back zero g since [] (c ∷ chars) bytes groups all count = absurd (omega (arith, groups, all))
woven-back (suc n) g since gaps chars bytes groups all count =
    ⊎_elim
    (λ is.
    let next = woven-gap n since gaps chars is in
    let items = woven n 0 (drop 8 gaps) chars in
    let counted : 1 + gap_count items ≡ g = sym (ap gap_count next) ∙ count in
    let long : length gaps ≡ 8 * (gap_count items + 1) = omega (arith, groups, counted) in
    let rest = woven-back n (gap_count items) 0 (drop 8 gaps) chars (All-drop IsCharacter 8 gaps bytes) (omega (arith, long, length-drop 8 gaps)) (omega (arith, all, counted)) refl in
    subst (λ items. Weaves items since gaps chars) (sym next) (weave-gap since (gap_count items) gaps chars items long bytes is rest))
    (λ is.
    let next = woven-byte n since gaps chars is in
    let items = woven n (since + 1) gaps (drop 1 chars) in
    let counted : gap_count items ≡ g = sym (ap gap_count next) ∙ count in
    let few = gaps-few items in
    let long = length-woven n (since + 1) gaps (drop 1 chars) in
    let some : 0 < length chars = omega (arith, all, counted, few, long) in
    let rest = woven-back n g (since + 1) gaps (drop 1 chars) bytes groups (omega (arith, all, some, length-drop 1 chars)) counted in
    subst (λ items. Weaves items since gaps chars) (sym next) (weave-byte since gaps chars items some rest))
    (cases_Bool (is_gap_behind since gaps))
  where
    weave-byte : (since : ℕ) (gaps chars : Text) (items : List Item) → 0 < length chars → Weaves items (since + 1) gaps (drop 1 chars) → Weaves (Byte (get_or chars 0 0) ∷ items) since gaps chars
    weave-byte since gaps [] items some rest = absurd (omega (arith, some))
    weave-byte since gaps (c ∷ chars) items some rest = record { text = ap (λ t. c ∷ t) rest.text; gaps = rest.gaps }

-- an item's gaps are not nearer than the characters that were passed
not-nearer : (items : List Item) (since passed : ℕ) → passed < since → since + length items < 4294967296 → is_gap_behind passed (gap_bytes since items) ≡ false
not-nearer [] since passed less few = refl
not-nearer (Byte c ∷ items) since passed less few = not-nearer items (since + 1) passed (omega (arith, less)) (omega (arith, few))
not-nearer (Gap k ∷ items) since passed less few =
    ne_eqb (number_in (gap_bytes since (Gap k ∷ items))) passed (λ same. (let read = number-read since (four_bytes k ++ gap_bytes 0 items) (omega (arith, few)) in omega (arith, less, same, read)))

-- the items of an image are woven from it
pub woven-again : (items : List Item) (since : ℕ) → since + length items < 4294967296 → HaveOrdinals items → woven (length items) since (gap_bytes since items) (text_of items) ≡ items
woven-again [] since few ordinals = refl
woven-again (Byte c ∷ items) since few ordinals =
    woven-byte (length items) since (gap_bytes (since + 1) items) (c ∷ text_of items) (not-nearer items (since + 1) since (omega arith) (omega (arith, few)))
    ∙ ap (λ items. Byte c ∷ items) (woven-again items (since + 1) (omega (arith, few)) ordinals)
woven-again (Gap k ∷ items) since few ordinals =
    let gaps = gap_bytes since (Gap k ∷ items) in
    let is : is_gap_behind since gaps ≡ true = eq-eqb (number_in gaps) since (number-read since (four_bytes k ++ gap_bytes 0 items) (omega (arith, few))) in
    woven-gap (length items) since gaps (text_of items) is
    ∙ ap (λ k. Gap k ∷ woven (length items) 0 (gap_bytes 0 items) (text_of items)) (number-read k (gap_bytes 0 items) ordinals.0)
    ∙ ap (λ items. Gap k ∷ items) (woven-again items 0 (omega (arith, few)) ordinals.1)

length-gaps : (items : List Item) (since : ℕ) → length (gap_bytes since items) + 8 * length (text_of items) ≡ 8 * length items
length-gaps [] since = omega arith
length-gaps (Byte c ∷ items) since = omega (arith, length-gaps items (since + 1))
length-gaps (Gap k ∷ items) since = omega (arith, length-gaps items 0)

few-characters : (items : List Item) → length (text_of items) ≤ length items
few-characters [] = omega arith
few-characters (Byte c ∷ items) = omega (arith, few-characters items)
few-characters (Gap k ∷ items) = omega (arith, few-characters items)

pub gaps-counted : (items : List Item) → gap_count items + length (text_of items) ≡ length items
gaps-counted [] = omega arith
gaps-counted (Byte c ∷ items) = omega (arith, gaps-counted items)
gaps-counted (Gap k ∷ items) = omega (arith, gaps-counted items)

-- four numbers in front of a text
abbrev numbered : (n b c p : ℕ) → Text → Text
numbered n b c p t = four_bytes n ++ (four_bytes b ++ (four_bytes c ++ (four_bytes p ++ t)))

heads-bytes : (t : Text) → 16 ≤ length t → All IsCharacter t → let h = heads_in t in t ≡ numbered h.name h.body h.characters h.pointer (drop 16 t)
heads-bytes t long bytes =
    let h = heads_in t in
    let first = number-bytes t (omega (arith, long)) bytes in
    let second = number-bytes (drop 4 t) (omega (arith, long, length-drop 4 t)) (All-drop IsCharacter 4 t bytes) ∙ ap (λ s. four_bytes h.body ++ s) (drop-drop 4 4 t) in
    let third = number-bytes (drop 8 t) (omega (arith, long, length-drop 8 t)) (All-drop IsCharacter 8 t bytes) ∙ ap (λ s. four_bytes h.characters ++ s) (drop-drop 4 8 t) in
    let fourth = number-bytes (drop 12 t) (omega (arith, long, length-drop 12 t)) (All-drop IsCharacter 12 t bytes) ∙ ap (λ s. four_bytes h.pointer ++ s) (drop-drop 4 12 t) in
    first ∙ ap (λ s. four_bytes h.name ++ s) second
    ∙ ap (λ s. four_bytes h.name ++ (four_bytes h.body ++ s)) third
    ∙ ap (λ s. four_bytes h.name ++ (four_bytes h.body ++ (four_bytes h.characters ++ s))) fourth

form-woven : (t : Text) → All IsCharacter t → HasParts t → Weaves (form_in t).body 0 (gaps_in t) (characters_in t)
form-woven t bytes has =
    let h = heads_in t in
    let chars : length (characters_in t) ≡ h.characters = length-take-le h.characters (behind_name t) has.room.characters in
    let gaps : length (gaps_in t) ≡ 8 * (h.body - h.characters) = length-take-le (gap_size h) (behind_characters t) has.room.gaps in
    woven-back h.body (h.body - h.characters) 0 (gaps_in t) (characters_in t)
    (All-take IsCharacter (gap_size h) (behind_characters t) (All-drop IsCharacter h.characters (behind_name t) (All-drop IsCharacter h.name (drop 16 t) (All-drop IsCharacter 16 t bytes))))
    gaps (omega (arith, chars, has.room.fewer)) (omega (arith, has.counted, has.room.fewer))

-- what has the parts of a form begins with its image
pub form-whole : (t : Text) → All IsCharacter t → HasParts t → t ≡ form_image (form_in t) ++ behind_form t
form-whole t bytes has =
    let h = heads_in t in
    let f = form_in t in
    let woven_so = form-woven t bytes has in
    let rest = behind_form t in
    let n : h.name ≡ length f.name = sym (length-take-le h.name (drop 16 t) has.room.name) in
    let b : h.body ≡ length f.body = sym (length-woven h.body 0 (gaps_in t) (characters_in t)) in
    let c : h.characters ≡ length (text_of f.body) = sym (length-take-le h.characters (behind_name t) has.room.characters) ∙ sym (ap length woven_so.text) in
    let third : gap_bytes 0 f.body ++ rest ≡ behind_characters t = ap (λ s. s ++ rest) woven_so.gaps ∙ take-append-drop (gap_size h) (behind_characters t) in
    let second : text_of f.body ++ (gap_bytes 0 f.body ++ rest) ≡ behind_name t = (λ i. woven_so.text i ++ third i) ∙ take-append-drop h.characters (behind_name t) in
    let first : f.name ++ (text_of f.body ++ (gap_bytes 0 f.body ++ rest)) ≡ drop 16 t = ap (λ s. f.name ++ s) second ∙ take-append-drop h.name (drop 16 t) in
    let parted : (f.name ++ (text_of f.body ++ gap_bytes 0 f.body)) ++ rest ≡ drop 16 t =
    append_assoc f.name (text_of f.body ++ gap_bytes 0 f.body) rest ∙ ap (λ s. f.name ++ s) (append_assoc (text_of f.body) (gap_bytes 0 f.body) rest) ∙ first in
    heads-bytes t has.room.heads bytes ∙ (λ i. numbered (n i) (b i) (c i) h.pointer (sym parted i))

-- the form of an image is read from it
pub record Reads (f : Form) (rest t : Text) : Type 0 where
  pub form : form_in t ≡ f
  pub behind : behind_form t ≡ rest
  pub has : HasParts t

pub form-read : (f : Form) (rest : Text) → IsCodable f → Reads f rest (form_image f ++ rest)
form-read f rest codable =
    let t = form_image f ++ rest in
    let h = heads_in t in
    let text = text_of f.body in
    let gaps = gap_bytes 0 f.body in
    let few = few-characters f.body in
    let n : h.name ≡ length f.name = number-read (length f.name) [] codable.name in
    let b : h.body ≡ length f.body = number-read (length f.body) [] codable.body in
    let c : h.characters ≡ length text = number-read (length text) [] (omega (arith, few, codable.body)) in
    let p : h.pointer ≡ f.pointer = number-read f.pointer [] codable.pointer in
    let parted : drop 16 t ≡ f.name ++ (text ++ (gaps ++ rest)) =
    append_assoc f.name (text ++ gaps) rest ∙ ap (λ s. f.name ++ s) (append_assoc text gaps rest) in
    let name : name_in t ≡ f.name = (λ i. take (n i) (parted i)) ∙ take-append_seam f.name (text ++ (gaps ++ rest)) in
    let after_name : behind_name t ≡ text ++ (gaps ++ rest) = (λ i. drop (n i) (parted i)) ∙ drop-append_seam f.name (text ++ (gaps ++ rest)) in
    let chars : characters_in t ≡ text = (λ i. take (c i) (after_name i)) ∙ take-append_seam text (gaps ++ rest) in
    let after_chars : behind_characters t ≡ gaps ++ rest = (λ i. drop (c i) (after_name i)) ∙ drop-append_seam text (gaps ++ rest) in
    let size : gap_size h ≡ length gaps = omega (arith, length-gaps f.body 0, few, b, c) in
    let marks : gaps_in t ≡ gaps = (λ i. take (size i) (after_chars i)) ∙ take-append_seam gaps rest in
    let behind : behind_form t ≡ rest = (λ i. drop (size i) (after_chars i)) ∙ drop-append_seam gaps rest in
    let body : (form_in t).body ≡ f.body = (λ i. woven (b i) 0 (marks i) (chars i)) ∙ woven-again f.body 0 (omega (arith, codable.body)) codable.ordinals in
    record {
      form = λ i. record { name = name i; body = body i; pointer = p i };
      behind = behind;
      has = record {
        room = record {
          fewer = omega (arith, c, b, few);
          heads = omega arith;
          name = omega (arith, n, ap length parted, length-append f.name (text ++ (gaps ++ rest)));
          characters = omega (arith, c, ap length after_name, length-append text (gaps ++ rest));
          gaps = omega (arith, size, ap length after_chars, length-append gaps rest);
        };
        counted = omega (arith, b, c, gaps-counted f.body, ap gap_count body);
      };
    }

-- so many forms have their parts
abbrev pub HaveParts : ℕ → Text → Type 0
HaveParts zero t = Unit {0}
HaveParts (suc n) t = HasParts t × HaveParts n (behind_form t)

pub length-forms_in : (n : ℕ) (t : Text) → length (forms_in n t) ≡ n
length-forms_in zero t = refl
length-forms_in (suc n) t = ap suc (length-forms_in n (behind_form t))

pub bytes-behind : (t : Text) → All IsCharacter t → All IsCharacter (behind_form t)
bytes-behind t bytes =
    let h = heads_in t in
    All-drop IsCharacter (gap_size h) (behind_characters t) (All-drop IsCharacter h.characters (behind_name t) (All-drop IsCharacter h.name (drop 16 t) (All-drop IsCharacter 16 t bytes)))

-- what has the parts of forms begins with their images
pub forms-whole : (n : ℕ) (t : Text) → All IsCharacter t → HaveParts n t → t ≡ flat_map form_image (forms_in n t) ++ behind_forms n t
forms-whole zero t bytes has = refl
forms-whole (suc n) t bytes has =
    form-whole t bytes has.0
    ∙ ap (λ s. form_image (form_in t) ++ s) (forms-whole n (behind_form t) (bytes-behind t bytes) has.1)
    ∙ sym (append_assoc (form_image (form_in t)) (flat_map form_image (forms_in n (behind_form t))) (behind_forms n (behind_form t)))

-- the forms of images are read from them
pub record ReadsAll (fs : List Form) (rest t : Text) : Type 0 where
  pub forms : forms_in (length fs) t ≡ fs
  pub behind : behind_forms (length fs) t ≡ rest
  pub have : HaveParts (length fs) t

pub forms-read : (fs : List Form) (rest : Text) → AreCodable fs → ReadsAll fs rest (flat_map form_image fs ++ rest)
forms-read [] rest codable = record { forms = refl; behind = refl; have = tt }
forms-read (f ∷ fs) rest codable =
    let more = flat_map form_image fs ++ rest in
    let here = form-read f more codable.0 in
    let others = forms-read fs rest codable.1 in
    let first : ReadsAll (f ∷ fs) rest (form_image f ++ more) = record {
      forms = (λ i. here.form i ∷ forms_in (length fs) (here.behind i)) ∙ ap (λ fs. f ∷ fs) others.forms;
      behind = ap (behind_forms (length fs)) here.behind ∙ others.behind;
      have = (here.has, subst (HaveParts (length fs)) (sym here.behind) others.have);
    } in
    subst (ReadsAll (f ∷ fs) rest) (sym (append_assoc (form_image f) (flat_map form_image fs) rest)) first

-- the ordinals of an item and of those behind it
pub fit-both : (item : Item) (items : List Item) → GapsFit (item ∷ []) → GapsFit items → GapsFit (item ∷ items)
fit-both (Byte c) items one rest = rest
fit-both (Gap k) items one rest = (one.0, one.1, rest)

pub fit-first : (item : Item) (items : List Item) → GapsFit (item ∷ items) → GapsFit (item ∷ [])
fit-first (Byte c) items all = tt
fit-first (Gap k) items all = (all.0, all.1, tt)

pub fit-rest : (item : Item) (items : List Item) → GapsFit (item ∷ items) → GapsFit items
fit-rest (Byte c) items all = all
fit-rest (Gap k) items all = all.2

pub gaps-next : (item : Item) (items : List Item) → gap_count (item ∷ items) ≡ gap_count (item ∷ []) + gap_count items
gaps-next (Byte c) items = omega arith
gaps-next (Gap k) items = omega arith

pub no-items : (items : List Item) → length items ≤ 0 → items ≡ []
no-items [] none = refl
no-items (item ∷ items) none = absurd (omega (arith, none))
