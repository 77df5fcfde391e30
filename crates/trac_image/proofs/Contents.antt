-- What an image holds between its head and its checksum.
use Rattle.std.proofs.Common.{All, [], ap, arith, drop, get_or, length, length-append, refl, subst, sym, take, suc, ℕ, ◌*◌, ◌++◌, ◌+◌, ◌-◌, ◌<◌, ◌∙◌, ◌∷◌, ◌≡◌, ◌≤◌, ◌/◌, ◌%◌, true, eqb}
use Rattle.std.proofs.Math.Seq.{drop-append_seam, take-append_seam}
use Rattle.std.proofs.lemmas.Bool.{and_parts, eqb-true, true≢false}
use Rattle.std.proofs.lemmas.List.{drop_all, drop-drop, drop_more, length-drop, length-take-le, take-append-drop}
use Rattle.std.proofs.lemmas.List.Elements.{All-cons, All-drop, All-nil, All-take}
use Rattle.std.specs.List.{starts_with}
use Rattle.trac_language.specs.Text.{Text}
use Rattle.trac_image.specs.Image.{four_bytes, framed, headed, no_sums, sum_bytes, summed, with_summand}
use Rattle.trac_image.specs.Reading.{IsCharacter, number_in}
use Rattle.trac_image.specs.declared.checksum.Checksum.{Checksum}
use Rattle.trac_image.proofs.ReadBack.{number-bytes, number-read}

-- what begins with a text is that text and what stands behind it
starts-so : (xs needle : Text) → starts_with eqb xs needle ≡ true → xs ≡ needle ++ drop (length needle) xs
starts-so xs [] is = refl
starts-so [] (y ∷ needle) is = elim (true≢false (sym is)) [ ]
starts-so (x ∷ xs) (y ∷ needle) is =
    let both = and_parts (eqb y x) (starts_with eqb xs needle) is in
    λ i. sym (eqb-true y x both.0) i ∷ starts-so xs needle both.1 i

-- the sums of bytes are less than the modulus
pub sums-few : (t : Text) (s : Checksum) → s.low < 65521 → s.high < 65521 → ((summed t s).low < 65521) × ((summed t s).high < 65521)
sums-few [] s low high = (low, high)
sums-few (b ∷ t) s low high = sums-few t (with_summand b s) (omega arith) (omega arith)

sum-four : (s : Checksum) → s.low < 65521 → s.high < 65521 → sum_bytes s ≡ four_bytes (s.low + 65536 * s.high)
sum-four s low high =
    let first : s.low % 256 ≡ (s.low + 65536 * s.high) % 256 = omega (arith, low, high) in
    let second : s.low / 256 % 256 ≡ (s.low + 65536 * s.high) / 256 % 256 = omega (arith, low, high) in
    let third : s.high % 256 ≡ (s.low + 65536 * s.high) / 65536 % 256 = omega (arith, low, high) in
    let fourth : s.high / 256 % 256 ≡ (s.low + 65536 * s.high) / 16777216 % 256 = omega (arith, low, high) in
    λ i. first i ∷ second i ∷ third i ∷ fourth i ∷ []

-- the parts of an image
pub record Parted (image content sums : Text) (meta count : ℕ) (forms : Text) : Type 0 where
  pub long : 14 ≤ length image
  pub front : content ≡ headed meta count forms
  pub behind : sums ≡ sum_bytes (summed (headed meta count forms) no_sums)

framed-parts : (image : Text) (meta count : ℕ) (forms : Text) → image ≡ framed meta count forms → Parted image (take (length image - 4) image) (drop (length image - 4) image) meta count forms
framed-parts image meta count forms is =
    let content = headed meta count forms in
    let sums = sum_bytes (summed content no_sums) in
    let long : length image ≡ length content + 4 = ap length is ∙ length-append content sums in
    let at : length image - 4 ≡ length content = omega (arith, long) in
    record {
      long = omega (arith, long);
      front = (λ i. take (at i) (is i)) ∙ take-append_seam content sums;
      behind = (λ i. drop (at i) (is i)) ∙ drop-append_seam content sums;
    }

-- an image with this head and these sums
pub image-framed : (image : Text) → All IsCharacter image → 14 ≤ length image → let content = take (length image - 4) image in let sums = drop (length image - 4) image in starts_with eqb content (84 ∷ 82 ∷ 65 ∷ 67 ∷ 1 ∷ []) ≡ true → number_in sums ≡ (summed content no_sums).low + 65536 * (summed content no_sums).high → image ≡ framed (get_or content 5 0) (number_in (drop 6 content)) (drop 10 content)
image-framed image bytes long starts same =
    let n = length image - 4 in
    let content = take n image in
    let sums = drop n image in
    let whole : length content ≡ n = length-take-le n image (omega arith) in
    let head = starts-so content (84 ∷ 82 ∷ 65 ∷ 67 ∷ 1 ∷ []) starts in
    let meta : drop 5 content ≡ get_or content 5 0 ∷ drop 6 content = drop_more content 5 0 (omega (arith, whole, long)) in
    let count : drop 6 content ≡ four_bytes (number_in (drop 6 content)) ++ drop 10 content =
    number-bytes (drop 6 content) (omega (arith, whole, long, length-drop 6 content)) (All-drop IsCharacter 6 content (All-take IsCharacter n image bytes))
    ∙ ap (λ t. four_bytes (number_in (drop 6 content)) ++ t) (drop-drop 4 6 content) in
    let is : content ≡ headed (get_or content 5 0) (number_in (drop 6 content)) (drop 10 content) =
    head ∙ ap (λ t. 84 ∷ 82 ∷ 65 ∷ 67 ∷ 1 ∷ t) meta ∙ ap (λ t. 84 ∷ 82 ∷ 65 ∷ 67 ∷ 1 ∷ get_or content 5 0 ∷ t) count in
    let few = sums-few content no_sums (omega arith) (omega arith) in
    let four : length sums ≡ 4 = omega (arith, length-drop n image, long) in
    let sum_is : sums ≡ sum_bytes (summed content no_sums) =
    number-bytes sums (omega (arith, four)) (All-drop IsCharacter n image bytes)
    ∙ ap (λ t. four_bytes (number_in sums) ++ t) (drop_all 4 sums (omega (arith, four)))
    ∙ ap (λ m. four_bytes m ++ []) same ∙ sym (sum-four (summed content no_sums) few.0 few.1) in
    sym (take-append-drop n image) ∙ ap (λ s. content ++ s) sum_is
    ∙ ap (λ c. c ++ sum_bytes (summed c no_sums)) is

-- an image is not too short, has this head and these sums
pub framed-long : (image : Text) (meta count : ℕ) (forms : Text) → image ≡ framed meta count forms → 14 ≤ length image
framed-long image meta count forms is = (framed-parts image meta count forms is).long

pub framed-starts : (image : Text) (meta count : ℕ) (forms : Text) → image ≡ framed meta count forms → starts_with eqb (take (length image - 4) image) (84 ∷ 82 ∷ 65 ∷ 67 ∷ 1 ∷ []) ≡ true
framed-starts image meta count forms is =
    ap (λ c. starts_with eqb c (84 ∷ 82 ∷ 65 ∷ 67 ∷ 1 ∷ [])) (framed-parts image meta count forms is).front

pub framed-sums : (image : Text) (meta count : ℕ) (forms : Text) → image ≡ framed meta count forms → let content = take (length image - 4) image in number_in (drop (length image - 4) image) ≡ (summed content no_sums).low + 65536 * (summed content no_sums).high
framed-sums image meta count forms is =
    let parts = framed-parts image meta count forms is in
    let content = take (length image - 4) image in
    let s = summed content no_sums in
    let few = sums-few content no_sums (omega arith) (omega arith) in
    ap number_in parts.behind ∙ ap (λ c. number_in (sum_bytes (summed c no_sums))) (sym parts.front)
    ∙ ap number_in (sum-four s few.0 few.1) ∙ number-read (s.low + 65536 * s.high) [] (omega (arith, few.0, few.1))

-- an image tells its meta character, how many forms it has, and their bytes
pub framed-tells : (m n : ℕ) (a b : ℕ) (s t : Text) → a < 4294967296 → b < 4294967296 → framed m a s ≡ framed n b t → (m ≡ n) × (a ≡ b) × (s ≡ t)
framed-tells m n a b s t a_few b_few is =
    let one = framed-parts (framed m a s) m a s refl in
    let other = framed-parts (framed m a s) n b t is in
    let same : headed m a s ≡ headed n b t = sym one.front ∙ other.front in
    let meta : m ≡ n = ap (λ c. get_or c 5 0) same in
    let count : a ≡ b = sym (number-read a s a_few) ∙ ap (λ c. number_in (drop 6 c)) same ∙ number-read b t b_few in
    (meta, count, ap (drop 10) same)

-- the bytes of a slice are bytes
pub all-bytes : (xs : Text) → ((i : ℕ) → get_or xs i 0 < 256) → All IsCharacter xs
all-bytes [] each = All-nil IsCharacter
all-bytes (x ∷ xs) each = All-cons IsCharacter x xs (each 0) (all-bytes xs (λ i. each (suc i)))

-- the bytes of the forms of an image are bytes of it
pub framed-bytes : (image : Text) (meta count : ℕ) (forms : Text) → All IsCharacter image → image ≡ framed meta count forms → All IsCharacter forms
framed-bytes image meta count forms bytes is =
    let n = length image - 4 in
    subst (All IsCharacter) (ap (drop 10) (framed-parts image meta count forms is).front) (All-drop IsCharacter 10 (take n image) (All-take IsCharacter n image bytes))
