use Rattle.std.proofs.Common.{[], ◌*◌, ◌+◌, ◌-◌, ◌∙◌, ◌∷◌, ◌≡◌, ap, arith, drop, eqb, get_or, length, sym, take, true}
use Rattle.std.specs.List.{starts_with}
use Rattle.trac_image.specs.Image.{framed, no_sums, summed}
use Rattle.trac_image.specs.Reading.{number_in}
use Rattle.trac_image.specs.declared.checksum.Checksum.{Checksum}
use Rattle.trac_image.proofs.Contents.{all-bytes, framed-long, framed-starts, framed-sums, image-framed}
use Rattle.trac_image.proofs.content.content_of.Goals as goal

pub returns-then-image-lt14 : goal.returns-then-image-lt14
returns-then-image-lt14 c =
    λ meta count forms is. (let long = framed-long c.args.image.now meta count forms is.image in omega (arith, long, c.if-image-lt14.true))

pub returns-then-not-starts_with : goal.returns-then-not-starts_with
returns-then-not-starts_with c =
    λ meta count forms is. (
    let starts = framed-starts c.args.image.now meta count forms is.image in
    let value = c.starts_with.ensures.value ∙ ap (λ t. starts_with eqb t (84 ∷ 82 ∷ 65 ∷ 67 ∷ 1 ∷ [])) c.split_at.ensures.front in
    absurd (cc (starts, value, c.if-not-starts_with.true))
    )

pub returns-then-from-number : goal.returns-then-from-number
returns-then-from-number c =
    let sum = λ (s : Checksum). s.low + 65536 * s.high in
    let found = sym (c.from.ensures ∙ c.number_of.ensures ∙ ap number_in c.split_at.ensures.back) in
    let wanted = c.number.ensures ∙ ap sum (c.checksum_of.ensures ∙ ap (λ t. summed t no_sums) c.split_at.ensures.front) in
    λ meta count forms is. c.if-from-number.true (sym found ∙ framed-sums c.args.image.now meta count forms is.image ∙ sym wanted)

pub returns : goal.returns
returns c =
    let image = c.args.image.now in
    let content = take (length image - 4) image in
    let sums = drop (length image - 4) image in
    let long = c.if-image-lt14.false in
    let starts : starts_with eqb content (84 ∷ 82 ∷ 65 ∷ 67 ∷ 1 ∷ []) ≡ true =
    ap (λ t. starts_with eqb t (84 ∷ 82 ∷ 65 ∷ 67 ∷ 1 ∷ [])) (sym c.split_at.ensures.front) ∙ sym c.starts_with.ensures.value ∙ c.if-not-starts_with.false in
    let sum = λ (s : Checksum). s.low + 65536 * s.high in
    let found = sym (c.from.ensures ∙ c.number_of.ensures ∙ ap number_in c.split_at.ensures.back) in
    let wanted = c.number.ensures ∙ ap sum (c.checksum_of.ensures ∙ ap (λ t. summed t no_sums) c.split_at.ensures.front) in
    let same : number_in sums ≡ sum (summed content no_sums) = found ∙ c.if-from-number.false ∙ wanted in
    let whole = image-framed image (all-bytes image (λ i. omega (arith, c.type_inv.image i))) (omega (arith, long)) starts same in
    let front = c.split_at.ensures.front in
    let meta = c.byte_at.ensures ∙ ap (λ t. get_or t 5 0) front in
    let count = c.number_of-2.ensures ∙ ap number_in (c.behind.ensures ∙ ap (drop 6) front) in
    let forms = c.behind-2.ensures ∙ ap (drop 10) front in
    record {
      image = whole ∙ (λ i. framed (sym meta i) (sym count i) (sym forms i));
      few = c.number_of-2.type_inv;
    }
