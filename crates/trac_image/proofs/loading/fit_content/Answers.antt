use Rattle.std.proofs.Common.{ap, eq-eqb, length, sym, ◌∙◌}
use Rattle.std.proofs.lemmas.Bool.{eqb-true}
use Rattle.trac_image.proofs.LoadedImages.{no-bytes, one-content}
use Rattle.trac_image.proofs.loading.fit_content.Goals as goal

pub returns-then-not-is_empty : goal.returns-then-not-is_empty
returns-then-not-is_empty c =
    λ meta count forms fit. (
    let here = one-content c.args.room c.args.image.now meta count forms fit _ _ _ c.in_ok-content.ensures in
    let none = c.in_ok-rest.ensures.1 ∙ here.last in
    let empty = eq-eqb (length c.in_ok-rest.rest.now) 0 (ap length none) in
    absurd (cc (empty, c.is_empty.ensures, c.if-not-is_empty.true))
    )

pub returns-then-not-are_distinct : goal.returns-then-not-are_distinct
returns-then-not-are_distinct c =
    λ meta count forms fit. (
    let here = one-content c.args.room c.args.image.now meta count forms fit _ _ _ c.in_ok-content.ensures in
    let distinct = c.are_distinct.ensures.1 here.distinct in
    absurd (cc (distinct, c.if-not-are_distinct.true))
    )

pub returns : goal.returns
returns c =
    let none = no-bytes c.in_ok-rest.rest.now (eqb-true _ _ (sym c.is_empty.ensures ∙ c.if-not-is_empty.false)) in
    record {
      content = c.in_ok-content.ensures;
      fit = c.in_ok-rest.ensures.0;
      distinct = c.are_distinct.ensures.0 c.if-not-are_distinct.false;
      last = sym c.in_ok-rest.ensures.1 ∙ none;
    }
