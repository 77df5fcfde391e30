use Rattle.std.proofs.Common.{◌∙◌, ap, sym, arith}
use Rattle.trac_warnings.specs.Gaps.{is_character}
use Rattle.trac_warnings.proofs.Searched.{next_item, no_item, other_item}
use Rattle.trac_warnings.proofs.gaps.begins_at.Goals as goal

pub returns-then-not-is_character : goal.returns-then-not-is_character
returns-then-not-is_character c =
    let item = c.in-Some.item in
    let found = sym c.item.ensures ∙ c.in-Some.is in
    let other = sym (c.is_character.ensures ∙ ap (λ t. is_character t item) c.character_of.ensures) ∙ c.if-not-is_character.true in
    sym (other_item c.loop-behind.rest.now c.args.form.now.body c.loop-behind.behind _ item c.in-len1-up.len_at_least found other)
    ∙ c.loop-behind.invariant

pub loop-behind-preserved : goal.loop-behind-preserved
loop-behind-preserved c =
    let item = c.in-Some.item in
    let found = sym c.item.ensures ∙ c.in-Some.is in
    let same = sym (c.is_character.ensures ∙ ap (λ t. is_character t item) c.character_of.ensures) ∙ c.if-not-is_character.false in
    next_item c.loop-behind.rest.now c.args.form.now.body c.loop-behind.behind _ item c.in-len1-up.len_at_least found same
    ∙ c.loop-behind.invariant

pub returns : goal.returns
returns c =
    let past = c.loop-behind-test.false in
    let long = c.body_len-behind-end.ensures.value in
    c.is_empty.ensures ∙ sym (no_item c.loop-behind.rest.now c.args.form.now.body c.loop-behind.behind (omega (arith, past, long))) ∙ c.loop-behind.invariant
