use Rattle.trac_functions.proofs.Imports.{refl, arith, length, form_at, body_at, pointer_at}
use Rattle.trac_forms.specs.Search.{IsFirst, character_at}
use Rattle.trac_functions.specs.declared.arguments.CallResult.TheVariants.{AtEnd}
use Rattle.trac_functions.proofs.TakenParts.{one-some, takes-some}
use Rattle.trac_functions.proofs.form_parts.take_character.Goals as goal

-- the character at the pointer is the first one from there on
pub returns-then-take_character-clause-takes : goal.returns-then-take_character-clause-takes
returns-then-take_character-clause-takes c =
    let old = c.args.work.now in
    let k = c.args.form.0 in
    let p = pointer_at old.forms k in
    let next = c.if-take_character.ensures.taken.0 refl in
    let inside = next.inside in
    let first : IsFirst (character_at (body_at old.forms k)) p (length (body_at old.forms k)) p = record {
      above = omega arith;
      within = inside;
      passes = next.character;
      before = λ i above below. absurd (omega (arith, above, below));
    } in
    takes-some c.args.default k old AtEnd c.take_character.new.self (one-some (form_at old.forms k) p p refl (omega (arith, inside)) first) (λ z. record { fits = next.fits; stands = c.if-take_character.ensures.last })
