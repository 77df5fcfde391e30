use Rattle.trac_c.proofs.Imports.{◌≡◌, ◌∙◌, ◌<◌, ap, arith, length, neutral_in, sym, laid}
use Rattle.std.specs.Prelude.{Some, slice_get}
use Rattle.std.proofs.lemmas.Option.{slice_get_within}
use Rattle.trac_core.proofs.OpenCalls.{after-place, marks-few}
use Rattle.trac_core.specs.OpenCalls.{call_places}
use Rattle.trac_c.proofs.CallPlaces.{place-laid, places-all}
use Rattle.trac_c.proofs.strings.lay_calls.Goals as goal

pub overflow_add-count : goal.overflow_add-count
overflow_add-count c =
    let n = neutral_in c.args.machine.now.memory in
    record { fits = omega (arith, c.loop-place.invariant.few, marks-few n, c.size-size.ensures, c.size-size.type_inv) }

pub loop-place-smaller : goal.loop-place-smaller
loop-place-smaller c =
    let places = call_places (neutral_in c.args.machine.now.memory) in
    let found : slice_get places c.loop-place.count ≡ Some c.in-Some.place = sym c.loop-place.invariant.next ∙ sym c.mark_around.ensures ∙ c.in-Some.is in
    let few : c.loop-place.count < length places = slice_get_within places c.loop-place.count c.in-Some.place found in
    omega (arith, few)

pub loop-place-preserved : goal.loop-place-preserved
loop-place-preserved c =
    let n = neutral_in c.args.machine.now.memory in
    let places = call_places n in
    let count = c.loop-place.count in
    let place = c.in-Some.place in
    let found : slice_get places count ≡ Some place = sym c.loop-place.invariant.next ∙ sym c.mark_around.ensures ∙ c.in-Some.is in
    record {
      laid = place-laid places count place c.args.room.now c.loop-place.room c.put.new.room found c.loop-place.invariant.laid c.put.ensures;
      next = after-place n count place found;
      few = omega (arith, slice_get_within places count place found);
    }

pub returns : goal.returns
returns c =
    let places = call_places (neutral_in c.args.machine.now.memory) in
    let all = places-all places c.loop-place.count c.loop-place.invariant.few (sym c.loop-place.invariant.next ∙ sym c.mark_around.ensures ∙ c.in_default.is) in
    record {
      length = all.0;
      laid = c.loop-place.invariant.laid ∙ ap (λ l. laid l c.args.room.now) all.1;
    }
