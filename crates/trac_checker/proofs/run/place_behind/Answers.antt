use Rattle.std.proofs.Common.{◌≡◌, ◌∙◌, ◌-◌, ap, sym, take, drop, arith}
use Rattle.std.proofs.lemmas.List.{take_min}
use Rattle.trac_events.specs.Places.{behind_text, first_place}
use Rattle.trac_checker.proofs.Placed.{placed}
use Rattle.trac_checker.proofs.run.place_behind.Goals as goal

pub returns : goal.returns
returns c =
    let text = c.args.input.now in
    let from = c.min-from.result in
    let to = c.min-to.result in
    let read = ap (λ n. take n text) c.min-from.ensures ∙ take_min c.args.read text in
    let known : c.args.place ≡ behind_text first_place (take from text) = c.requires ∙ ap (behind_text first_place) (sym read) in
    c.behind_bytes-2.ensures
    ∙ ap (λ p. behind_text p (take (to - from) (drop from text))) known
    ∙ placed first_place text from to (omega (arith, c.if-to-from.false))
    ∙ ap (behind_text first_place) (ap (λ n. take n text) c.min-to.ensures ∙ take_min c.args.offset text)
