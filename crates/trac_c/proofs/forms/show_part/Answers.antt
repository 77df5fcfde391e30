use Rattle.std.specs.Prelude.{◌≡◌, ◌+◌, ◌++◌, ℕ, List, [], Result, Ok, Err, length, drop, take}
use Rattle.std.proofs.Math.Seq.{take-length}
use Rattle.trac_c.proofs.Imports.{ap, sym, ◌∙◌, arith}
use Rattle.trac_checker.specs.WrittenBytes.{bytes_of}
use Rattle.trac_devices.specs.Devices.{Prints, failures_of}
use Rattle.trac_language.specs.Meaning.{show_form}
use Rattle.trac_c.proofs.Overflow.{same-buffer}
use Rattle.trac_c.proofs.forms.show_part.Goals as goal

-- what was put to a sink that never fails
all-put : {A E : Type 0} (r : Result A E) (old text new : List ℕ) → 0 ≡ 0 + failures_of r → old ≡ [] → Prints r old text new → new ≡ text
all-put (Ok x) old text new none empty prints = prints ∙ ap (λ l. l ++ text) empty
all-put (Err e) old text new none empty prints = absurd (omega (arith, none))

pub returns-clause-same_room : goal.returns-clause-same_room
returns-clause-same_room c =
    let old = c.args.sink.now in
    let new = c.show_form.new.sink in
    (same-buffer _ new.from _ old.from new.bounded.0 old.bounded.0 (same-buffer _ new.size _ old.size new.bounded.1 old.bounded.1 c.show_form.ensures.kept).0).0

pub returns-clause-part : goal.returns-clause-part
returns-clause-part c =
    let old = c.args.sink.now in
    let new = c.show_form.new.sink in
    let kept = same-buffer _ new.size _ old.size new.bounded.1 old.bounded.1 c.show_form.ensures.kept in
    let from = (same-buffer _ new.from _ old.from new.bounded.0 old.bounded.0 kept.0).1 in
    let put = all-put c.show_form.result (bytes_of old.all.now.written.value) (show_form c.args.form.now) (bytes_of new.all.now.written.value) c.show_form.ensures.counts c.requires.empty (c.show_form.ensures.prints tt) in
    let text = ap (λ n. drop n (bytes_of new.all.now.written.value)) from ∙ ap (drop old.from) put in
    let long = ap (λ l. length l) text in
    let size : length new.room.now ≡ length old.room.now = new.sized ∙ kept.1 ∙ sym old.sized in
    let all : new.len ≡ length new.room.now = omega (arith, new.filled, long, size, c.requires.short) in
    sym (take-length new.room.now) ∙ ap (λ n. take n new.room.now) (sym all) ∙ new.part ∙ ap (take new.len) text ∙ ap (λ n. take n (drop old.from (show_form c.args.form.now))) (all ∙ size)
