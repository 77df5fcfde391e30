use Rattle.trac_space.proofs.Imports.{◌≡◌, ℕ, suc, ◌+◌, ◌-◌, ◌<◌, ◌∙◌, ap, arith, sym, get_or, slice_range, length-between, Byte, numbered_part, parts_at, map}
use Rattle.trac_space.specs.Tags.{has_tag, untagged, tag_of}
use Rattle.trac_space.proofs.Filled.{begin-first, begin-next, number-in, numbered-in}
use Rattle.trac_space.proofs.filling.part_begin.Goals as goal

pub returns-then-place-eq0 : goal.returns-then-place-eq0
returns-then-place-eq0 c =
    let part = slice_range c.args.cells.now c.args.given.start (c.args.given.start + c.args.given.len) in
    begin-first part c.args.given.commas c.requires.given.commas ∙ ap (λ k. (numbered_part (parts_at 0 0 (map untagged part)) (suc k)).0) (sym c.if-place-eq0.true)

pub present_tag-requires : goal.present_tag-requires
present_tag-requires c =
    let start = c.args.given.start in
    let k : ℕ = c.args.place - 1 in
    let at : start + k ≡ start + c.args.place - 1 = omega (arith, c.if-place-eq0.false) in
    let few : k < c.args.given.commas = omega (arith, c.if-place-eq0.false, c.requires.place) in
    let within = c.requires.given.commas.within in
    let inside = c.requires.given.inside in
    ap (λ i. has_tag (get_or c.args.cells.now i (Byte 0))) (sym at) ∙ numbered-in c.args.cells.now start c.args.given.len k inside (omega (arith, few, within, length-between c.args.cells.now start (start + c.args.given.len) inside)) (c.requires.given.commas.tagged k few)

pub returns : goal.returns
returns c =
    let start = c.args.given.start in
    let part = slice_range c.args.cells.now start (start + c.args.given.len) in
    let k : ℕ = c.args.place - 1 in
    let e : suc k ≡ c.args.place = omega (arith, c.if-place-eq0.false) in
    let at : start + c.args.place - 1 ≡ start + k = omega (arith, e) in
    let few : k < c.args.given.commas = omega (arith, e, c.requires.place) in
    let within = c.requires.given.commas.within in
    let inside = c.requires.given.inside in
    let read = number-in c.args.cells.now start c.args.given.len k inside (omega (arith, few, within, length-between c.args.cells.now start (start + c.args.given.len) inside)) in
    ap (λ n. n + 1) (c.present_tag.ensures ∙ ap (λ i. tag_of (get_or c.args.cells.now i (Byte 0))) at ∙ read) ∙ begin-next part c.args.given.commas c.requires.given.commas k few ∙ ap (λ i. (numbered_part (parts_at 0 0 (map untagged part)) (suc i)).0) e
