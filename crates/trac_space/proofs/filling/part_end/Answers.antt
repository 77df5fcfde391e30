use Rattle.trac_space.proofs.Imports.{◌≡◌, suc, ◌+◌, ◌<◌, ◌∙◌, ap, arith, sym, length, slice_range, length-between, numbered_part, parts_at, map}
use Rattle.trac_space.specs.Tags.{untagged}
use Rattle.trac_space.proofs.Filled.{end-last, number-in, numbered-in}
use Rattle.trac_space.proofs.filling.part_end.Goals as goal

pub returns-then-place-given : goal.returns-then-place-given
returns-then-place-given c =
    let start = c.args.given.start in
    let part = slice_range c.args.cells.now start (start + c.args.given.len) in
    let size : c.args.given.len ≡ length part = omega (arith, length-between c.args.cells.now start (start + c.args.given.len) c.requires.given.inside) in
    size ∙ end-last part c.args.given.commas c.requires.given.commas ∙ ap (λ k. (numbered_part (parts_at 0 0 (map untagged part)) (suc k)).1) (sym c.if-place-given.true)

pub present_tag-requires : goal.present_tag-requires
present_tag-requires c =
    let start = c.args.given.start in
    let few : c.args.place < c.args.given.commas = omega (arith, c.if-place-given.false, c.requires.place) in
    let within = c.requires.given.commas.within in
    let inside = c.requires.given.inside in
    numbered-in c.args.cells.now start c.args.given.len c.args.place inside (omega (arith, few, within, length-between c.args.cells.now start (start + c.args.given.len) inside)) (c.requires.given.commas.tagged c.args.place few)

pub returns : goal.returns
returns c =
    let start = c.args.given.start in
    let few : c.args.place < c.args.given.commas = omega (arith, c.if-place-given.false, c.requires.place) in
    let within = c.requires.given.commas.within in
    let inside = c.requires.given.inside in
    let read = number-in c.args.cells.now start c.args.given.len c.args.place inside (omega (arith, few, within, length-between c.args.cells.now start (start + c.args.given.len) inside)) in
    c.present_tag.ensures ∙ read ∙ c.requires.given.commas.ends c.args.place few
