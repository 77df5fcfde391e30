use Rattle.trac_space.proofs.Imports.{◌≡◌, ◌+◌, ◌-◌, ◌<◌, length, drop, set, sym, ap, ◌∙◌, subst, slice_index_or, arith, length-drop, length-map, length-take, take, paste_more, paste, Byte, IsByte, character_of, number_in, turned, turned_by}
use Rattle.trac_space.proofs.Runs.{run-cell, byte-at, run-more, turned-at, turned-byte, turned-one, no_comma-more}
use Rattle.trac_space.specs.Tags.{holds_comma}
use Rattle.trac_space.proofs.CommaPlaces.{no_comma-past}
use Rattle.trac_space.proofs.character_runs.translate_run.Goals as goal
use Rattle.trac_space.proofs.character_runs.translate_run.Goals.{then-number-eq0, else-number-eq0+then-number-eq1}

pub byte_in-byte-requires : goal.byte_in-byte-requires
byte_in-byte-requires c =
    let was = c.args.cells.now in
    let start = c.args.start in
    let same = run-cell c.args.table.now was start c.loop-count.count (Byte 0) (omega (arith, c.requires.within, c.loop-count-test.true)) c.loop-count.cells c.args.to c.requires.before c.loop-count.invariant.copied in
    subst IsByte (sym same) (byte-at was start c.loop-count.count c.args.most (Byte 0) c.loop-count-test.true c.requires.within c.requires.bytes)

pub loop-count-preserved : goal.loop-count-preserved
loop-count-preserved c =
    let was = c.args.cells.now in
    let now = c.loop-count.cells in
    let start = c.args.start in
    let to = c.args.to in
    let k = c.loop-count.count in
    let table = c.args.table.now in
    let kept = c.loop-count.invariant in
    let source = turned table (drop start was) in
    let less = c.loop-count-test.true in
    let inside : start + k < length was = omega (arith, c.requires.within, less) in
    let long : length source ≡ length was - start = length-map (drop start was) (turned_by table) ∙ length-drop start was in
    let same = run-cell table was start k (Byte 0) inside now to c.requires.before kept.copied in
    let cell = slice_index_or was (start + k) (Byte 0) in
    let number : slice_index_or table c.from.result 0 ≡ number_in table cell = ap (λ b. slice_index_or table b 0) (c.from.ensures ∙ c.byte_in-byte.ensures ∙ ap character_of same) in
    let put = sym (turned-at table was start k (Byte 0) inside) in
    let copied : set now (to + k) (turned_by table cell) ≡ paste was to source (k + 1) = ap (set now (to + k)) put ∙ ap (λ cells. set cells (to + k) (slice_index_or source k (turned_by table (Byte 0)))) kept.copied ∙ paste_more was to source k (turned_by table (Byte 0)) (omega (arith, inside, c.requires.before)) (omega (arith, long, inside)) in
    elim c.if-number-eq0.branch [
      | then-number-eq0 w ↦ (
          let none : number_in table cell ≡ 0 = omega (arith, number, w.if-number-eq0.true) in
          let byte : Byte c.byte_in-byte.result ≡ Byte (character_of cell) = ap Byte (c.byte_in-byte.ensures ∙ ap character_of same) in
          record {
            within = omega (arith, less);
            run = run-more table was start k (Byte 0) inside kept.run (omega (arith, none));
            last = omega (arith, w.no_comma_from-is, kept.last);
            no_comma_from = rw w.no_comma_from-is (no_comma-more table was start k (Byte 0) inside c.loop-count.no_comma_from (ap holds_comma (turned-byte table cell none)) kept.no_comma_from);
            copied = w.cells-is ∙ ap (set now (to + k)) (byte ∙ sym (turned-byte table cell none)) ∙ copied;
          })
      | else-number-eq0+then-number-eq1 w ↦ (
          let one : number_in table cell ≡ 1 = omega (arith, number, w.if-number-eq1.true) in
          record {
            within = omega (arith, less);
            run = run-more table was start k (Byte 0) inside kept.run (omega (arith, one));
            last = omega (arith, w.no_comma_from-is);
            no_comma_from = rw w.no_comma_from-is (no_comma-past (take (k + 1) source) (k + 1) (omega (arith, length-take (k + 1) source)));
            copied = w.cells-is ∙ ap (set now (to + k)) (sym (turned-one table cell one)) ∙ copied;
          })
    ]
