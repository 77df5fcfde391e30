use Rattle.trac_store.proofs.Imports.{◌≡◌, ◌+◌, [], length, map, get_or, ap, ◌∙◌, arith, Byte, seen, forms_in, form_at, nil_from_length}
use Rattle.trac_store.proofs.Finding.{Begins, begins_at, number_is}
use Rattle.trac_store.proofs.HeadCells.{is_head}
use Rattle.trac_store.proofs.DistinctForms.{NoneNamed-more}
use Rattle.trac_store.proofs.form_cells.FormCells.find_null.Goals as goal
use Rattle.trac_store.proofs.form_cells.FormCells.find_null.Goals.{In-loop-k}

next : (c : In-loop-k) → Begins c.self.inside.cells.now c.loop-k.k c.loop-k.start
next c = begins_at _ _ _ c.self.invariant.whole (omega arith) c.loop-k.invariant.begins

pub offset_bounds-cells-start : goal.offset_bounds-cells-start
offset_bounds-cells-start c = omega (arith, (next (goal.at.offset_bounds-cells-start c).In-loop-k).end)

pub bounds-cells-start : goal.bounds-cells-start
bounds-cells-start c = omega (arith, (next (goal.at.bounds-cells-start c).In-loop-k).end)

pub number_in_head-len-requires : goal.number_in_head-len-requires
number_in_head-len-requires c = is_head _ _ (next (goal.at.number_in_head-len-requires c).In-loop-k).name_len

pub bounds-cells-start-in-loop-k : goal.bounds-cells-start-in-loop-k
bounds-cells-start-in-loop-k c = omega (arith, (next (goal.at.bounds-cells-start-in-loop-k c).In-loop-k).end)

pub number_in_head-requires : goal.number_in_head-requires
number_in_head-requires c = is_head _ _ (next (goal.at.number_in_head-requires c).In-loop-k).body_len

pub overflow_cast-result : goal.overflow_cast-result
overflow_cast-result c = omega (arith, (next (goal.at.overflow_cast-result c).In-loop-k).end)

pub returns-then-len-eq0 : goal.returns-then-len-eq0
returns-then-len-eq0 c =
    let b = next (goal.at.returns-then-len-eq0 c).In-loop-k in
    let form = form_at (forms_in (map seen c.self.inside.cells.now)) c.loop-k.k in
    let len : c.number_in_head-len.result ≡ length form.name = c.number_in_head-len.ensures ∙ number_is (get_or c.self.inside.cells.now c.loop-k.start (Byte 0)) (length form.name) b.name_len in
    rw (← c.self.view_is) (record {
      named = record { within = omega arith; named = nil_from_length form.name (omega (arith, len)) };
      start_is = c.loop-k.invariant.begins;
    })

pub loop-k-preserved : goal.loop-k-preserved
loop-k-preserved c =
    let store = c.self.inside.cells.now in
    let b = next (goal.at.loop-k-preserved c).In-loop-k in
    let form = form_at (forms_in (map seen store)) c.loop-k.k in
    let len : c.number_in_head-len.result ≡ length form.name = c.number_in_head-len.ensures ∙ number_is (get_or store c.loop-k.start (Byte 0)) (length form.name) b.name_len in
    let body : c.number_in_head.result ≡ length form.body = c.number_in_head.ensures ∙ number_is (get_or store (c.loop-k.start + 1) (Byte 0)) (length form.body) b.body_len in
    record {
      begins = omega (arith, len, body, b.next);
      none = NoneNamed-more [] (forms_in (map seen store)) c.loop-k.k (omega arith) c.loop-k.invariant.none (λ e. (let none = ap length e in absurd (omega (arith, len))));
    }
