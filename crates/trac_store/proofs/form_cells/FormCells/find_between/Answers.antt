use Rattle.trac_store.proofs.Imports.{ℕ, ◌≡◌, ◌+◌, ◌-◌, length, map, All, slice_range, get_or, Some, sym, ap, ◌∙◌, subst, arith, both_ways, Form, NoneNamed, Byte, Head, seen, flat_text, text_of_cells, IsByte, forms_in, head_number, start_of, form_at}
use Rattle.trac_store.proofs.Finding.{Begins, begins_at, number_is, bytes-flat}
use Rattle.trac_store.proofs.HeadCells.{is_head}
use Rattle.trac_store.proofs.FlatLemmas.{Byte-character_of, character_of-Byte}
use Rattle.trac_store.proofs.DistinctForms.{NoneNamed-further}
use Rattle.trac_store.proofs.form_cells.FormCells.find_between.Goals as goal
use Rattle.trac_store.proofs.form_cells.FormCells.find_between.Goals.{In-loop-left}

-- the form that is next
abbrev next_form : In-loop-left → Form
next_form c = form_at (forms_in (map seen c.self.inside.cells.now)) (c.args.end - c.loop-left.left)

-- it begins three cells before the place
next : (c : In-loop-left) → Begins c.self.inside.cells.now (c.args.end - c.loop-left.left) (c.loop-left.at - 3)
next c =
    begins_at c.self.inside.cells.now _ _ c.self.invariant.whole (omega (arith, (rw (← c.self.view_is) at c.requires.within), c.requires.order, c.loop-left.invariant.fewer)) (omega (arith, c.loop-left.invariant.begins))

place : (c : In-loop-left) → c.loop-left.at ≡ c.loop-left.at - 3 + 3
place c = omega (arith, c.loop-left.invariant.begins)

name_len : (c : In-loop-left) (n : ℕ) → n ≡ head_number (Some (get_or c.self.inside.cells.now (c.loop-left.at - 3) (Byte 0))) → n ≡ length (next_form c).name
name_len c n read = read ∙ number_is _ _ (next c).name_len

body_head : (c : In-loop-left) → get_or c.self.inside.cells.now (c.loop-left.at - 2) (Byte 0) ≡ Head (length (next_form c).body)
body_head c =
    let second : c.loop-left.at - 2 ≡ c.loop-left.at - 3 + 1 = omega (arith, place c) in
    ap (λ i. get_or c.self.inside.cells.now i (Byte 0)) second ∙ (next c).body_len

name_part : (c : In-loop-left) (n : ℕ) → n ≡ length (next_form c).name → map seen (slice_range c.self.inside.cells.now c.loop-left.at (c.loop-left.at + n)) ≡ flat_text (next_form c).name
name_part c n len =
    let start = c.loop-left.at - 3 in
    ap (λ i. map seen (slice_range c.self.inside.cells.now i (i + n))) (place c) ∙ ap (λ n. map seen (slice_range c.self.inside.cells.now (start + 3) (start + 3 + n))) len ∙ (next c).name_part

pub offset_bounds-cells-at : goal.offset_bounds-cells-at
offset_bounds-cells-at c = omega (arith, next (goal.at.offset_bounds-cells-at c).In-loop-left)

pub bounds-cells-at : goal.bounds-cells-at
bounds-cells-at c = omega (arith, next (goal.at.bounds-cells-at c).In-loop-left)

pub number_in_head-len-requires : goal.number_in_head-len-requires
number_in_head-len-requires c = is_head _ _ (next (goal.at.number_in_head-len-requires c).In-loop-left).name_len

pub is_text_at-requires-clause-within : goal.is_text_at-requires-clause-within
is_text_at-requires-clause-within c =
    let k = (goal.at.is_text_at-requires-clause-within c).In-loop-left in
    omega (arith, (next k).end, name_len k _ c.number_in_head-len.ensures, place k)

pub is_text_at-requires-clause-part_bytes : goal.is_text_at-requires-clause-part_bytes
is_text_at-requires-clause-part_bytes c =
    let k = (goal.at.is_text_at-requires-clause-part_bytes c).In-loop-left in
    subst (All IsByte) (sym (name_part k _ (name_len k _ c.number_in_head-len.ensures))) (bytes-flat (next_form k).name)

pub returns-then-is_text_at : goal.returns-then-is_text_at
returns-then-is_text_at c =
    let k = (goal.at.returns-then-is_text_at c).In-loop-left in
    let same : flat_text (next_form k).name ≡ map seen c.args.name.now = sym (name_part k _ (name_len k _ c.number_in_head-len.ensures)) ∙ c.is_text_at.ensures.0 c.if-is_text_at.true in
    rw (← c.self.view_is) (record {
      named = record { within = omega (arith, (rw (← c.self.view_is) at c.requires.within), c.requires.order, c.loop-left.invariant.fewer); named = sym (character_of-Byte (next_form k).name) ∙ ap text_of_cells same };
      start_is = omega (arith, c.loop-left.invariant.begins);
    })

pub offset_bounds-cells-at-in-loop-left : goal.offset_bounds-cells-at-in-loop-left
offset_bounds-cells-at-in-loop-left c = omega (arith, next (goal.at.offset_bounds-cells-at-in-loop-left c).In-loop-left)

pub bounds-cells-at-in-loop-left : goal.bounds-cells-at-in-loop-left
bounds-cells-at-in-loop-left c = omega (arith, next (goal.at.bounds-cells-at-in-loop-left c).In-loop-left)

pub number_in_head-requires : goal.number_in_head-requires
number_in_head-requires c = is_head _ _ (body_head (goal.at.number_in_head-requires c).In-loop-left)

pub overflow_add-at-in-loop-left-3 : goal.overflow_add-at-in-loop-left-3
overflow_add-at-in-loop-left-3 c =
    let k = (goal.at.overflow_add-at-in-loop-left-3 c).In-loop-left in
    let body : c.number_in_head.result ≡ length (next_form k).body = c.number_in_head.ensures ∙ number_is _ _ (body_head k) in
    omega (arith, (next k).end, name_len k _ c.number_in_head-len.ensures, body, place k)

pub loop-left-preserved : goal.loop-left-preserved
loop-left-preserved c =
    let k = (goal.at.loop-left-preserved c).In-loop-left in
    let forms = forms_in (map seen c.self.inside.cells.now) in
    let i = c.args.end - c.loop-left.left in
    let name = map seen c.args.name.now in
    let len = name_len k _ c.number_in_head-len.ensures in
    let body : c.number_in_head.result ≡ length (next_form k).body = c.number_in_head.ensures ∙ number_is _ _ (body_head k) in
    let following : i + 1 ≡ c.args.end - (c.loop-left.left - 1) = omega (arith, c.loop-left.invariant.fewer) in
    let more = NoneNamed-further (text_of_cells name) forms c.args.from.number i (omega (arith, c.requires.order, c.loop-left.invariant.fewer)) (omega (arith, (rw (← c.self.view_is) at c.requires.within), c.requires.order, c.loop-left.invariant.fewer)) c.loop-left.invariant.none (λ e. both_ways c.is_text_at.result c.if-is_text_at.false (c.is_text_at.ensures.1 (name_part k _ len ∙ ap flat_text e ∙ Byte-character_of name c.requires.name.bytes))) in
    record {
      fewer = omega (arith, c.loop-left.invariant.fewer);
      begins = omega (arith, len, body, place k, (next k).next, ap (start_of forms) following);
      none = subst (λ i. NoneNamed (text_of_cells name) (slice_range forms c.args.from.number i)) following more;
    }
