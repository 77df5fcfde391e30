use Rattle.trac_store.proofs.Imports.{◌≡◌, ℕ, ◌+◌, ◌-◌, ◌*◌, ◌/◌, ◌<◌, List, length, map, get_or, sym, ap, ◌∙◌, arith, ⊎_elim, bit_and, cases_lt, Cell, Byte, Head, seen, text_of_cells, name_at, hash, slot, cell_at, is_blank}
use Rattle.trac_store.proofs.TableChanges.{slot-within}
use Rattle.trac_store.proofs.Finding.{bytes-of-seen}
use Rattle.trac_store.proofs.Gaps.{bytes-seen}
use Rattle.trac_store.proofs.HeadCells.{seen-head}
use Rattle.trac_store.proofs.IndexSearch.{none-at_blank, none-at_end, slots_len, cell-seen, held-at}
use Rattle.trac_store.proofs.indexed_forms.IndexedForms.look_up.Goals as goal
use Rattle.trac_store.proofs.indexed_forms.IndexedForms.look_up.Goals.{in-Head+in_default-start_if_named, in_default}

-- the slot that is looked at for a name, as a slice of the table has it
looked : (table name : List Cell) (first i : ℕ) → first ≡ hash (text_of_cells name) → i < 2 * (length table / 4) → cell_at (map seen table) (slot (map seen table) (hash (text_of_cells (map seen name))) i) ≡ seen (get_or table (bit_and (first + i) (2 * (length table / 4) - 1)) (Byte 0))
looked table name first i is some =
    ap (λ n. cell_at (map seen table) (slot (map seen table) n i)) (ap hash (bytes-seen name) ∙ sym is) ∙ cell-seen table first i some

pub returns-in-Byte : goal.returns-in-Byte
returns-in-Byte c =
    let cell = looked _ c.args.name.now c.hash-first.result c.loop-i.i c.hash-first.ensures.value c.loop-i-test.true in
    none-at_blank (map seen _) _ (text_of_cells (map seen c.args.name.now)) (rw c.self.view_is at c.self.invariant.index) c.loop-i.i c.loop-i.invariant (ap is_blank (cell ∙ ap seen c.in-Byte.is))

pub returns : goal.returns
returns c =
    none-at_end (map seen _) _ (text_of_cells (map seen c.args.name.now)) (rw c.self.view_is at c.self.invariant.index) c.loop-i.i c.loop-i.invariant (rw (slots_len _) c.loop-i-test.false)

pub start_if_named-requires-clause-within : goal.start_if_named-requires-clause-within
start_if_named-requires-clause-within c =
    let table = c.self.inside.table.now in
    let i = c.loop-i.i in
    let cell = looked table c.args.name.now c.hash-first.result i c.hash-first.ensures.value c.loop-i-test.true ∙ ap seen c.in-Head.is in
    let number = hash (text_of_cells (map seen c.args.name.now)) in
    let less = slot-within (map seen table) number i (omega (arith, slots_len table, c.loop-i-test.true)) in
    (held-at (map seen table) _ (rw c.self.view_is at c.self.invariant.index) (slot (map seen table) number i) c.in-Head.k less cell).0

pub loop-i-preserved : goal.loop-i-preserved
loop-i-preserved c = λ j k less within named at.
    let table = c.self.inside.table.now in
    let i = c.loop-i.i in
    ⊎_elim
    (λ below. c.loop-i.invariant j k below within named at)
    (λ past.
    let e : j ≡ i = omega arith in
    let cell = looked table c.args.name.now c.hash-first.result i c.hash-first.ensures.value c.loop-i-test.true in
    let there = sym cell ∙ rw e at at in
    elim c.match-table-first.branch [
      | in-Head+in_default-start_if_named w ↦
          (let same : Head w.in-Head.k ≡ Head k = sym (ap seen w.in-Head.is) ∙ there in
          let ks : w.in-Head.k ≡ k = cc in
          w.in_default-start_if_named.ensures (ap (name_at c.args.self.now) ks ∙ named))
      | in_default w ↦ w.in_default.not-Head k (seen-head (get_or table (bit_and (c.hash-first.result + i) (2 * (length table / 4) - 1)) (Byte 0)) k there)
    ])
    (cases_lt j i)

pub hash-first-requires : goal.hash-first-requires
hash-first-requires c = bytes-of-seen c.args.name.now c.requires.bytes
