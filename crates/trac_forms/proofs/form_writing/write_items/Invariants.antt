use Rattle.trac_forms.proofs.Imports.{◌≡◌, ◌+◌, ◌++◌, take, drop, map, flat_item}
use Rattle.trac_forms.proofs.form_writing.write_items.Given as goal

-- the items so far are written
abbrev pub invariant-loop-i : goal.invariant-loop-i
invariant-loop-i g l = record {
  written : l.space ≡ record l.fn.space { store = take l.at l.fn.space.store ++ take l.i (map flat_item (g.B.Body.items l.fn.body)) ++ drop (l.at + l.i) l.fn.space.store };
  rest : g.B.Body.items l.body ≡ drop l.i (g.B.Body.items l.fn.body);
}
