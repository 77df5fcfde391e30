use Rattle.trac_store.proofs.Imports.{◌≡◌, ◌-◌, ◌≤◌, ◌++◌, length, take, drop, slice_range, tagged_text, segment_cells}
use Rattle.trac_store.proofs.gap_making.make_gaps.Given as goal

-- the cells before `read` are read, and their gaps stand
abbrev pub invariant-loop-place : goal.invariant-loop-place
invariant-loop-place l = record {
  others : l.space ≡ record l.initial.space { store = l.space.store };
  len : length l.space.store ≡ length l.initial.space.store;
  lower : l.fn.body.from ≤ l.write;
  order : l.write ≤ l.read;
  upper : l.read ≤ l.to;
  rest : drop l.read l.space.store ≡ drop l.read l.initial.space.store;
  written : take l.write l.space.store ++ segment_cells (tagged_text (slice_range l.initial.space.neutral l.text.from l.text.to)) l.ordinal 0 (slice_range l.initial.space.store l.read l.to)
      ≡ take l.fn.body.from l.initial.space.store ++ segment_cells (tagged_text (slice_range l.initial.space.neutral l.text.from l.text.to)) l.ordinal 0 (slice_range l.initial.space.store l.fn.body.from l.to);
}

abbrev pub decreases-loop-place : goal.decreases-loop-place
decreases-loop-place l = l.to - l.read
