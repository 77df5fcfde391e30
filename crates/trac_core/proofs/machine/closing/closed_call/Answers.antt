use Rattle.trac_core.proofs.Imports.{◌≡◌, ℕ, Option, None, Some, MatchOption, slice_get, sym, IsLastCall, NoCall, text_of_cells, Contents, memory_of}
use Rattle.trac_core.specs.OpenCalls.{performed_call}
use Rattle.trac_core.proofs.Performed.{performs-other, performs-none}
use Rattle.trac_core.proofs.machine.closing.closed_call.Goals as goal

-- behind a right parenthesis the last call mark tells which call it is
closes :
    (w : Contents) → slice_get (text_of_cells w.active) 0 ≡ Some 41 →
    (found : Option ℕ) → MatchOption found (NoCall w.neutral) (λ place. IsLastCall w.neutral place) →
    MatchOption found ((meta : ℕ) → performed_call (memory_of meta w) ≡ None)
    (λ place. (slice_get (text_of_cells w.active) 0 ≡ Some 41) × IsLastCall w.neutral place)
closes w first None none = λ meta. sym (performs-none w meta first none)
closes w first (Some place) last = (first, last)

pub returns-then-is_at-clause-call : goal.returns-then-is_at-clause-call
returns-then-is_at-clause-call c =
    closes c.args.work.now (c.is_at.ensures.0 c.if-is_at.true) c.last_call.result c.last_call.ensures

pub returns-else-is_at-clause-call : goal.returns-else-is_at-clause-call
returns-else-is_at-clause-call c = λ meta.
    sym (performs-other c.args.work.now meta (λ first. (let t = c.is_at.ensures.1 first in let f = c.if-is_at.false in cc)))
