use Rattle.std.specs.Prelude.{is_none, MatchOption, Option}
use Rattle.std.proofs.lemmas.Bool.{lt-ltb}
use Rattle.trac_core.proofs.Imports.{◌≡◌, ℕ, true, false, None, Some, refl, sym, ap, ◌∙◌, arith, slice_get, text_of_cells, IsLastCall, function_at, memory_of, calls_unknown}
use Rattle.trac_core.proofs.Answering.{unknown-innermost, none-known, is-found}
use Rattle.trac_core.proofs.machine.Machine.asks.Goals as goal

pub returns : goal.returns
returns c =
    let i = c.self.inside in
    let none = none-known i.fate (sym c.is_some.ensures ∙ c.if-is_some.false) in
    let less = lt-ltb i.steps i.allowance (omega (arith, c.self.invariant.0, c.if-self.false)) in
    let unknown : MatchOption c.unknown_call.result (calls_unknown (memory_of i.meta i.work) ≡ false) (λ place. calls_unknown (memory_of i.meta i.work) ≡ true) = go c.unknown_call.result c.unknown_call.ensures.call in
    rw (← c.self.view_is) (c.is_some-2.ensures ∙ is-found c.unknown_call.result (calls_unknown (memory_of i.meta i.work)) unknown ∙ sym (rw (none, less, c.if-not-self.false) refl))
  where
    go : (o : Option ℕ) → MatchOption o ((meta : ℕ) → calls_unknown (memory_of meta c.self.inside.work) ≡ false) (λ place. (slice_get (text_of_cells c.self.inside.work.active) 0 ≡ Some 41) × (IsLastCall c.self.inside.work.neutral place × (function_at c.self.inside.work.neutral place ≡ None))) → MatchOption o (calls_unknown (memory_of c.self.inside.meta c.self.inside.work) ≡ false) (λ place. calls_unknown (memory_of c.self.inside.meta c.self.inside.work) ≡ true)
    go None none = none c.self.inside.meta
    go (Some place) call = unknown-innermost c.self.inside.work place c.self.inside.meta call.0 call.1.0 ∙ ap is_none call.1.1
