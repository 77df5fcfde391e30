use Rattle.trac_space.proofs.Imports.{ℕ, drop, ◌≤◌, List, Cell, put_mid, ◌≡◌, ◌⊎◌, ◌+◌, ◌-◌, ◌∙◌, ap, sym, arith, refl, inl, inr, length, map, take, ◌++◌, slice_range, length-between, ⊎_elim, cases_lt}
use Rattle.trac_space.specs.Tags.{untagged}
use Rattle.trac_space.proofs.Filled.{copied-low, copied-all, put-cleared, others-less}
use Rattle.trac_space.proofs.filling.put_untagged.Goals as goal
use Rattle.trac_space.proofs.filling.put_untagged.Goals.{After-copy_short}

-- the first of them are lifted, and the others have no numbers
both : (c : After-copy_short) (m : ℕ) → (m ≡ c.args.given.start + c.args.given.commas - c.args.start) ⊎ (m ≡ c.args.n) → m ≤ c.args.n → (cleared : List Cell) → cleared ≡ map untagged (take (c.args.to + m - c.args.to) (drop c.args.to c.copy_short.new.cells)) → (take c.args.to (put_mid c.args.to (c.args.to + m - c.args.to) c.copy_short.new.cells cleared) ≡ take c.args.to c.args.cells.now) × (drop c.args.to (put_mid c.args.to (c.args.to + m - c.args.to) c.copy_short.new.cells cleared) ≡ map untagged (slice_range c.args.cells.now c.args.start (c.args.start + c.args.n)) ++ drop (c.args.to + c.args.n) c.args.cells.now)
both c m which few cleared is =
    let long : length (slice_range c.args.cells.now c.args.start (c.args.start + c.args.n)) ≡ c.args.n = omega (arith, length-between c.args.cells.now c.args.start (c.args.start + c.args.n) (omega (arith, c.requires.apart, c.requires.room))) in
    let others = others-less _ c.args.n (c.args.given.start + c.args.given.commas - c.args.start) m long which c.requires.others in
    put-cleared c.args.cells.now c.copy_short.new.cells c.args.start c.args.to c.args.n c.requires.apart c.requires.room c.copy_short.ensures.after cleared _ m few is refl others

pub returns-clause-front : goal.returns-clause-front
returns-clause-front c =
    let k = (goal.at.returns-clause-front c).After-copy_short in
    let tagged = c.args.given.start + c.args.given.commas - c.args.start in
    let which : (c.min.result ≡ tagged) ⊎ (c.min.result ≡ c.args.n) = ⊎_elim (λ less. inr (omega (arith, c.min.ensures, less))) (λ more. inl (omega (arith, c.min.ensures, more))) (cases_lt c.args.n tagged) in
    (both k c.min.result which (omega (arith, c.min.ensures)) c.clear_tags.new.cells c.clear_tags.ensures).0

pub returns-clause-put : goal.returns-clause-put
returns-clause-put c =
    let k = (goal.at.returns-clause-put c).After-copy_short in
    let tagged = c.args.given.start + c.args.given.commas - c.args.start in
    let which : (c.min.result ≡ tagged) ⊎ (c.min.result ≡ c.args.n) = ⊎_elim (λ less. inr (omega (arith, c.min.ensures, less))) (λ more. inl (omega (arith, c.min.ensures, more))) (cases_lt c.args.n tagged) in
    (both k c.min.result which (omega (arith, c.min.ensures)) c.clear_tags.new.cells c.clear_tags.ensures).1

-- no number lies over them
pub returns-then-start-tagged-clause-front : goal.returns-then-start-tagged-clause-front
returns-then-start-tagged-clause-front c =
    copied-low c.args.cells.now c.put_as_they_are.new.cells c.args.start c.args.to c.args.n c.requires.apart c.requires.room c.put_as_they_are.ensures.after c.args.to (omega arith)

pub returns-then-start-tagged-clause-put : goal.returns-then-start-tagged-clause-put
returns-then-start-tagged-clause-put c =
    let none : c.args.given.start + c.args.given.commas - c.args.start ≡ 0 = omega (arith, c.if-start-tagged.true) in
    let plain : map untagged (slice_range c.args.cells.now c.args.start (c.args.start + c.args.n)) ≡ slice_range c.args.cells.now c.args.start (c.args.start + c.args.n) = rw none at c.requires.others in
    copied-all c.args.cells.now c.put_as_they_are.new.cells c.args.start c.args.to c.args.n c.requires.apart c.requires.room c.put_as_they_are.ensures.after ∙ ap (λ l. l ++ drop (c.args.to + c.args.n) c.args.cells.now) (sym plain)
