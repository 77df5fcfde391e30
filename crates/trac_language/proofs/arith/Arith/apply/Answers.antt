use Rattle.std.proofs.Common.{◌≡◌, ◌∙◌, ◌^◌, ap, sym, refl, arith, rules, Option, Some, None, ℤ}
use Rattle.std.proofs.Common.{FitsSigned, of_z, ⊎_elim}
use Rattle.std.specs.Prelude.{pos, negsuc, unsigned_abs}
use Rattle.std.specs.Int.{w128}
use Rattle.std.specs.Option.{SomeIff}
use Rattle.std.proofs.lemmas.Bool.{cases_lt, le-ltb}
use Rattle.std.proofs.lemmas.Int.{to_z-of_z, fits_signed_from_abs}
use Rattle.trac_language.specs.Number.{exactly, if_in_range}
use Rattle.trac_language.specs.Number.{arith as value}
use Rattle.trac_language.proofs.arith.Arith.apply.Goals.{Joined-self, Start}
use Rattle.trac_language.proofs.arith.Arith.apply.Goals.{in-Add, in-Subtract, in-Multiply, in-Divide}
use Rattle.trac_language.proofs.arith.Arith.apply.Goals as goal

-- what 128 bits give of an exact result
abbrev Gave : Option ℤ → Option ℤ → Type 0
Gave (Some n) exact = exact ≡ Some n
Gave None exact = if_in_range exact ≡ None

checked : (o : Option ℤ) (z : ℤ) → SomeIff o (FitsSigned w128 z) z → Gave o (Some z)
checked (Some n) z given = ap Some (sym given.1)
checked None z given =
    ⊎_elim
    (λ lt. absurd (given (fits_signed_from_abs w128 z lt)))
    (λ ge. let no = le-ltb (unsigned_abs z) (2 ^ 127) ge in rw no refl)
    (cases_lt (unsigned_abs z) (2 ^ 127))

same : (o : Option ℤ) → Gave o o
same None = refl
same (Some n) = refl

gave : (c : Joined-self) → Gave c.match-self.exact (exactly c.args.self c.args.a c.args.b)
gave c =
    let is_a = to_z-of_z w128 c.args.a c.ranges.a in
    let is_b = to_z-of_z w128 c.args.b c.ranges.b in
    elim c.match-self.branch [
      | in-Add w ↦ rw (w.in-Add.is, w.exact-is, ← is_a, ← is_b) (search (rules, checked))
      | in-Subtract w ↦ rw (w.in-Subtract.is, w.exact-is, ← is_a, ← is_b) (search (rules, checked))
      | in-Multiply w ↦ rw (w.in-Multiply.is, w.exact-is, ← is_a, ← is_b) (search (rules, checked))
      | in-Divide w ↦ rw (w.in-Divide.is, w.exact-is, w.quotient-exact.ensures, is_a, is_b) (same _)
    ]

ranged : (c : Start)
    → value c.args.self c.args.a c.args.b ≡ if_in_range (exactly c.args.self c.args.a c.args.b)
ranged c = rw (c.requires.left, c.requires.right) refl

-- only the least number of 128 bits is out of the range
least : (n : ℤ) → FitsSigned w128 n → of_z w128 n ≡ 2 ^ 127 → if_in_range (Some n) ≡ None
least (pos n) fits is = absurd (omega arith)
least (negsuc n) fits is = grind arith

others : (n : ℤ) → FitsSigned w128 n → ¬ (of_z w128 n ≡ 2 ^ 127) → if_in_range (Some n) ≡ Some n
others (pos n) fits is = grind arith
others (negsuc n) fits is = grind arith

pub returns-then-n : goal.returns-then-n
returns-then-n c =
    let at = goal.at.returns-then-n c in
    let fits : FitsSigned w128 c.in-Some.n = search rules in
    let is = rw c.in-Some.is at (gave at.Joined-self) in
    sym (ranged at.Start ∙ ap if_in_range is ∙ least c.in-Some.n fits c.if-n.true)

pub returns-else-n : goal.returns-else-n
returns-else-n c =
    let at = goal.at.returns-else-n c in
    let fits : FitsSigned w128 c.in-Some.n = search rules in
    let is = rw c.in-Some.is at (gave at.Joined-self) in
    ap Some (to_z-of_z w128 c.in-Some.n fits)
    ∙ sym (ranged at.Start ∙ ap if_in_range is ∙ others c.in-Some.n fits c.if-n.false)

pub returns-in-None : goal.returns-in-None
returns-in-None c =
    let at = goal.at.returns-in-None c in
    let is = rw c.in-None.is at (gave at.Joined-self) in
    sym (ranged at.Start ∙ is)
