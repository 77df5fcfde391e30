use Rattle.trac_laws.proofs.Parentheses.{one_protected, protected_found, found_protected}
use Rattle.trac_laws.proofs.one_protected.Goals as goal

pub returns-clause-only : goal.returns-clause-only
returns-clause-only c = one_protected

pub returns-clause-found : goal.returns-clause-found
returns-clause-found c = λ text inside rest. (found_protected text inside rest, protected_found text inside rest)
