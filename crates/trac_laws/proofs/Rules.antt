-- The rule that fits, by the first character, as a scanner tells it.
use Rattle.trac_laws.proofs.Imports.{◌≡◌, ◌≢◌, ℕ, [], ◌∷◌, refl, ap, ne_eqb, Active, Neutral, Text, DeleteLayout, AddProtected, BeginArgument, BeginCall, EndCall, AddCharacter, parenthesis_rule, rule, IsProtected}
use Rattle.trac_laws.proofs.Parentheses.{protected_found}

pub rule_tab : (rest : Text) → rule (9 ∷ rest) ≡ DeleteLayout rest
unfolding rule
rule_tab rest = refl

pub rule_line_feed : (rest : Text) → rule (10 ∷ rest) ≡ DeleteLayout rest
unfolding rule
rule_line_feed rest = refl

pub rule_return : (rest : Text) → rule (13 ∷ rest) ≡ DeleteLayout rest
unfolding rule
rule_return rest = refl

pub rule_comma : (rest : Text) → rule (44 ∷ rest) ≡ BeginArgument rest
unfolding rule
rule_comma rest = refl

pub rule_end : (rest : Text) → rule (41 ∷ rest) ≡ EndCall rest
unfolding rule
rule_end rest = refl

pub rule_active : (rest : Text) → rule (35 ∷ 40 ∷ rest) ≡ BeginCall Active rest
unfolding rule
rule_active rest = refl

pub rule_neutral : (rest : Text) → rule (35 ∷ 35 ∷ 40 ∷ rest) ≡ BeginCall Neutral rest
unfolding rule
rule_neutral rest = refl

pub rule_sign_last : rule (35 ∷ []) ≡ AddCharacter 35 []
unfolding rule
rule_sign_last = refl

pub rule_two_signs_last : rule (35 ∷ 35 ∷ []) ≡ AddCharacter 35 (35 ∷ [])
unfolding rule
rule_two_signs_last = refl

pub rule_sign : (c : ℕ) (rest : Text) → c ≢ 40 → c ≢ 35 → rule (35 ∷ c ∷ rest) ≡ AddCharacter 35 (c ∷ rest)
unfolding rule
rule_sign c rest opens sign = simp (ne_eqb c 40 opens, ne_eqb c 35 sign)

pub rule_two_signs : (c : ℕ) (rest : Text) → c ≢ 40 → rule (35 ∷ 35 ∷ c ∷ rest) ≡ AddCharacter 35 (35 ∷ c ∷ rest)
unfolding rule
rule_two_signs c rest opens = simp (ne_eqb c 40 opens)

pub rule_protected : (inside rest : Text) (text : Text) → IsProtected (40 ∷ text) inside rest → rule (40 ∷ text) ≡ AddProtected inside rest
unfolding rule
rule_protected inside rest text p = ap parenthesis_rule (protected_found text inside rest p)

pub rule_other : (c : ℕ) (rest : Text) → c ≢ 9 → c ≢ 10 → c ≢ 13 → c ≢ 40 → c ≢ 44 → c ≢ 35 → c ≢ 41 → rule (c ∷ rest) ≡ AddCharacter c rest
unfolding rule
rule_other c rest tab feed back opens comma sign close = simp (ne_eqb c 9 tab, ne_eqb c 10 feed, ne_eqb c 13 back, ne_eqb c 40 opens, ne_eqb c 44 comma, ne_eqb c 35 sign, ne_eqb c 41 close)
