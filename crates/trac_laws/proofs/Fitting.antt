-- The rule that fits is the one by which a step goes.
use Rattle.trac_laws.proofs.Imports.{◌≡◌, ◌≢◌, ◌↔◌, ℕ, [], ◌∷◌, ◌++◌, Option, Some, None, refl, sym, ap, ◌∙◌, subst, ⊎_elim, inl, inr, arith, codes, cases_eq, Active, Neutral, Text, protected, Rule, LoadIdling, DeleteLayout, AddProtected, ClearActive, BeginArgument, BeginCall, EndCall}
use Rattle.trac_laws.proofs.Imports.{AddCharacter, parenthesis_rule, rule, IsProtected, Begins, IsAdded, Fits}
use Rattle.trac_laws.proofs.Parentheses.{found_protected, none_protected}
use Rattle.trac_laws.proofs.Rules.{rule_tab, rule_line_feed, rule_return, rule_comma, rule_end, rule_active, rule_neutral, rule_sign_last, rule_two_signs_last, rule_sign, rule_two_signs, rule_protected, rule_other}

abbrev head_of : Text → ℕ
head_of [] = 0
head_of (c ∷ text) = c

abbrev tail_of : Text → Text
tail_of [] = []
tail_of (c ∷ text) = text

rule_none : rule [] ≡ LoadIdling
unfolding rule
rule_none = refl

rule_opens : (text : Text) → rule (40 ∷ text) ≡ parenthesis_rule (protected text)
unfolding rule
rule_opens text = refl

-- what fits where the rule is known
fits-by : (text : Text) (r : Rule) → rule text ≡ r → Fits text r → Fits text (rule text)
fits-by text r e fits = subst (Fits text) (sym e) fits

fits-parenthesis : (text : Text) (o : Option (Text × Text)) → protected text ≡ o → Fits (40 ∷ text) (parenthesis_rule o)
fits-parenthesis text None e = record { opens = (text, refl); none = λ inside rest. none_protected text inside rest e }
fits-parenthesis text (Some parts) e = found_protected text parts.0 parts.1 e

-- a number sign behind which no call begins
sign-added : (text : Text) → (Begins (codes "#(") (35 ∷ text) → ⊥) → (Begins (codes "##(") (35 ∷ text) → ⊥) → IsAdded (35 ∷ text) 35 text
sign-added text active neutral =
    record {
      stands = refl;
      ordinary = record { opens = λ e. absurd cc; closes = λ e. absurd cc; comma = λ e. absurd cc; tab = λ e. absurd cc; feed = λ e. absurd cc; back = λ e. absurd cc };
      active = active;
      neutral = neutral;
    }

abbrev second : Text → ℕ
second text = head_of (tail_of text)

abbrev third : Text → ℕ
third text = head_of (tail_of (tail_of text))

fits-two : (text : Text) → Fits (35 ∷ 35 ∷ text) (rule (35 ∷ 35 ∷ text))
fits-two [] = fits-by (35 ∷ 35 ∷ []) (AddCharacter 35 (35 ∷ [])) rule_two_signs_last (sign-added (35 ∷ []) (λ b. absurd (omega (arith, ap second b.1))) (λ b. absurd (omega (arith, ap third b.1))))
fits-two (c ∷ text) =
    ⊎_elim
    (λ opens. subst (λ k. Fits (35 ∷ 35 ∷ k ∷ text) (rule (35 ∷ 35 ∷ k ∷ text))) (sym opens) (fits-by (35 ∷ 35 ∷ 40 ∷ text) (BeginCall Neutral text) (rule_neutral text) refl))
    (λ shut. fits-by (35 ∷ 35 ∷ c ∷ text) (AddCharacter 35 (35 ∷ c ∷ text)) (rule_two_signs c text shut) (sign-added (35 ∷ c ∷ text) (λ b. absurd (omega (arith, ap second b.1))) (λ b. shut (ap third b.1))))
    (cases_eq c 40)

fits-sign : (text : Text) → Fits (35 ∷ text) (rule (35 ∷ text))
fits-sign [] = fits-by (35 ∷ []) (AddCharacter 35 []) rule_sign_last (sign-added [] (λ b. absurd (omega (arith, ap second b.1))) (λ b. absurd (omega (arith, ap second b.1))))
fits-sign (c ∷ text) =
    ⊎_elim
    (λ opens. subst (λ k. Fits (35 ∷ k ∷ text) (rule (35 ∷ k ∷ text))) (sym opens) (fits-by (35 ∷ 40 ∷ text) (BeginCall Active text) (rule_active text) refl))
    (λ shut. ⊎_elim
    (λ sign. subst (λ k. Fits (35 ∷ k ∷ text) (rule (35 ∷ k ∷ text))) (sym sign) (fits-two text))
    (λ other. fits-by (35 ∷ c ∷ text) (AddCharacter 35 (c ∷ text)) (rule_sign c text shut other) (sign-added (c ∷ text) (λ b. shut (ap second b.1)) (λ b. other (ap second b.1))))
    (cases_eq c 35))
    (cases_eq c 40)

-- where a character is that one
at : (text : Text) (c k : ℕ) → c ≡ k → Fits (k ∷ text) (rule (k ∷ text)) → Fits (c ∷ text) (rule (c ∷ text))
at text c k e fits = subst (λ n. Fits (n ∷ text) (rule (n ∷ text))) (sym e) fits

fits-other : (c : ℕ) (text : Text) → c ≢ 9 → c ≢ 10 → c ≢ 13 → c ≢ 40 → c ≢ 44 → c ≢ 35 → c ≢ 41 → Fits (c ∷ text) (rule (c ∷ text))
fits-other c text tab feed back opens comma sign close =
    fits-by (c ∷ text) (AddCharacter c text) (rule_other c text tab feed back opens comma sign close) (record {
      stands = refl;
      ordinary = record { opens = opens; closes = close; comma = comma; tab = tab; feed = feed; back = back };
      active = λ b. sign (ap head_of b.1);
      neutral = λ b. sign (ap head_of b.1);
    })

fits : (text : Text) → Fits text (rule text)
fits [] = fits-by [] LoadIdling rule_none refl
fits (c ∷ text) =
    ⊎_elim (λ e. at text c 9 e (fits-by (9 ∷ text) (DeleteLayout text) (rule_tab text) (9, (inl refl, refl)))) (λ tab.
    ⊎_elim (λ e. at text c 10 e (fits-by (10 ∷ text) (DeleteLayout text) (rule_line_feed text) (10, (inr (inl refl), refl)))) (λ feed.
    ⊎_elim (λ e. at text c 13 e (fits-by (13 ∷ text) (DeleteLayout text) (rule_return text) (13, (inr (inr refl), refl)))) (λ back.
    ⊎_elim (λ e. at text c 40 e (fits-by (40 ∷ text) (parenthesis_rule (protected text)) (rule_opens text) (fits-parenthesis text (protected text) refl))) (λ opens.
    ⊎_elim (λ e. at text c 44 e (fits-by (44 ∷ text) (BeginArgument text) (rule_comma text) refl)) (λ comma.
    ⊎_elim (λ e. at text c 35 e (fits-sign text)) (λ sign.
    ⊎_elim (λ e. at text c 41 e (fits-by (41 ∷ text) (EndCall text) (rule_end text) refl)) (λ close.
    fits-other c text tab feed back opens comma sign close)
    (cases_eq c 41)) (cases_eq c 35)) (cases_eq c 44)) (cases_eq c 40)) (cases_eq c 13)) (cases_eq c 10)) (cases_eq c 9)

-- no match is found where there is none
found-none : (text : Text) (o : Option (Text × Text)) → protected text ≡ o → ((inside rest : Text) → IsProtected (40 ∷ text) inside rest → ⊥) → protected text ≡ None
found-none text None e none = e
found-none text (Some parts) e none = absurd (none parts.0 parts.1 (found_protected text parts.0 parts.1 e))

sign-rule : (text : Text) → (Begins (codes "#(") (35 ∷ text) → ⊥) → (Begins (codes "##(") (35 ∷ text) → ⊥) → rule (35 ∷ text) ≡ AddCharacter 35 text
sign-rule [] active neutral = rule_sign_last
sign-rule (c ∷ text) active neutral =
    ⊎_elim
    (λ opens. absurd (active (text, ap (λ k. 35 ∷ k ∷ text) opens)))
    (λ shut. ⊎_elim
    (λ sign. ap (λ k. rule (35 ∷ k ∷ text)) sign ∙ two text (λ b. neutral (b.0, ap (λ k. 35 ∷ k ∷ text) sign ∙ b.1)) ∙ ap (λ k. AddCharacter 35 (k ∷ text)) (sym sign))
    (λ other. rule_sign c text shut other)
    (cases_eq c 35))
    (cases_eq c 40)
  where
    two : (text : Text) → (Begins (codes "##(") (35 ∷ 35 ∷ text) → ⊥) → rule (35 ∷ 35 ∷ text) ≡ AddCharacter 35 (35 ∷ text)
    two [] neutral = rule_two_signs_last
    two (c ∷ text) neutral =
        ⊎_elim (λ opens. absurd (neutral (text, ap (λ k. 35 ∷ 35 ∷ k ∷ text) opens))) (rule_two_signs c text) (cases_eq c 40)

by-fit : (text : Text) (r : Rule) → Fits text r → rule text ≡ r
by-fit text LoadIdling e = ap rule e ∙ rule_none
by-fit text (DeleteLayout rest) (c, (layout, e)) =
    ap rule e
    ∙ ⊎_elim (λ tab. ap (λ k. rule (k ∷ rest)) tab ∙ rule_tab rest)
    (⊎_elim (λ feed. ap (λ k. rule (k ∷ rest)) feed ∙ rule_line_feed rest) (λ back. ap (λ k. rule (k ∷ rest)) back ∙ rule_return rest)) layout
by-fit text (AddProtected inside rest) p =
    ap rule p.stands ∙ rule_protected inside rest (inside ++ 41 ∷ rest) (subst (λ t. IsProtected t inside rest) p.stands p)
by-fit text ClearActive u =
    let t = u.opens.0 in
    let none = found-none t (protected t) refl (λ inside rest p. u.none inside rest (subst (λ s. IsProtected s inside rest) (sym u.opens.1) p)) in
    ap rule u.opens.1 ∙ rule_opens t ∙ ap parenthesis_rule none
by-fit text (BeginArgument rest) e = ap rule e ∙ rule_comma rest
by-fit text (BeginCall Active rest) e = ap rule e ∙ rule_active rest
by-fit text (BeginCall Neutral rest) e = ap rule e ∙ rule_neutral rest
by-fit text (EndCall rest) e = ap rule e ∙ rule_end rest
by-fit text (AddCharacter c rest) a =
    let o = a.ordinary in
    ap rule a.stands
    ∙ ⊎_elim
    (λ sign.
    ap (λ k. rule (k ∷ rest)) sign
    ∙ sign-rule rest (λ b. a.active (b.0, a.stands ∙ ap (λ k. k ∷ rest) sign ∙ b.1)) (λ b. a.neutral (b.0, a.stands ∙ ap (λ k. k ∷ rest) sign ∙ b.1))
    ∙ ap (λ k. AddCharacter k rest) (sym sign))
    (λ sign. rule_other c rest o.tab o.feed o.back o.opens o.comma sign o.closes)
    (cases_eq c 35)

pub rule-fits : (text : Text) (r : Rule) → (rule text ≡ r) ↔ Fits text r
rule-fits text r = (λ e. subst (Fits text) e (fits text), by-fit text r)
