-- The protected text is the only one, and it is found.
use Rattle.trac_laws.proofs.Imports.{◌≡◌, ◌≢◌, ℕ, zero, suc, ◌+◌, ◌<◌, ◌≤◌, Bool, true, false, ◌&&◌, [], ◌∷◌, ◌++◌, take, length, Option, Some, None, refl, sym, ap, ◌∙◌, subst, ⊎_elim, arith, append_assoc, append-nil, cond, cases_lt, cases_Bool, eq-eqb, eqb-true, and_from, and_parts, take_at}
use Rattle.trac_laws.proofs.Imports.{take-append-le, take_all, length-append, append_cancel_left, sum_by_push, ◌==◌, Text, count, split_at_match, protected, IsBalanced, IsProtected}

abbrev pub weight : Bool → ℕ
weight b = cond b 1 0

some_not_none : (p : Text × Text) → Some p ≡ None → ⊥
some_not_none p e = cc

pub count_push : (c : ℕ) (t : Text) (x : ℕ) → count c (t ++ x ∷ []) ≡ count c t + weight (x == c)
count_push c t x = sum_by_push (λ x. cond (x == c) 1 0) t x

-- a text with one more right parenthesis has one more
count_right : (t : Text) → count 41 (t ++ 41 ∷ []) ≡ suc (count 41 t)
count_right t = count_push 41 t 41 ∙ (omega arith)

count_left : (t : Text) → count 40 (t ++ 41 ∷ []) ≡ count 40 t
count_left t = count_push 40 t 41 ∙ (omega arith)

-- where a text goes on with c, its prefix that ends there
prefix_at : (t : Text) (c : ℕ) (rest : Text) → take (suc (length t)) (t ++ c ∷ rest) ≡ t ++ c ∷ []
prefix_at t c rest =
    let n : length (t ++ c ∷ []) ≡ suc (length t) = omega (arith, length-append t (c ∷ [])) in
    ap (take (suc (length t))) (sym (append_assoc t (c ∷ []) rest)) ∙ take_at (t ++ c ∷ []) rest (suc (length t)) n

-- of two texts before a right parenthesis of one text, the shorter stands before a right parenthesis in the longer
shorter : (t u r v : Text) → t ++ 41 ∷ r ≡ u ++ 41 ∷ v → length t < length u → take (suc (length t)) u ≡ t ++ 41 ∷ []
shorter t u r v e lt =
    let within : suc (length t) ≤ length u = omega arith in
    sym (take-append-le (suc (length t)) u (41 ∷ v) within) ∙ ap (take (suc (length t))) (sym e) ∙ prefix_at t 41 r

not_shorter : (t u r v : Text) → IsBalanced t → IsBalanced u → t ++ 41 ∷ r ≡ u ++ 41 ∷ v → length t < length u → ⊥
not_shorter t u r v bt bu e lt =
    let p = shorter t u r v e lt in
    let right : count 41 (take (suc (length t)) u) ≡ suc (count 41 t) = ap (count 41) p ∙ count_right t in
    let left : count 40 (take (suc (length t)) u) ≡ count 40 t = ap (count 40) p ∙ count_left t in
    let more = bu.prefixes (suc (length t)) in
    let same = bt.same in
    omega arith

tail_of : Text → Text
tail_of [] = []
tail_of (c ∷ t) = t

-- a text has at most one protected text at its beginning
pub one_protected : (text t r u v : Text) → IsProtected text t r → IsProtected text u v → (t ≡ u) × (r ≡ v)
unfolding tail_of
one_protected text t r u v p q =
    let e : t ++ 41 ∷ r ≡ u ++ 41 ∷ v = ap tail_of (sym p.stands ∙ q.stands) in
    let long : length t ≡ length u = ⊎_elim (λ lt. absurd (not_shorter t u r v p.balanced q.balanced e lt)) (λ ge. ⊎_elim (λ lt. absurd (not_shorter u t v r q.balanced p.balanced (sym e) lt)) (λ le. omega arith) (cases_lt (length u) (length t))) (cases_lt (length t) (length u)) in
    let same : t ≡ u = sym (take_at t (41 ∷ r) (length t) refl) ∙ ap (take (length t)) e ∙ take_at u (41 ∷ v) (length t) (sym long) in
    let rest : 41 ∷ r ≡ 41 ∷ v = append_cancel_left u (41 ∷ r) (41 ∷ v) (ap (λ x. x ++ 41 ∷ r) (sym same) ∙ e) in
    (same, ap tail_of rest)

abbrev pub matches : ℕ → Text → Bool
matches c before = (c == 41) && (count 40 before == count 41 before)

pub split_found : (before text : Text) (c : ℕ) → matches c before ≡ true → split_at_match before (c ∷ text) ≡ Some (before, text)
unfolding split_at_match
split_found before text c e = ap {B = Option (Text × Text)} (λ b. elim b [ true ↦ Some (before, text) | false ↦ split_at_match (before ++ c ∷ []) text ]) e

pub split_passed : (before text : Text) (c : ℕ) → matches c before ≡ false → split_at_match before (c ∷ text) ≡ split_at_match (before ++ c ∷ []) text
unfolding split_at_match
split_passed before text c e = ap {B = Option (Text × Text)} (λ b. elim b [ true ↦ Some (before, text) | false ↦ split_at_match (before ++ c ∷ []) text ]) e

pub split_none : (before : Text) → split_at_match before [] ≡ None
unfolding split_at_match
split_none before = refl

-- the match of a left parenthesis is found: t is what is left of the protected text behind `before`
finds : (t before rest : Text) → IsBalanced (before ++ t) → split_at_match before (t ++ 41 ∷ rest) ≡ Some (before ++ t, rest)
finds [] before rest b =
    let e = append-nil before in
    let same : count 40 before ≡ count 41 before = ap (count 40) (sym e) ∙ b.same ∙ ap (count 41) e in
    split_found before rest 41 (eq-eqb (count 40 before) (count 41 before) same) ∙ ap (λ x. Some (x, rest)) (sym e)
finds (c ∷ t) before rest b =
    let e : (before ++ c ∷ []) ++ t ≡ before ++ c ∷ t = append_assoc before (c ∷ []) t in
    let on = finds t (before ++ c ∷ []) rest (subst IsBalanced (sym e) b) ∙ ap (λ x. Some (x, rest)) e in
    ⊎_elim
    (λ yes.
    let is = and_parts (c == 41) (count 40 before == count 41 before) yes in
    let right : c ≡ 41 = eqb-true c 41 is.0 in
    let same : count 40 before ≡ count 41 before = eqb-true (count 40 before) (count 41 before) is.1 in
    let p : take (suc (length before)) (before ++ c ∷ t) ≡ before ++ 41 ∷ [] = prefix_at before c t ∙ ap (λ x. before ++ x ∷ []) right in
    let more = b.prefixes (suc (length before)) in
    let rights : count 41 (take (suc (length before)) (before ++ c ∷ t)) ≡ suc (count 41 before) = ap (count 41) p ∙ count_right before in
    let lefts : count 40 (take (suc (length before)) (before ++ c ∷ t)) ≡ count 40 before = ap (count 40) p ∙ count_left before in
    absurd (omega arith))
    (λ no. split_passed before (t ++ 41 ∷ rest) c no ∙ on)
    (cases_Bool (matches c before))

-- no prefix has more right than left parentheses
abbrev Opens : Text → Type 0
Opens t = (n : ℕ) → count 41 (take n t) ≤ count 40 (take n t)

opens_all : (t : Text) → Opens t → count 41 t ≤ count 40 t
opens_all t o = subst (λ x. count 41 x ≤ count 40 x) (take_all (length t) t (omega arith)) (o (length t))

opens_push : (t : Text) (c : ℕ) → Opens t → matches c t ≡ false → Opens (t ++ c ∷ [])
opens_push t c o passed n =
    ⊎_elim
    (λ past.
    let all : take n (t ++ c ∷ []) ≡ t ++ c ∷ [] = take_all n (t ++ c ∷ []) (omega (arith, length-append t (c ∷ []))) in
    let lefts = ap (count 40) all ∙ count_push 40 t c in
    let rights = ap (count 41) all ∙ count_push 41 t c in
    let le = opens_all t o in
    let last : count 41 t + weight (c == 41) ≤ count 40 t + weight (c == 40) =
    ⊎_elim
    (λ right. ⊎_elim
    (λ same. absurd (true_not_false (sym (and_from (c == 41) (count 40 t == count 41 t) right same) ∙ passed)))
    (λ other. let ne = differ (count 40 t) (count 41 t) other in let one : weight (c == 41) ≡ 1 = ap weight right in omega arith)
    (cases_Bool (count 40 t == count 41 t)))
    (λ wrong. let none : weight (c == 41) ≡ 0 = ap weight wrong in omega arith)
    (cases_Bool (c == 41)) in
    omega arith)
    (λ within. subst (λ x. count 41 x ≤ count 40 x) (sym (take-append-le n t (c ∷ []) within)) (o n))
    (cases_lt (length t) n)
  where
    true_not_false : true ≡ false → ⊥
    true_not_false e = cc

    differ : (a b : ℕ) → (a == b) ≡ false → a ≢ b
    differ a b e same = true_not_false (sym (eq-eqb a b same) ∙ e)

abbrev first_of : Option (Text × Text) → Text
first_of None = []
first_of (Some p) = p.0

abbrev second_of : Option (Text × Text) → Text
second_of None = []
second_of (Some p) = p.1

-- what is found is protected
found : (text before a b : Text) → Opens before → split_at_match before text ≡ Some (a, b) → (before ++ text ≡ a ++ 41 ∷ b) × IsBalanced a
found [] before a b o e = absurd (some_not_none (a, b) (sym e ∙ split_none before))
found (c ∷ text) before a b o e =
    ⊎_elim
    (λ yes.
    let is = and_parts (c == 41) (count 40 before == count 41 before) yes in
    let right : c ≡ 41 = eqb-true c 41 is.0 in
    let same : count 40 before ≡ count 41 before = eqb-true (count 40 before) (count 41 before) is.1 in
    let here : Some (before, text) ≡ Some (a, b) = sym (split_found before text c yes) ∙ e in
    let first : before ≡ a = ap first_of here in
    let second : text ≡ b = ap second_of here in
    (ap (λ x. before ++ x ∷ text) right ∙ ap (λ x. x ++ 41 ∷ text) first ∙ ap (λ x. a ++ 41 ∷ x) second, subst IsBalanced first (record { same = same; prefixes = o })))
    (λ no.
    let on = found text (before ++ c ∷ []) a b (opens_push before c o no) (sym (split_passed before text c no) ∙ e) in
    (sym (append_assoc before (c ∷ []) text) ∙ on.0, on.1))
    (cases_Bool (matches c before))

-- the protected text is found
pub protected_found : (text t rest : Text) → IsProtected (40 ∷ text) t rest → protected text ≡ Some (t, rest)
unfolding tail_of
protected_found text t rest p = ap (split_at_match []) (ap tail_of p.stands) ∙ finds t [] rest p.balanced

-- what is found is the protected text
pub found_protected : (text t rest : Text) → protected text ≡ Some (t, rest) → IsProtected (40 ∷ text) t rest
found_protected text t rest e =
    let is = found text [] t rest (λ n. nothing n) e in
    record { stands = ap (λ x. 40 ∷ x) is.0; balanced = is.1 }
  where
    nothing : (n : ℕ) → count 41 (take n []) ≤ count 40 (take n [])
    nothing zero = omega arith
    nothing (suc n) = omega arith

-- where none is found there is none
pub none_protected : (text t rest : Text) → protected text ≡ None → IsProtected (40 ∷ text) t rest → ⊥
none_protected text t rest e p = some_not_none (t, rest) (sym (protected_found text t rest p) ∙ e)
