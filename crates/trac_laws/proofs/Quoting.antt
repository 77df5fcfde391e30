-- A quoted text is printed as it is.
use Rattle.trac_laws.proofs.Imports.{◌≡◌, ◌≢◌, ℕ, zero, suc, ◌+◌, ◌-◌, ◌≤◌, max, false, not, cond, List, [], ◌∷◌, ◌++◌, length, take, drop, Some, refl, sym, ap, ◌∙◌, arith, append_assoc, append-nil, codes, All, ◌==◌, before_first, position_or_len, length-append, take_at, drop_at, ne_eqb}
use Rattle.trac_laws.proofs.Imports.{recursion_from_All, Active, InputEnded, Text, protected, OpenCall, Input, State, first, size, meaning_of, read_string, rule, parenthesis_rule, Outcome, Next, Over, perform, follow, step, need_by, need, Run, one_more, run, IsBalanced, quoting, Quoted}
use Rattle.trac_laws.proofs.Runs.{run_next, run_over}
use Rattle.trac_laws.proofs.Parentheses.{protected_found}

-- whether an outcome is a next state, of which this holds
abbrev IsNext : (State → Type 0) → Outcome → Type 0
IsNext P (Next t) = P t
IsNext P (Over f) = ⊥

abbrev next_of : State → Outcome → State
next_of s (Next t) = t
next_of s (Over f) = s

-- n steps give a next state each
abbrev Goes : ℕ → State → Type 0
Goes zero s = Unit {0}
Goes (suc n) s = IsNext (Goes n) (step s)

-- the state after n steps
abbrev after : ℕ → State → State
after zero s = s
after (suc n) s = after n (next_of s (step s))

-- the greatest need of n steps
abbrev peak_of : ℕ → State → ℕ
peak_of zero s = 0
peak_of (suc n) s = max (need s) (peak_of n (next_of s (step s)))

-- n more than m
abbrev more : ℕ → ℕ → ℕ
more zero m = m
more (suc n) m = suc (more n m)

more_is : (n m : ℕ) → more n m ≡ n + m
more_is zero m = omega arith
more_is (suc n) m = let e = more_is n m in omega arith

-- a run after n more steps
abbrev since : ℕ → ℕ → Run → Run
since n peak r = record { output = r.output; left = r.left; fate = r.fate; steps = more n r.steps; peak = max peak r.peak }

next_is : (P : State → Type 0) (s : State) (o : Outcome) → IsNext P o → o ≡ Next (next_of s o)
next_is P s (Next t) h = refl
next_is P s (Over f) h = absurd h

next_has : (P : State → Type 0) (s : State) (o : Outcome) → IsNext P o → P (next_of s o)
next_has P s (Next t) h = h
next_has P s (Over f) h = absurd h

-- a run makes its first n steps
runs_on : (room n m : ℕ) (s : State) → Goes n s → peak_of n s ≤ room → run room (more n m) s ≡ since n (peak_of n s) (run room m (after n s))
runs_on room zero m s g le = let e : (run room m s).peak ≡ max 0 (run room m s).peak = omega arith in ap (λ p. record { output = (run room m s).output; left = (run room m s).left; fate = (run room m s).fate; steps = (run room m s).steps; peak = p }) e
runs_on room (suc n) m s g le =
    let t = next_of s (step s) in
    let here = run_next room (more n m) s t (omega arith) (next_is (Goes n) s (step s) g) in
    let rest = runs_on room n m t (next_has (Goes n) s (step s) g) (omega arith) in
    let r = run room m (after n t) in
    let e : max (need s) (max (peak_of n t) r.peak) ≡ max (max (need s) (peak_of n t)) r.peak = omega arith in
    here ∙ ap (one_more (need s)) rest ∙ ap (λ p. record { output = r.output; left = r.left; fate = r.fate; steps = suc (more n r.steps); peak = p }) e

-- ---- reading up to the apostrophe

abbrev Plain : Text → Type 0
Plain [] = Unit {0}
Plain (c ∷ t) = (c ≢ 39) × Plain t

plain-text : (t : Text) → All (λ c. c ≢ 39) t → Plain t
plain-text t h = recursion_from_All (λ c. c ≢ 39) t h

plain_append : (a b : Text) → Plain a → Plain b → Plain (a ++ b)
plain_append [] b p q = q
plain_append (c ∷ a) b p q = (p.0, plain_append a b p.1 q)

apostrophe_at : (t rest : Text) → Plain t → position_or_len (λ c. c == 39) (t ++ 39 ∷ rest) ≡ length t
apostrophe_at [] rest p = refl
apostrophe_at (c ∷ t) rest p = let e = apostrophe_at t rest p.1 in ap (λ b. cond (not b) (1 + position_or_len (λ c. c == 39) (t ++ 39 ∷ rest)) 0) (ne_eqb c 39 p.0) ∙ omega arith

before_apostrophe : (t rest : Text) → Plain t → before_first (λ c. c == 39) (t ++ 39 ∷ rest) ≡ t
before_apostrophe t rest p = ap (λ n. take n (t ++ 39 ∷ rest)) (apostrophe_at t rest p) ∙ take_at t (39 ∷ rest) (length t) refl

from_apostrophe : (t rest : Text) → Plain t → drop (position_or_len (λ c. c == 39) (t ++ 39 ∷ rest)) (t ++ 39 ∷ rest) ≡ 39 ∷ rest
from_apostrophe t rest p = ap (λ n. drop n (t ++ 39 ∷ rest)) (apostrophe_at t rest p) ∙ drop_at t (39 ∷ rest) (length t) refl

-- ---- the states on the way

abbrev calls_ps : Text → OpenCall
calls_ps last = record { mode = Active; earlier = codes "ps" ∷ []; last = last }

abbrev calls_rs : OpenCall
calls_rs = record { mode = Active; earlier = []; last = codes "rs" }

abbrev at : Text → List OpenCall → Input → Text → State
at active calls input output = record { memory = record { active = active; base = []; calls = calls; forms = []; meta = 39 }; input = input; output = output }

-- before the first step, and before the idling procedure reads
abbrev idle : Input → Text → State
idle input output = at [] [] input output

abbrev asking : Input → Text → State
asking input output = at (codes "))") (calls_rs ∷ calls_ps [] ∷ []) input output

abbrev no_input : Input
no_input = record { text = []; fails = false }

idle_goes : (input : Input) (output : Text) → Goes 8 (idle input output)
unfolding step rule meaning_of
idle_goes input output = tt

idle_after : (input : Input) (output : Text) → after 8 (idle input output) ≡ asking input output
unfolding step rule meaning_of
idle_after input output = refl

idle_peak : (input : Input) (output : Text) → peak_of 8 (idle input output) ≡ 11
unfolding step need rule meaning_of
idle_peak input output = refl

-- ---- the script is read, and its call performed

-- the script before the apostrophe
abbrev script : Text → Text
script t = codes "#(ps,(" ++ (t ++ codes "))")

script_plain : (t : Text) → Plain t → Plain (script t)
script_plain t p = plain_append (codes "#(ps,(") (t ++ codes "))") ((λ e. cc), ((λ e. cc), ((λ e. cc), ((λ e. cc), ((λ e. cc), ((λ e. cc), tt)))))) (plain_append t (codes "))") p ((λ e. cc), ((λ e. cc), tt)))

quoting_is : (t : Text) → (quoting t).text ≡ script t ++ 39 ∷ []
quoting_is t = ap (λ x. codes "#(ps,(" ++ x) (sym (append_assoc t (codes "))") (39 ∷ [])))

abbrev has_read : Text → State
has_read t = at (codes "#(ps,(" ++ (t ++ codes ")))")) (calls_ps [] ∷ []) no_input []

-- the call is open up to the text
abbrev has_opened : Text → State
has_opened t = at (codes "(" ++ (t ++ codes ")))")) (calls_ps [] ∷ calls_ps [] ∷ []) no_input []

abbrev has_quoted : Text → State
has_quoted t = at (codes "))") (calls_ps t ∷ calls_ps [] ∷ []) no_input []

-- what the call of `rs` does with what stands before the meta character and from it on
abbrev read : Text → Text → Text → Outcome
read t before from = perform Active (read_string before from (record { forms = []; meta = 39; input = quoting t })) (at (codes ")") (calls_ps [] ∷ []) (quoting t) [])

script_before : (t : Text) → Plain t → before_first (λ c. c == 39) (quoting t).text ≡ script t
script_before t p = ap (before_first (λ c. c == 39)) (quoting_is t) ∙ before_apostrophe (script t) [] (script_plain t p)

apostrophe_from : (t : Text) → Plain t → drop (position_or_len (λ c. c == 39) (quoting t).text) (quoting t).text ≡ 39 ∷ []
apostrophe_from t p = ap (λ x. drop (position_or_len (λ c. c == 39) x) x) (quoting_is t) ∙ from_apostrophe (script t) [] (script_plain t p)

reads : (t : Text) → Plain t → step (asking (quoting t) []) ≡ Next (has_read t)
unfolding step rule meaning_of
reads t p =
    ap (λ b. read t b (drop (position_or_len (λ c. c == 39) (quoting t).text) (quoting t).text)) (script_before t p)
    ∙ ap (read t (script t)) (apostrophe_from t p)
    ∙ ap (λ x. Next (at (codes "#(ps,(" ++ x) (calls_ps [] ∷ []) no_input [])) (append_assoc t (codes "))") (codes ")"))

opens_goes : (t : Text) → Goes 4 (has_read t)
unfolding step rule meaning_of
opens_goes t = tt

opens_after : (t : Text) → after 4 (has_read t) ≡ has_opened t
unfolding step rule meaning_of
opens_after t = refl

is_found : (t : Text) → IsBalanced t → protected (t ++ codes ")))") ≡ Some (t, codes "))")
is_found t b = protected_found (t ++ codes ")))") t (codes "))") (record { stands = refl; balanced = b })

quotes : (t : Text) → IsBalanced t → step (has_opened t) ≡ Next (has_quoted t)
unfolding step rule meaning_of
quotes t b = ap (λ o. follow (parenthesis_rule o) (has_opened t)) (is_found t b)

prints_goes : (t : Text) → Goes 2 (has_quoted t)
unfolding step rule meaning_of
prints_goes t = tt

prints_after : (t : Text) → after 2 (has_quoted t) ≡ idle no_input (t ++ [])
unfolding step rule meaning_of
prints_after t = refl

ends : (output : Text) → step (asking no_input output) ≡ Over InputEnded
unfolding step rule meaning_of
ends output = refl

-- ---- what the steps need

read_need : (t : Text) → Plain t → need (asking (quoting t) []) ≡ 16 + length t
unfolding need rule
read_need t p =
    let e : length (before_first (λ c. c == 39) (quoting t).text) ≡ 8 + length t = ap length (script_before t p) ∙ omega (arith, length-append t (codes "))")) in
    omega arith

opens_peak : (t : Text) → peak_of 4 (has_read t) ≤ 16 + length t
unfolding step need rule meaning_of
opens_peak t = omega (arith, length-append t (codes ")))"))

quotes_need : (t : Text) → IsBalanced t → need (has_opened t) ≤ 16 + length t
unfolding need rule
quotes_need t b =
    let e : need (has_opened t) ≡ size (has_opened t).memory = ap (λ o. need_by (parenthesis_rule o) (has_opened t)) (is_found t b) in
    omega (arith, e, length-append t (codes ")))"))

prints_peak : (t : Text) → peak_of 2 (has_quoted t) ≤ 16 + length t
unfolding step need rule meaning_of
prints_peak t = omega arith

end_need : (output : Text) → need (asking no_input output) ≡ 8
unfolding need rule
end_need output = refl

-- ---- from the last step back to the first

-- in a room that the text fits with the 16 cells more that reading it needs
module _ (t : Text) (room : ℕ) (le : 16 + length t ≤ room) where
  -- a run prints the text in `steps` steps, with no greater peak than reading the text needs
  record Prints (steps : ℕ) (r : Run) : Type 0 where
    peak : ℕ
    bound : peak ≤ 16 + length t
    is : r ≡ record { output = t; left = []; fate = InputEnded; steps = steps; peak = peak }

  -- n more steps
  prints_later : (n m steps : ℕ) (s u : State) → Goes n s → after n s ≡ u → peak_of n s ≤ 16 + length t → Prints steps (run room m u) → Prints (more n steps) (run room (more n m) s)
  prints_later n m steps s u goes to small r =
      let bound = r.bound in
      record { peak = max (peak_of n s) r.peak; bound = omega arith; is = runs_on room n m s goes (omega arith) ∙ ap (λ x. since n (peak_of n s) (run room m x)) to ∙ ap (since n (peak_of n s)) r.is }

  -- a run that begins with one more step prints the text, too
  prints_next : (m steps : ℕ) (s u : State) → step s ≡ Next u → need s ≤ 16 + length t → Prints steps (run room m u) → Prints (suc steps) (run room (suc m) s)
  prints_next m steps s u to small r =
      let bound = r.bound in
      record { peak = max (need s) r.peak; bound = omega arith; is = run_next room m s u (omega arith) to ∙ ap (one_more (need s)) r.is }

  prints_last : (m : ℕ) → Prints 1 (run room (suc m) (asking no_input (t ++ [])))
  prints_last m =
      let n = end_need (t ++ []) in
      record { peak = need (asking no_input (t ++ [])); bound = omega arith; is = run_over room m (asking no_input (t ++ [])) InputEnded (omega arith) (ends (t ++ [])) ∙ ap (λ o. record { output = o; left = []; fate = InputEnded; steps = 1; peak = need (asking no_input (t ++ [])) }) (append-nil t) }

  -- after the script was read: 16 steps
  prints_read : (m : ℕ) → IsBalanced t → Prints 16 (run room (more 15 (suc m)) (has_read t))
  prints_read m b =
      let n = idle_peak no_input (t ++ []) in
      prints_later 4 (more 11 (suc m)) 12 (has_read t) (has_opened t) (opens_goes t) (opens_after t) (opens_peak t)
      (prints_next (more 10 (suc m)) 11 (has_opened t) (has_quoted t) (quotes t b) (quotes_need t b)
      (prints_later 2 (more 8 (suc m)) 9 (has_quoted t) (idle no_input (t ++ [])) (prints_goes t) (prints_after t) (prints_peak t)
      (prints_later 8 (suc m) 1 (idle no_input (t ++ [])) (asking no_input (t ++ [])) (idle_goes no_input (t ++ [])) (idle_after no_input (t ++ [])) (omega arith)
      (prints_last m))))

-- all 25 steps, of which the ninth has the greatest need
pub quoted_law : Quoted
quoted_law t room allowance balanced plain le enough =
    let p = plain-text t plain in
    let m = allowance - 25 in
    let all : allowance ≡ more 25 m = let e = more_is 25 m in omega arith in
    let r = prints_read t room le m balanced in
    let bound = r.bound in
    let s1 = first (quoting t) in
    let s9 = asking (quoting t) [] in
    let n1 = idle_peak (quoting t) [] in
    let n9 = read_need t p in
    let whole : max (peak_of 8 s1) (max (need s9) r.peak) ≡ 16 + length t = omega arith in
    ap (λ n. run room n s1) all
    ∙ runs_on room 8 (more 16 (suc m)) s1 (idle_goes (quoting t) []) (omega arith)
    ∙ ap (λ s. since 8 (peak_of 8 s1) (run room (more 16 (suc m)) s)) (idle_after (quoting t) [])
    ∙ ap (since 8 (peak_of 8 s1)) (run_next room (more 15 (suc m)) s9 (has_read t) (omega arith) (reads t p) ∙ ap (one_more (need s9)) r.is)
    ∙ ap (λ n. record { output = t; left = []; fate = InputEnded; steps = 25; peak = n }) whole
