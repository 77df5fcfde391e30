-- What a step does is decided by the memory and by what it takes of the input.
use Rattle.trac_laws.proofs.Imports.{◌≡◌, ℕ, ◌+◌, ◌-◌, Bool, true, false, not, ◌||◌, cond, List, [], ◌∷◌, ◌++◌, length, take, drop, Option, Some, None, refl, sym, ap, subst, ◌∙◌, ⊎_elim, arith, append_assoc, ◌==◌, before_first, position_or_len, list_any, cases_Bool, false≢true, length-append}
use Rattle.trac_laws.proofs.Imports.{take_at, drop_at, append_cancel_right, nil_from_length, Mode, Function, ReadString, ReadCharacter, Text, OpenCall, Memory, State, arguments, size, World, Meaning, Gives, Ends, read_string, meaning_of, meaning, built, Rule, EndCall, rule, Outcome, Next, Over}
use Rattle.trac_laws.proofs.Imports.{function_of, world_of, deliver, perform, end_call, with_active, follow, end_need, need_by, step, need, is_read_string, reads_last, end_reads_last, reads_last_by, reads_to_end}
use Rattle.trac_laws.proofs.Shape.{reads}
use Rattle.trac_laws.proofs.UnreadInput.{with_source, elsewhere, built_elsewhere}

abbrev pub standing : Memory → Text → Bool → Text → State
standing memory text fails output = record { memory = memory; input = record { text = text; fails = fails }; output = output }

state_of : State → Outcome → State
state_of s (Next t) = t
state_of s (Over f) = s

-- a step that takes nothing
untouched : (mm : Memory) (o : Text) (m : Memory) (g r out : Text) → Next (standing mm (g ++ r) false o) ≡ Next (standing m r false out) → (R : Text) (e : Bool) → Next (standing mm (g ++ R) e o) ≡ Next (standing m R e out)
unfolding state_of
untouched mm o m g r out h R e =
    let s = ap (state_of (standing m r false out)) h in
    let memory : mm ≡ m = ap (λ s. s.memory) s in
    let output : o ≡ out = ap (λ s. s.output) s in
    let long : length (g ++ r) ≡ length r = ap (λ s. length s.input.text) s in
    let none : g ≡ [] = nil_from_length g (omega (arith, length-append g r)) in
    ap (λ x. Next (standing mm (x ++ R) e o)) none ∙ ap (λ x. Next (standing x R e o)) memory ∙ ap (λ x. Next (standing m R e x)) output

over_not_next : (f : _) (t : State) → Over f ≡ Next t → ⊥
over_not_next f t e = cc

-- no character passes the test
abbrev NonePass : (ℕ → Bool) → Text → Type 0
NonePass p [] = Unit {0}
NonePass p (c ∷ t) = (p c ≡ false) × NonePass p t

-- the text up to the first character that passes
record Split (p : ℕ → Bool) (text : Text) : Type 0 where
  front : Text
  mark : ℕ
  back : Text
  is : text ≡ front ++ mark ∷ back
  before : NonePass p front
  passes : p mark ≡ true

split : (p : ℕ → Bool) (text : Text) → list_any p text ≡ true → Split p text
split p [] e = absurd (false≢true e)
split p (c ∷ text) e =
    ⊎_elim
    (λ here. record { front = []; mark = c; back = text; is = refl; before = tt; passes = here })
    (λ later.
    let s = split p text (sym (ap (λ b. b || list_any p text) later) ∙ e) in
    record { front = c ∷ s.front; mark = s.mark; back = s.back; is = ap (λ t. c ∷ t) s.is; before = (later, s.before); passes = s.passes })
    (cases_Bool (p c))

position_is : (p : ℕ → Bool) (u : Text) (c : ℕ) (v : Text) → NonePass p u → p c ≡ true → position_or_len p (u ++ c ∷ v) ≡ length u
position_is p [] c v none e = ap (λ b. cond (not b) (1 + position_or_len p v) 0) e
position_is p (x ∷ u) c v none e = let rest = position_is p u c v none.1 e in ap (λ b. cond (not b) (1 + position_or_len p (u ++ c ∷ v)) 0) none.0 ∙ omega arith

-- a function reads a string, reads a character, or reads nothing
pub data Kind (f : Function) : Type 0 where
  IsString : f ≡ ReadString → Kind f
  IsCharacter : f ≡ ReadCharacter → Kind f
  IsOther : reads f ≡ false → is_read_string f ≡ false → Kind f

pub kind : (f : Function) → Kind f
kind ReadString = IsString refl
kind ReadCharacter = IsCharacter refl
kind f = IsOther refl refl

-- ---- a call that is performed

module _ (mode : Mode) (args : List Text) (m : Memory) (out : Text) where
  world : Text → Bool → World
  world text e = record { forms = m.forms; meta = m.meta; input = record { text = text; fails = e } }

  -- what a call comes to
  done : Option Function → Text → Bool → Outcome
  done f text e = perform mode (meaning f args (world text e)) (standing m text e out)

  -- from a call that takes g of the input, the same with any other rest
  record Same (f : Option Function) (g r : Text) (m' : Memory) (out' : Text) : Type 0 where
    next : (R : Text) (e : Bool) → done f (g ++ R) e ≡ Next (standing m' R e out')
    builds : (R : Text) (e : Bool) → built f args (world (g ++ R) e) ≡ built f args (world (g ++ r) false)

  nothing_same : (g r : Text) (m' : Memory) (out' : Text) → done None (g ++ r) false ≡ Next (standing m' r false out') → Same None g r m' out'
  unfolding done world
  nothing_same g r m' out' h = record { next = untouched (deliver mode false [] m) (out ++ []) m' g r out' h; builds = λ R e. refl }

  other_same : (f : Function) → reads f ≡ false → (g r : Text) (m' : Memory) (out' : Text) → done (Some f) (g ++ r) false ≡ Next (standing m' r false out') → Same (Some f) g r m' out'
  unfolding done world
  other_same f no_reading g r m' out' h = record {
    next = λ R e. at (g ++ R) e ∙ go (meaning_of f args base) (sym (at (g ++ r) false) ∙ h) R e;
    builds = λ R e. built_elsewhere f args base (record { text = g ++ R; fails = e }) no_reading ∙ sym (built_elsewhere f args base (record { text = g ++ r; fails = false }) no_reading);
  }
    where
      base : World
      base = record { forms = m.forms; meta = m.meta; input = record { text = []; fails = false } }

      at : (text : Text) (e : Bool) → done (Some f) text e ≡ perform mode (with_source (record { text = text; fails = e }) (meaning_of f args base)) (standing m text e out)
      at text e = ap (λ x. perform mode x (standing m text e out)) (elsewhere f args base (record { text = text; fails = e }) no_reading)

      go : (x : Meaning) → perform mode (with_source (record { text = g ++ r; fails = false }) x) (standing m (g ++ r) false out) ≡ Next (standing m' r false out') → (R : Text) (e : Bool) → perform mode (with_source (record { text = g ++ R; fails = e }) x) (standing m (g ++ R) e out) ≡ Next (standing m' R e out')
      go (Gives a) k R e = untouched (deliver mode a.forced a.value (record m { forms = a.world.forms; meta = a.world.meta })) (out ++ a.printed) m' g r out' k R e
      go (Ends fate) k R e = absurd (over_not_next fate _ k)

  character_same : (g r : Text) (m' : Memory) (out' : Text) → done (Some ReadCharacter) (g ++ r) false ≡ Next (standing m' r false out') → Same (Some ReadCharacter) g r m' out'
  unfolding done world meaning_of state_of
  character_same [] [] m' out' h = absurd (over_not_next _ _ h)
  character_same [] (c ∷ r) m' out' h = let long : length r ≡ length (c ∷ r) = ap (λ o. length (state_of (standing m' r false out') o).input.text) h in absurd (omega arith)
  character_same (c ∷ g) r m' out' h = record { next = untouched (deliver mode false (c ∷ []) m) (out ++ []) m' g r out' h; builds = λ R e. refl }

  is_meta : ℕ → Bool
  is_meta c = c == m.meta

  before_at : (u : Text) (c : ℕ) (v : Text) → NonePass is_meta u → is_meta c ≡ true → before_first is_meta (u ++ c ∷ v) ≡ u
  before_at u c v none e = ap (λ n. take n (u ++ c ∷ v)) (position_is is_meta u c v none e) ∙ take_at u (c ∷ v) (length u) refl

  from_at : (u : Text) (c : ℕ) (v : Text) → NonePass is_meta u → is_meta c ≡ true → drop (position_or_len is_meta (u ++ c ∷ v)) (u ++ c ∷ v) ≡ c ∷ v
  from_at u c v none e = ap (λ n. drop n (u ++ c ∷ v)) (position_is is_meta u c v none e) ∙ drop_at u (c ∷ v) (length u) refl

  string_at : (u : Text) (c : ℕ) (v : Text) (e : Bool) → NonePass is_meta u → is_meta c ≡ true → done (Some ReadString) (u ++ c ∷ v) e ≡ Next (standing (deliver mode false u m) v e (out ++ []))
  unfolding done world meaning_of is_meta
  string_at u c v e none is =
      let w = world (u ++ c ∷ v) e in
      let s = standing m (u ++ c ∷ v) e out in
      ap (λ b. perform mode (read_string b (drop (position_or_len is_meta (u ++ c ∷ v)) (u ++ c ∷ v)) w) s) (before_at u c v none is)
      ∙ ap (λ f. perform mode (read_string u f w) s) (from_at u c v none is)

  string_same : (g r : Text) (m' : Memory) (out' : Text) → list_any is_meta (g ++ r) ≡ true → done (Some ReadString) (g ++ r) false ≡ Next (standing m' r false out') → Same (Some ReadString) g r m' out'
  unfolding state_of world is_meta
  string_same g r m' out' any h =
      let p = split is_meta (g ++ r) any in
      let u = p.front in
      let c = p.mark in
      let here : Next (standing (deliver mode false u m) p.back false (out ++ [])) ≡ Next (standing m' r false out') = sym (string_at u c p.back false p.before p.passes) ∙ ap (λ t. done (Some ReadString) t false) (sym p.is) ∙ h in
      let s = ap (state_of (standing m' r false out')) here in
      let memory : deliver mode false u m ≡ m' = ap (λ s. s.memory) s in
      let output : out ++ [] ≡ out' = ap (λ s. s.output) s in
      let rest : p.back ≡ r = ap (λ s. s.input.text) s in
      let took : g ≡ u ++ c ∷ [] = append_cancel_right g (u ++ c ∷ []) r (p.is ∙ ap (λ v. u ++ c ∷ v) rest ∙ sym (append_assoc u (c ∷ []) r)) in
      let text = λ (R : Text). ap (λ x. x ++ R) took ∙ append_assoc u (c ∷ []) R in
      record {
        next = λ R e. ap (λ t. done (Some ReadString) t e) (text R) ∙ string_at u c R e p.before p.passes ∙ ap (λ x. Next (standing x R e (out ++ []))) memory ∙ ap (λ o. Next (standing m' R e o)) output;
        builds = λ R e. ap (λ t. length (before_first is_meta t)) (text R) ∙ ap length (before_at u c R p.before p.passes) ∙ sym (ap (λ t. length (before_first is_meta t)) (text r) ∙ ap length (before_at u c r p.before p.passes));
      }

  -- any call that doesn't read to the end
  call_same : (f : Option Function) (g r : Text) (m' : Memory) (out' : Text) → reads_last f (world (g ++ r) false) ≡ false → done f (g ++ r) false ≡ Next (standing m' r false out') → Same f g r m' out'
  unfolding world is_meta
  call_same None g r m' out' more h = nothing_same g r m' out' h
  call_same (Some f) g r m' out' more h = go (kind f)
    where
      meets : (any : Bool) → not any ≡ false → any ≡ true
      meets true e = refl
      meets false e = cc

      go : Kind f → Same (Some f) g r m' out'
      go (IsString e) = subst (λ f. Same (Some f) g r m' out') (sym e) (string_same g r m' out' (meets (list_any is_meta (g ++ r)) (subst (λ f. reads_last (Some f) (world (g ++ r) false) ≡ false) e more)) (sym (ap (λ f. done (Some f) (g ++ r) false) e) ∙ h))
      go (IsCharacter e) = subst (λ f. Same (Some f) g r m' out') (sym e) (character_same g r m' out' (sym (ap (λ f. done (Some f) (g ++ r) false) e) ∙ h))
      go (IsOther e other) = other_same f e g r m' out' h

-- ---- a step

module _ (g r out out' : Text) (m' : Memory) where
  -- what follows from one step with an ended input, for every other rest of the input
  pub record Anywhere (at : Text → Bool → Outcome) (needs : Text → Bool → ℕ) : Type 0 where
    pub next : (R : Text) (e : Bool) → at (g ++ R) e ≡ Next (standing m' R e out')
    pub same_need : (R : Text) (e : Bool) → needs (g ++ R) e ≡ needs (g ++ r) false

  end_anywhere : (calls : List OpenCall) (m : Memory) (rest : Text) → end_reads_last calls (world_of (standing m (g ++ r) false out)) ≡ false → end_call calls (with_active rest (standing m (g ++ r) false out)) ≡ Next (standing m' r false out') → Anywhere (λ text e. end_call calls (with_active rest (standing m text e out))) (λ text e. end_need calls (standing m text e out))
  unfolding done world
  end_anywhere [] m rest more h = record { next = untouched (record m { active = rest }) out m' g r out' h; same_need = λ R e. refl }
  end_anywhere (call ∷ outer) m rest more h =
      let s = call_same call.mode (arguments call) (record m { active = rest; calls = outer }) out (function_of call) g r m' out' more h in
      record { next = s.next; same_need = λ R e. ap (λ n. size m - 1 + n) (s.builds R e) }

  follow_anywhere : (ru : Rule) (m : Memory) → reads_last_by ru (standing m (g ++ r) false out) ≡ false → follow ru (standing m (g ++ r) false out) ≡ Next (standing m' r false out') → Anywhere (λ text e. follow ru (standing m text e out)) (λ text e. need_by ru (standing m text e out))
  follow_anywhere (EndCall rest) m more h = end_anywhere m.calls m rest more h
  follow_anywhere ru m more h = record { next = untouched _ out m' g r out' h; same_need = λ R e. refl }

  -- a step that takes g and leaves r, of an input that ends, does the same with any other rest, ended or failing
  pub step_anywhere : (m : Memory) → reads_to_end (standing m (g ++ r) false out) ≡ false → step (standing m (g ++ r) false out) ≡ Next (standing m' r false out') → (R : Text) (e : Bool) → (step (standing m (g ++ R) e out) ≡ Next (standing m' R e out')) × (need (standing m (g ++ R) e out) ≡ need (standing m (g ++ r) false out))
  unfolding step need
  step_anywhere m more h R e = let all = follow_anywhere (rule m.active) m more h in (all.next R e, all.same_need R e)
