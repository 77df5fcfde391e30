-- Rows of steps that a machine makes at once, seen step by step.
use Rattle.std.proofs.Common.{◌≡◌, ◌∙◌, ◌+◌, ◌-◌, ◌<◌, ◌≤◌, ◌==◌, ⊎_elim, ◌⊎◌, inl, inr, ℕ, zero, suc, Bool, true, false, List, [], ◌∷◌, ◌++◌, Option, None, Some, ap, arith, drop, take, if◌then◌else◌, length, refl, subst, sym, bytes_eq, codes}
use Rattle.std.proofs.lemmas.Bool.{cases_lt}
use Rattle.std.proofs.lemmas.List.{length-append, length-drop, length-map}
use Rattle.std.proofs.Math.Seq.{drop-append-add}
use Rattle.trac_laws.proofs.Parentheses.{found_protected}
use Rattle.trac_language.specs.declared.fate.Fate.{Fate}
use Rattle.trac_language.specs.declared.fate.Fate.TheVariants.{Halted, InputEnded, Workspace, Steps, InputFailed, OutputFailed}
use Rattle.trac_language.specs.declared.mode.Mode.TheVariants.{Active, Neutral as NeutralMode}
use Rattle.trac_language.specs.Text.{Text}
use Rattle.trac_language.specs.Store.{cells}
use Rattle.trac_language.specs.State.{Memory, OpenCall, State, add, add_to, begin_argument, begin_call, size}
use Rattle.trac_language.specs.Protected.{protected}
use Rattle.trac_language.specs.Rule.{Rule, LoadIdling, DeleteLayout, AddProtected, ClearActive, BeginArgument, BeginCall, EndCall, AddCharacter, is_layout, number_sign_rule, parenthesis_rule, rule}
use Rattle.trac_language.specs.Step.{Outcome, Next, Over, follow, need, need_by, step}
use Rattle.trac_space.specs.declared.cell.Cell.{Cell}
use Rattle.trac_space.specs.declared.cell.Cell.TheVariants.{Byte, Call, Comma}
use Rattle.trac_space.specs.Texts.{character_of, flat_text, text_of_cells}
use Rattle.trac_devices.specs.Devices.{Stream}
use Rattle.trac_forms.specs.Contents.{Contents}
use Rattle.trac_functions.specs.Flat.{Neutral, memory_of, memory_with, neutral_of, no_neutral, with_cell, with_cells, with_character, with_comma}
use Rattle.trac_functions.proofs.FlatLemmas.{neutral_of-push, size-used, text_of-flat, with_cells-append, with_cells-text}
use Rattle.trac_core.specs.Advancing.{Advanced, EndsAlone, GoesAlone, NeedsMore, StepsAlone, StopsAlone}
use Rattle.trac_core.specs.Machine.{GoesOn, KeepsLimits, MachineState, moment, state_of}
use Rattle.trac_core.specs.OpenCalls.{call_performed_by}
use Rattle.trac_core.specs.Performed.{needs_device_by}
use Rattle.trac_core.specs.declared.rules.ScanningRule.TheVariants as row
use Rattle.trac_core.proofs.Advancing.{uncalled-unasked}
use Rattle.trac_core.specs.View.{neutral_in, row_of, taken as taken_by, taken_in_row}
use Rattle.trac_core.proofs.RuleRows.{taken-within}
use Rattle.trac_warnings.specs.Rows.{IsQuietRow, is_quiet, text_after, text_left}
use Rattle.trac_warnings.specs.declared.watch.OpenString.{OpenString}

-- ---- a quiet step of the definition

-- what a rule leaves of the active string
abbrev rest_of : Rule → Text
rest_of (DeleteLayout rest) = rest
rest_of (AddProtected inside rest) = rest
rest_of (BeginArgument rest) = rest
rest_of (BeginCall mode rest) = rest
rest_of (EndCall rest) = rest
rest_of (AddCharacter c rest) = rest
rest_of _ = []

-- the memory after a quiet step
abbrev passed_by : Rule → Memory → Memory
passed_by (DeleteLayout rest) m = record m { active = rest }
passed_by (AddProtected inside rest) m = add inside (record m { active = rest })
passed_by (BeginArgument rest) m = record m { active = rest; calls = begin_argument m.calls }
passed_by (BeginCall mode rest) m = record m { active = rest; calls = begin_call mode m.calls }
passed_by (AddCharacter c rest) m = add (c ∷ []) (record m { active = rest })
passed_by _ m = m

quiet-follows : (r : Rule) (s : State) → is_quiet r ≡ true → follow r s ≡ Next (record s { memory = passed_by r s.memory })
quiet-follows LoadIdling s e = absurd cc
quiet-follows (DeleteLayout rest) s e = refl
quiet-follows (AddProtected inside rest) s e = refl
quiet-follows ClearActive s e = absurd cc
quiet-follows (BeginArgument rest) s e = refl
quiet-follows (BeginCall mode rest) s e = refl
quiet-follows (EndCall rest) s e = absurd cc
quiet-follows (AddCharacter c rest) s e = refl

quiet-step : (s : State) → is_quiet (rule s.memory.active) ≡ true → step s ≡ Next (record s { memory = passed_by (rule s.memory.active) s.memory })
unfolding step
quiet-step s e = quiet-follows (rule s.memory.active) s e

need-by-quiet : (r : Rule) (s : State) → is_quiet r ≡ true → need_by r s ≡ size s.memory
need-by-quiet LoadIdling s e = absurd cc
need-by-quiet (DeleteLayout rest) s e = refl
need-by-quiet (AddProtected inside rest) s e = refl
need-by-quiet ClearActive s e = absurd cc
need-by-quiet (BeginArgument rest) s e = refl
need-by-quiet (BeginCall mode rest) s e = refl
need-by-quiet (EndCall rest) s e = absurd cc
need-by-quiet (AddCharacter c rest) s e = refl

quiet-need : (s : State) → is_quiet (rule s.memory.active) ≡ true → need s ≡ size s.memory
unfolding need
quiet-need s e = need-by-quiet (rule s.memory.active) s e

-- a quiet step performs no call
quiet-performs : (r : Rule) (calls : List OpenCall) → is_quiet r ≡ true → (needs_device_by r calls ≡ false) × (call_performed_by r calls ≡ None)
quiet-performs LoadIdling calls e = absurd cc
quiet-performs (DeleteLayout rest) calls e = (refl, refl)
quiet-performs (AddProtected inside rest) calls e = (refl, refl)
quiet-performs ClearActive calls e = absurd cc
quiet-performs (BeginArgument rest) calls e = (refl, refl)
quiet-performs (BeginCall mode rest) calls e = (refl, refl)
quiet-performs (EndCall rest) calls e = absurd cc
quiet-performs (AddCharacter c rest) calls e = (refl, refl)

-- ---- the active string

one-taken : (b : Bool) → taken_in_row (if b then row.NumberSign else row.Character) ≡ 1
one-taken true = refl
one-taken false = refl

sign-left : (active neutral : Bool) (c : ℕ) (rest : Text) → let r = if active then BeginCall Active (drop 1 rest) else (if neutral then BeginCall NeutralMode (drop 2 rest) else AddCharacter 35 rest) in rest_of r ≡ drop (taken_by r (length (c ∷ rest))) (c ∷ rest)
sign-left true neutral c rest = refl
sign-left false true c rest = refl
sign-left false false c rest = refl

-- what stands behind a protected text and its parentheses
text-left : (c : ℕ) (text inside rest : Text) → protected text ≡ Some (inside, rest) → (rest ≡ drop (length inside + 2) (c ∷ text)) × (length inside + 2 ≤ length (c ∷ text))
text-left c text inside rest found =
    let behind : text ≡ inside ++ 41 ∷ rest = ap (drop 1) (found_protected text inside rest found).stands in
    let more : length inside + 2 ≡ suc (length inside + 1) = omega arith in (
      sym (drop-append-add inside (41 ∷ rest) 1) ∙ ap (drop (length inside + 1)) (sym behind) ∙ ap (λ n. drop n (c ∷ text)) (sym more),
      omega (arith, ap (λ t. length t) behind, length-append inside (41 ∷ rest)),
    )

other-left : (layout opens comma sign close : Bool) (c : ℕ) (rest : Text) (o : Option (Text × Text)) → protected rest ≡ o → let r = if layout then DeleteLayout rest else (if opens then parenthesis_rule o else (if comma then BeginArgument rest else (if sign then number_sign_rule rest else (if close then EndCall rest else AddCharacter c rest)))) in
    is_quiet r ≡ true → rest_of r ≡ drop (taken_by r (length (c ∷ rest))) (c ∷ rest)
other-left true opens comma sign close c rest o found e = refl
other-left false true comma sign close c rest None found e = absurd cc
other-left false true comma sign close c rest (Some parts) found e = (text-left c rest parts.0 parts.1 found).0
other-left false false true sign close c rest o found e = refl
other-left false false false true close c rest o found e =
    sign-left (bytes_eq (take 1 rest) (codes "(")) (bytes_eq (take 2 rest) (codes "#(")) c rest
other-left false false false false true c rest o found e = absurd cc
other-left false false false false false c rest o found e = ap (λ n. drop n (c ∷ rest)) (sym (one-taken (c == 35)))

rest-left : (text : Text) → is_quiet (rule text) ≡ true → rest_of (rule text) ≡ text_left text
unfolding rule
rest-left [] e = refl
rest-left (c ∷ rest) e = other-left (is_layout c) (c == 40) (c == 44) (c == 35) (c == 41) c rest (protected rest) refl e

add-active : (calls : List OpenCall) (text : Text) (m : Memory) → (add_to calls text m).active ≡ m.active
add-active [] text m = refl
add-active (call ∷ outer) text m = refl

add-forms : (calls : List OpenCall) (text : Text) (m : Memory) → (add_to calls text m).forms ≡ m.forms
add-forms [] text m = refl
add-forms (call ∷ outer) text m = refl

passed-active : (r : Rule) (m : Memory) → is_quiet r ≡ true → (passed_by r m).active ≡ rest_of r
passed-active LoadIdling m e = absurd cc
passed-active (DeleteLayout rest) m e = refl
passed-active (AddProtected inside rest) m e = add-active m.calls inside (record m { active = rest })
passed-active ClearActive m e = absurd cc
passed-active (BeginArgument rest) m e = refl
passed-active (BeginCall mode rest) m e = refl
passed-active (EndCall rest) m e = absurd cc
passed-active (AddCharacter c rest) m e = add-active m.calls (c ∷ []) (record m { active = rest })

passed-forms : (r : Rule) (m : Memory) → (passed_by r m).forms ≡ m.forms
passed-forms LoadIdling m = refl
passed-forms (DeleteLayout rest) m = refl
passed-forms (AddProtected inside rest) m = add-forms m.calls inside (record m { active = rest })
passed-forms ClearActive m = refl
passed-forms (BeginArgument rest) m = refl
passed-forms (BeginCall mode rest) m = refl
passed-forms (EndCall rest) m = refl
passed-forms (AddCharacter c rest) m = add-forms m.calls (c ∷ []) (record m { active = rest })

quiet-active : (m : Memory) → is_quiet (rule m.active) ≡ true → (passed_by (rule m.active) m).active ≡ text_left m.active
quiet-active m e = passed-active (rule m.active) m e ∙ rest-left m.active e

some-taken : (r : Rule) (n : ℕ) → is_quiet r ≡ true → 0 < taken_by r n
some-taken LoadIdling n e = absurd cc
some-taken (DeleteLayout rest) n e = omega arith
some-taken (AddProtected inside rest) n e = omega arith
some-taken ClearActive n e = absurd cc
some-taken (BeginArgument rest) n e = omega arith
some-taken (BeginCall Active rest) n e = omega arith
some-taken (BeginCall NeutralMode rest) n e = omega arith
some-taken (EndCall rest) n e = absurd cc
some-taken (AddCharacter c rest) n e = omega (arith, one-taken (c == 35))

-- a rule takes as many characters as its row says, or a protected text
in-row : (r : Rule) (n : ℕ) → is_quiet r ≡ true → (taken_by r n ≡ taken_in_row (row_of r)) ⊎ ((inside : Text) × ((rest : Text) × (r ≡ AddProtected inside rest)))
in-row LoadIdling n e = absurd cc
in-row (DeleteLayout rest) n e = inl refl
in-row (AddProtected inside rest) n e = inr (inside, (rest, refl))
in-row ClearActive n e = absurd cc
in-row (BeginArgument rest) n e = inl refl
in-row (BeginCall Active rest) n e = inl refl
in-row (BeginCall NeutralMode rest) n e = inl refl
in-row (EndCall rest) n e = absurd cc
in-row (AddCharacter c rest) n e = inl refl

-- how much a rule protects
abbrev inside_of : Rule → Text
inside_of (AddProtected inside rest) = inside
inside_of _ = []

no-text : (active neutral : Bool) (text inside rest : Text) → (if active then BeginCall Active (drop 1 text) else (if neutral then BeginCall NeutralMode (drop 2 text) else AddCharacter 35 text)) ≡ AddProtected inside rest → ⊥
no-text true neutral text inside rest e = cc
no-text false true text inside rest e = cc
no-text false false text inside rest e = cc

other-text : (layout opens comma sign close : Bool) (c : ℕ) (text inside rest : Text) (o : Option (Text × Text)) → protected text ≡ o
    → (if layout then DeleteLayout text else (if opens then parenthesis_rule o else (if comma then BeginArgument text else (if sign then number_sign_rule text else (if close then EndCall text else AddCharacter c text))))) ≡ AddProtected inside rest
    → length inside + 2 ≤ length (c ∷ text)
other-text true opens comma sign close c text inside rest o found e = absurd cc
other-text false true comma sign close c text inside rest None found e = absurd cc
other-text false true comma sign close c text inside rest (Some parts) found e =
    let same : parts.0 ≡ inside = ap inside_of e in
    omega (arith, ap (λ t. length t) same, (text-left c text parts.0 parts.1 found).1)
other-text false false true sign close c text inside rest o found e = absurd cc
other-text false false false true close c text inside rest o found e =
    absurd (no-text (bytes_eq (take 1 text) (codes "(")) (bytes_eq (take 2 text) (codes "#(")) text inside rest e)
other-text false false false false true c text inside rest o found e = absurd cc
other-text false false false false false c text inside rest o found e = absurd cc

text-within : (text inside rest : Text) → rule text ≡ AddProtected inside rest → length inside + 2 ≤ length text
unfolding rule
text-within [] inside rest e = absurd cc
text-within (c ∷ text) inside rest e = other-text (is_layout c) (c == 40) (c == 44) (c == 35) (c == 41) c text inside rest (protected text) refl e

-- a quiet step takes some characters, and no more than there are
pub quiet-taken : (text : Text) → is_quiet (rule text) ≡ true → (0 < taken_by (rule text) (length text)) × ((taken_by (rule text) (length text) ≤ length text) × (length (text_left text) ≡ length text - taken_by (rule text) (length text)))
quiet-taken text e =
    let n = length text in
    let within : taken_by (rule text) n ≤ n =
    ⊎_elim (λ row. omega (arith, row, taken-within text))
    (λ p. omega (arith, ap (λ r. taken_by r n) p.1.1, text-within text p.0 p.1.0 p.1.1)) (in-row (rule text) n e) in
    (some-taken (rule text) n e, (within, length-drop (taken_by (rule text) n) text))

-- ---- the neutral string

-- the neutral string of a memory has these cells
pub record Held (m : Memory) : Type 0 where
  pub cells : List Cell
  pub neutral : neutral_of cells ≡ neutral_in m

-- cells of the neutral string after a step, at most so many more
record HeldMore (cells : List Cell) (m : Memory) (more : ℕ) : Type 0 where
  pub held : Held m
  pub few : length held.cells ≤ length cells + more

add-neutral : (calls : List OpenCall) (c : ℕ) (rest : Text) (m : Memory) → with_character calls c (neutral_in m) ≡ neutral_in (add_to calls (c ∷ []) (record m { active = rest }))
add-neutral [] c rest m = refl
add-neutral (call ∷ outer) c rest m = refl

begin-neutral : (calls : List OpenCall) (rest : Text) (m : Memory) (held : Held m) → m.calls ≡ calls → HeldMore held.cells (record m { active = rest; calls = begin_argument m.calls }) 1
begin-neutral [] rest m held e =
    record {
      held =
          record {
            cells = held.cells;
            neutral = held.neutral ∙ ap (λ (c : List OpenCall). record { base = m.base; calls = c }) e ∙ sym (ap (λ c. record { base = m.base; calls = begin_argument c }) e);
          };
      few = omega arith;
    }
begin-neutral (call ∷ outer) rest m held e =
    record {
      held =
          record {
            cells = held.cells ++ Comma ∷ [];
            neutral = neutral_of-push held.cells Comma ∙ ap (λ n. with_cell n Comma) held.neutral
                ∙ ap (λ c. with_comma c (neutral_in m)) e ∙ sym (ap (λ c. record { base = m.base; calls = begin_argument c }) e);
          };
      few = omega (arith, length-append held.cells (Comma ∷ []));
    }

passed-held : (r : Rule) (m : Memory) (held : Held m) → HeldMore held.cells (passed_by r m) (1 + length (inside_of r))
passed-held LoadIdling m held = record { held = held; few = omega arith }
passed-held (DeleteLayout rest) m held = record { held = record { cells = held.cells; neutral = held.neutral }; few = omega arith }
passed-held (AddProtected inside rest) m held =
    record {
      held =
          record {
            cells = held.cells ++ flat_text inside;
            neutral = with_cells-append no_neutral held.cells (flat_text inside) ∙ ap (λ n. with_cells n (flat_text inside)) held.neutral
                ∙ ap neutral_in (with_cells-text inside (neutral_in m) rest m.forms m.meta);
          };
      few = omega (arith, length-append held.cells (flat_text inside), length-map inside Byte);
    }
passed-held ClearActive m held = record { held = held; few = omega arith }
passed-held (BeginArgument rest) m held = begin-neutral m.calls rest m held refl
passed-held (BeginCall mode rest) m held =
    record {
      held =
          record {
            cells = held.cells ++ Call mode 0 ∷ [];
            neutral = neutral_of-push held.cells (Call mode 0) ∙ ap (λ n. with_cell n (Call mode 0)) held.neutral;
          };
      few = omega (arith, length-append held.cells (Call mode 0 ∷ []));
    }
passed-held (EndCall rest) m held = record { held = held; few = omega arith }
passed-held (AddCharacter c rest) m held =
    record {
      held =
          record {
            cells = held.cells ++ Byte c ∷ [];
            neutral = neutral_of-push held.cells (Byte c) ∙ ap (λ n. with_cell n (Byte c)) held.neutral ∙ add-neutral m.calls c rest m;
          };
      few = omega (arith, length-append held.cells (Byte c ∷ []));
    }

-- the size of a memory, by the cells of its neutral string
held-size : (m : Memory) (held : Held m) → size m ≡ length m.active + length held.cells + cells m.forms
held-size m held =
    let w : Contents = record { forms = m.forms; neutral = held.cells; active = flat_text m.active; room = 0 } in
    let text = text_of-flat m.active in
    let same : memory_of m.meta w ≡ m = ap (λ (n : Neutral). memory_with n (text_of_cells (flat_text m.active)) m.forms m.meta) held.neutral ∙ ap (λ t. memory_with (neutral_in m) t m.forms m.meta) text in
    let len : length (flat_text m.active) ≡ length m.active = sym (length-map (flat_text m.active) character_of) ∙ ap (λ t. length t) text in
    sym (ap size same) ∙ size-used m.meta w ∙ omega (arith, len)

-- ---- the machine

abbrev memory-in : Memory → Outcome → Memory
memory-in m (Next s) = s.memory
memory-in m (Over fate) = m

-- the memory after a quiet step
goes-memory : (m next : MachineState) (source : Stream) (written : Text) → GoesOn (moment m source written) (moment next source written) → is_quiet (rule m.memory.active) ≡ true → next.memory ≡ passed_by (rule m.memory.active) m.memory
goes-memory m next source written goes_on e =
    sym (ap (memory-in m.memory) goes_on.goes) ∙ ap (memory-in m.memory) (quiet-step (state_of (moment m source written)) e)

-- what a quiet rule protects is less than what it takes
protects-less : (r : Rule) (n : ℕ) → is_quiet r ≡ true → 1 + length (inside_of r) ≤ taken_by r n
protects-less LoadIdling n e = absurd cc
protects-less (DeleteLayout rest) n e = omega arith
protects-less (AddProtected inside rest) n e = omega arith
protects-less ClearActive n e = absurd cc
protects-less (BeginArgument rest) n e = omega arith
protects-less (BeginCall Active rest) n e = omega arith
protects-less (BeginCall NeutralMode rest) n e = omega arith
protects-less (EndCall rest) n e = absurd cc
protects-less (AddCharacter c rest) n e = omega (arith, one-taken (c == 35))

-- a machine `m` after n quiet steps from `old`
pub record Along (old : MachineState) (n : ℕ) (m : MachineState) : Type 0 where
  pub active : m.memory.active ≡ text_after n old.memory.active
  pub held : Held m.memory
  pub steps : m.steps ≡ old.steps + n
  pub allowance : m.allowance ≡ old.allowance
  pub room : m.room ≡ old.room
  pub fits : size m.memory ≤ m.room
  pub going : m.fate ≡ None

no-source : Stream
no-source = record { bytes = []; ended = true }

along-more : (old : MachineState) (n : ℕ) (m next : MachineState) → Along old n m → StepsAlone m next → is_quiet (rule (text_after n old.memory.active)) ≡ true → Along old (suc n) next
along-more old n m next so step quiet =
    let goes_on = step.goes no-source [] in
    let here : is_quiet (rule m.memory.active) ≡ true = ap (λ t. is_quiet (rule t)) so.active ∙ quiet in
    let memory = goes-memory m next no-source [] goes_on here in
    let passed = passed_by (rule m.memory.active) m.memory in
    let more = passed-held (rule m.memory.active) m.memory so.held in
    let active = quiet-active m.memory here in
    let took = quiet-taken m.memory.active here in
    let smaller : size passed ≤ size m.memory =
    omega (arith, held-size passed more.held, held-size m.memory so.held, more.few, protects-less (rule m.memory.active) (length m.memory.active) here, ap (λ t. length t) active, took.0, took.1.0, took.1.1, ap cells (passed-forms (rule m.memory.active) m.memory)) in
    record {
      active = ap (λ (m : Memory). m.active) memory ∙ active ∙ ap text_left so.active;
      held = record { cells = more.held.cells; neutral = more.held.neutral ∙ sym (ap neutral_in memory) };
      steps = goes_on.counts.steps ∙ omega (arith, so.steps);
      allowance = step.settings.allowance ∙ so.allowance;
      room = step.settings.room ∙ so.room;
      fits = omega (arith, ap size memory, smaller, so.fits, step.settings.room);
      going = step.going;
    }

pub along : (old : MachineState) (strings : List OpenString) (n : ℕ) (m : MachineState) → GoesAlone n old m → IsQuietRow n old.memory.active strings → Along old 0 old → Along old n m
along old strings zero m same quiet so = subst (Along old 0) (sym same) so
along old strings (suc n) m goes quiet so =
    along-more old n goes.0 m (along old strings n goes.0 goes.1.0 (λ k less. quiet k (omega arith)) so) goes.1.1 (quiet n (omega arith)).quiet

pub along-none : (old : MachineState) (held : Held old.memory) → old.fate ≡ None → KeepsLimits old → Along old 0 old
along-none old held going limits =
    let same : old.steps ≡ old.steps + 0 = omega arith in
    record { active = refl; held = held; steps = same; allowance = refl; room = refl; fits = limits.cells; going = going }

-- a quiet step that is allowed ends no run
quiet-goes-on : (m new : MachineState) (fate : Fate) → is_quiet (rule m.memory.active) ≡ true → m.steps < m.allowance → size m.memory ≤ m.room → EndsAlone m fate new → ⊥
quiet-goes-on m new Halted quiet allowed fits ends = let e = sym (quiet-step (state_of (moment m no-source [])) quiet) ∙ (ends.ends no-source []).ends in cc
quiet-goes-on m new InputEnded quiet allowed fits ends = let e = sym (quiet-step (state_of (moment m no-source [])) quiet) ∙ (ends.ends no-source []).ends in cc
quiet-goes-on m new Workspace quiet allowed fits ends = absurd (omega (arith, (ends.ends no-source []).full, quiet-need (state_of (moment m no-source [])) quiet))
quiet-goes-on m new Steps quiet allowed fits ends = ends.none_failed.2 refl
quiet-goes-on m new InputFailed quiet allowed fits ends = ends.none_failed.0 refl
quiet-goes-on m new OutputFailed quiet allowed fits ends = ends.none_failed.1 refl

-- nor does it need more
quiet-needs : (m : MachineState) → is_quiet (rule m.memory.active) ≡ true → m.steps < m.allowance → NeedsMore m → ⊥
quiet-needs m quiet allowed needs =
    let none = quiet-performs (rule m.memory.active) m.memory.calls quiet in
    ⊎_elim (λ used_up. absurd (omega (arith, used_up, allowed)))
    (⊎_elim (λ device. absurd (let e = sym none.0 ∙ device in cc)) (λ asks. absurd (let e = sym (uncalled-unasked m.stops m.memory none.1) ∙ asks in cc))) needs

-- as many quiet steps are made as are wanted and allowed
pub all-made : (strings : List OpenString) (most done : ℕ) (old new : MachineState) → Advanced most done old new → done ≤ most → IsQuietRow most old.memory.active strings → Along old 0 old → old.steps + most ≤ old.allowance → GoesAlone most old new
all-made strings most done old new advanced few quiet so allowed =
    let before = advanced.0 in
    let goes = advanced.1.0 in
    let here = along old strings done before goes (λ k less. quiet k (omega arith)) so in
    ⊎_elim (λ less. absurd (stopped new.fate advanced.1.1 less here (ap (λ t. is_quiet (rule t)) here.active ∙ (quiet done less).quiet)))
    (λ all. ended new.fate advanced.1.1 goes (omega arith)) (cases_lt done most)
  where
    stopped : (fate : Option Fate) → StopsAlone most done advanced.0 fate new → done < most → Along old done advanced.0 → is_quiet (rule advanced.0.memory.active) ≡ true → ⊥
    stopped None stops less here quiet = ⊎_elim (λ all. absurd (omega (arith, all))) (quiet-needs advanced.0 quiet (omega (arith, here.steps, here.allowance))) stops.1
    stopped (Some fate) stops less here quiet = quiet-goes-on advanced.0 new fate quiet (omega (arith, here.steps, here.allowance)) here.fits stops.1

    ended : (fate : Option Fate) → StopsAlone most done advanced.0 fate new → GoesAlone done old advanced.0 → done ≡ most → GoesAlone most old new
    ended None stops goes all = subst (λ n. GoesAlone n old new) all (subst (GoesAlone done old) (sym stops.0) goes)
    ended (Some fate) stops goes all = absurd (omega (arith, stops.0, all))
