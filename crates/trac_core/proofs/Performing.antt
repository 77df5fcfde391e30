-- A call that is performed, over the contents of a workspace.
use Rattle.trac_core.proofs.Imports.{take-take, if◌then◌else◌, failing_state_of, StopsAtInput, StopsAtOutput, ◌≡◌, ◌≢◌, ℕ, ◌+◌, ◌-◌, ◌<◌, ◌≤◌, max, Bool, true, false, not, ◌&&◌, ◌||◌, List, [], ◌∷◌, ◌++◌, length, take, drop, All, Option, Some, None, refl, sym, ap, ◌∙◌, subst, arith, append-nil, length-append, ◌==◌, slice_get, unwrap_or, nat_le, unwrap_or-slice_get, list_any, length-map, length-drop, get_or_append_left, drop-append_seam, take-append_seam, take-length, Mode, Active, Function, ReadString, ReadCharacter, ChangeMeta, PrintString, PrintForm, Halt, Fate, Workspace, Steps, InputFailed, OutputFailed, Text, Form, function_named, Input, State, argument, size, Answer, Meaning, Gives, Ends, World, meaning_of, meaning, built, deliver, perform, step, need, is_read_string, reads_last, reads_to_end, Cell, Byte, flat_text, text_of_cells, character_of, IsByte, IsLastCall, Contents, used, IsSound, Stream, Full, AtEnd, InFront, Unscanned, Null, Over, texts_of, no_neutral, neutral_of, memory_of, mode_of, mode_at, is_active_mode, arguments_at, texts_from, world, IsValue, IsHeld, IsPlaced, IsDefined, Makes, is_self_contained, performs, touches_device, calls_device, needs_device, MachineState, moment, ending, failing, state_with, state_of, failing_state_of, EndsRun, input_failures, output_failures, Scene, scene, IsCall, TriedCall, ClosesCall, function_at, delivered, value_delivered, settled, AnswersCall, IsValueFrom, Stands, fate_after, or_right, true≢false}
use Rattle.trac_language.specs.declared.mode.Mode.TheVariants.{Neutral as NeutralMode}
use Rattle.trac_laws.proofs.Rules.{rule_end}
use Rattle.trac_space.proofs.Texts.{text_of_cells-append}
use Rattle.trac_functions.specs.declared.arguments.CallResult.{CallResult}
use Rattle.trac_functions.proofs.FlatLemmas.{with_cells-append, with_cells-text, text_of-flat, neutral_of-innermost, opened, texts_of-some, grown-mode, arguments-call_at, size-used}
use Rattle.trac_functions.proofs.ArgumentLemmas.{bytes-flat, flat-bytes}

-- the contents without the innermost call
abbrev pub closed : Contents → ℕ → Contents
closed w place = record w { neutral = take place w.neutral }

-- a call that leaves with its value
pub memory-delivered : (mode : Mode) (forced : Bool) (value : Text) (place meta : ℕ) (w : Contents) → memory_of meta (delivered mode forced value place w) ≡ deliver mode forced value (memory_of meta (closed w place))
memory-delivered mode forced value place meta w = go mode forced
  where
    go : (mode : Mode) (forced : Bool) → memory_of meta (delivered mode forced value place w) ≡ deliver mode forced value (memory_of meta (closed w place))
    go Active forced = rw (text_of_cells-append (flat_text value) w.active, text_of-flat value) refl
    go NeutralMode true = rw (text_of_cells-append (flat_text value) w.active, text_of-flat value) refl
    go NeutralMode false = rw (with_cells-append no_neutral (take place w.neutral) (flat_text value)) (with_cells-text value (neutral_of (take place w.neutral)) (text_of_cells w.active) w.forms meta)

-- ---- the step that performs the call

module _ (old w : Contents) (place : ℕ) (p : ClosesCall old w place) (f : Option Function) (names : function_named (argument (arguments_at w.neutral place) 0) ≡ f) where
  pub step-performs : (meta : ℕ) (input : Input) (output : Text) → step (state_with (memory_of meta old) input output) ≡ perform (mode_at w.neutral place) (meaning f (arguments_at w.neutral place) (world w.forms meta input)) (state_with (memory_of meta (closed w place)) input output)
  unfolding step
  step-performs meta input output =
      rw (p.same, rule_end (text_of_cells w.active), neutral_of-innermost w.neutral place p.innermost, grown-mode (opened (mode_at w.neutral place)) (drop (place + 1) w.neutral), arguments-call_at w.neutral place p.innermost, names) refl

  pub need-performs : (meta : ℕ) (input : Input) (output : Text) → need (state_with (memory_of meta old) input output) ≡ used w + built f (arguments_at w.neutral place) (world w.forms meta input)
  unfolding need
  need-performs meta input output =
      let cells = rw (neutral_of-innermost w.neutral place p.innermost) at (size-used meta (record w { active = Byte 41 ∷ w.active })) in
      rw (p.same, rule_end (text_of_cells w.active), neutral_of-innermost w.neutral place p.innermost, arguments-call_at w.neutral place p.innermost, names) (omega arith)

  pub performs-call : (meta : ℕ) → performs (memory_of meta old) ≡ f
  performs-call meta =
      rw (p.same, rule_end (text_of_cells w.active), neutral_of-innermost w.neutral place p.innermost, arguments-call_at w.neutral place p.innermost) names

  pub needs-call : (meta : ℕ) → needs_device (memory_of meta old) ≡ calls_device (function_at w.neutral place) (arguments_at w.neutral place)
  needs-call meta =
      rw (p.same, rule_end (text_of_cells w.active), neutral_of-innermost w.neutral place p.innermost, arguments-call_at w.neutral place p.innermost) refl

  pub reads-call : (meta : ℕ) (input : Input) (output : Text) → reads_to_end (state_with (memory_of meta old) input output) ≡ reads_last f (world w.forms meta input)
  reads-call meta input output =
      rw (p.same, rule_end (text_of_cells w.active), neutral_of-innermost w.neutral place p.innermost, arguments-call_at w.neutral place p.innermost, names) refl

-- ---- what a machine is told

-- the world in which a call of a scene is performed over an input
abbrev pub world_in : Scene → Input → World
world_in s input = world s.contents.forms s.meta input

room-performs : (old w : Contents) (place : ℕ) → ClosesCall old w place → old.room ≡ w.room
room-performs old w place p = ap (λ (w : Contents). w.room) p.same

-- with a null value the call only leaves
pub delivered-null : (mode : Mode) (place : ℕ) (w : Contents) → delivered mode false [] place w ≡ closed w place
delivered-null Active place w = refl
delivered-null NeutralMode place w = ap (λ n. record w { neutral = n }) (append-nil (take place w.neutral))

module _ (place : ℕ) (f : Option Function) where
  -- over an input the call of the scene `old` means this, and needs so many cells, which fit
  pub record Performs (old : Scene) (input : Input) (is : Meaning) (needed : ℕ) : Type 0 where
    pub names : function_at old.contents.neutral place ≡ f
    pub means : meaning f (arguments_at old.contents.neutral place) (world_in old input) ≡ is
    pub needs : needed ≡ used old.contents + built f (arguments_at old.contents.neutral place) (world_in old input)
    pub fits : needed ≤ old.contents.room

  -- its answer leads to the scene `new`
  pub record LeadsTo (old : Scene) (answer : Answer) (new : Scene) : Type 0 where
    pub stands : new.contents ≡ delivered (mode_at old.contents.neutral place) answer.forced answer.value place (record old.contents { forms = answer.world.forms })
    pub world : answer.world ≡ world answer.world.forms new.meta (ending new.source.bytes)
    pub prints : new.written ≡ old.written ++ answer.printed
    pub stays_ended : old.source.ended ≡ true → new.source.ended ≡ true
    pub read_all : reads_last f (world_in old (ending old.source.bytes)) ≡ true → new.source.ended ≡ true

  pub tried-answer : (old new : Scene) (answer : Answer) (needed : ℕ) → Performs old (ending old.source.bytes) (Gives answer) needed → LeadsTo old answer new → TriedCall place old None needed new
  tried-answer old new answer needed h to = λ before p m room_is memory_is allowed.
      let w = old.contents in
      let input = ending old.source.bytes in
      let need_is : need (state_of (moment m old.source old.written)) ≡ needed = rw memory_is (need-performs before w place p f h.names old.meta input old.written ∙ sym h.needs) in
      let meta = ap (λ w. w.meta) to.world in
      let left = ap (λ w. w.input) to.world in
      let room = room-performs before w place p in
      record {
        may = record { allowed = allowed; fits = omega (arith, need_is, h.fits, room_is, room) };
        goes = rw (memory_is, step-performs before w place p f h.names old.meta input old.written, h.means, to.stands, to.prints, ← left, ← meta, memory-delivered (mode_at w.neutral place) answer.forced answer.value place answer.world.meta (record w { forms = answer.world.forms })) refl;
        counts = record { steps = refl; peak = ap (max m.peak) (sym need_is) };
        stays_ended = to.stays_ended;
        read_all = λ reads. to.read_all (sym (reads-call before w place p f h.names old.meta input old.written) ∙ rw memory_is at reads);
      }

  -- the call needs more than the room
  pub tried-full : (old : Scene) (new : Contents) (left : Stream) (needed : ℕ) → function_at old.contents.neutral place ≡ f → old.contents.room < used old.contents + built f (arguments_at old.contents.neutral place) (world_in old (ending old.source.bytes)) → TriedCall place old (Some Workspace) needed (record old { contents = new; source = left })
  tried-full old new left needed names full = λ before p m room_is memory_is allowed.
      let need_is = need-performs before old.contents place p f names old.meta (ending old.source.bytes) old.written in
      let room = room-performs before old.contents place p in
      record { allowed = allowed; full = rw memory_is (omega arith); counts = record { steps = omega arith; peak = omega arith }; written = refl }

  -- the call is an end of the language that counts as a step
  pub tried-end : (fate : Fate) (old : Scene) (left : Stream) (needed : ℕ) → Performs old (ending old.source.bytes) (Ends fate) needed → left.bytes ≡ old.source.bytes → (before : Contents) → ClosesCall before old.contents place → (m : MachineState) → m.room ≡ before.room → m.memory ≡ memory_of old.meta before → m.steps < m.allowance → (new : MachineState) → new.steps ≡ m.steps + 1 → new.peak ≡ max m.peak needed → EndsRun fate (moment m old.source old.written) (moment new left old.written)
  tried-end fate old left needed h same = λ before p m room_is memory_is allowed new steps_is peak_is.
      let input = ending old.source.bytes in
      let need_is : need (state_of (moment m old.source old.written)) ≡ needed = rw memory_is (need-performs before old.contents place p f h.names old.meta input old.written ∙ sym h.needs) in
      let room = room-performs before old.contents place p in
      record {
        may = record { allowed = allowed; fits = omega (arith, need_is, h.fits, room_is, room) };
        ends = rw (memory_is, step-performs before old.contents place p f h.names old.meta input old.written, h.means) refl;
        counts = record { steps = steps_is; peak = peak_is ∙ ap (max m.peak) (sym need_is) };
        source = same;
        written = refl;
      }

  -- the source failed after it gave some bytes
  pub tried-failed : (old : Scene) (new : Contents) (left : Stream) (given : Text) (needed : ℕ) → Performs old (failing given) (Ends InputFailed) needed → old.source.bytes ≡ given ++ left.bytes → old.source.ended ≡ false → TriedCall place old (Some InputFailed) needed (record old { contents = new; source = left })
  tried-failed old new left given needed h gave open_still = λ before p m room_is memory_is allowed.
      let need_is : need (failing_state_of (moment m old.source old.written) given) ≡ needed = rw memory_is (need-performs before old.contents place p f h.names old.meta (failing given) old.written ∙ sym h.needs) in
      let room = room-performs before old.contents place p in
      let stops : StopsAtInput (moment m old.source old.written) _ given = record {
        consumed = gave;
        not_ended = open_still;
        may = record { allowed = allowed; fits = omega (arith, need_is, h.fits, room_is, room) };
        ends = rw (memory_is, step-performs before old.contents place p f h.names old.meta (failing given) old.written, h.means) refl;
        counts = record { steps = omega arith; peak = ap (max m.peak) (sym need_is) };
        written = refl;
      } in
      (given, stops)

  -- the sink failed
  pub tried-broken : (old : Scene) (put rest : Text) (needed : ℕ) (answer : Answer) → Performs old (ending old.source.bytes) (Gives answer) needed → answer.printed ≡ put ++ rest → put ++ rest ≢ [] → TriedCall place old (Some OutputFailed) needed (record old { written = old.written ++ put })
  tried-broken old put rest needed answer h prints some = λ before p m room_is memory_is allowed.
      let w = old.contents in
      let input = ending old.source.bytes in
      let need_is : need (state_of (moment m old.source old.written)) ≡ needed = rw memory_is (need-performs before w place p f h.names old.meta input old.written ∙ sym h.needs) in
      let room = room-performs before w place p in
      let after = memory_of old.meta (closed w place) in
      let next : State = record { memory = deliver (mode_at w.neutral place) answer.forced answer.value (record after { forms = answer.world.forms; meta = answer.world.meta }); input = answer.world.input; output = old.written ++ answer.printed } in
      let stops : StopsAtOutput (moment m old.source old.written) _ next put rest = record {
        may = record { allowed = allowed; fits = omega (arith, need_is, h.fits, room_is, room) };
        goes = rw (memory_is, step-performs before w place p f h.names old.meta input old.written, h.means) refl;
        prints = ap (λ t. old.written ++ t) prints;
        some = some;
        counts = record { steps = omega arith; peak = ap (max m.peak) (sym need_is) };
        written = refl;
      } in
      (next, (put, (rest, stops)))

  -- a call with a null value, which reads nothing
  pub tried-null : (old : Scene) (meta : ℕ) (put written : Text) → IsCall old.contents place f → meaning f (arguments_at old.contents.neutral place) (world_in old (ending old.source.bytes)) ≡ Gives (record { value = []; forced = false; world = world old.contents.forms meta (ending old.source.bytes); printed = put }) → 0 ≡ built f (arguments_at old.contents.neutral place) (world_in old (ending old.source.bytes)) → reads_last f (world_in old (ending old.source.bytes)) ≡ false → written ≡ old.written ++ put → TriedCall place old None (used old.contents + 0) (scene (closed old.contents place) meta old.source written)
  tried-null old meta put written call means none_built no_read prints =
      tried-answer old _ _ (used old.contents + 0)
      (record { names = call.names; means = means; needs = ap (λ n. used old.contents + n) none_built; fits = let fits = call.sound.fits in omega arith })
      (record { stands = sym (delivered-null (mode_at old.contents.neutral place) place old.contents); world = refl; prints = prints; stays_ended = λ e. e; read_all = λ reads. absurd (true≢false (sym reads ∙ no_read)) })

pub delivered-active : (mode : Mode) (forced : Bool) (value : Text) (place : ℕ) (w : Contents) → (forced || is_active_mode mode) ≡ true → delivered mode forced value place w ≡ record w { active = flat_text value ++ w.active; neutral = take place w.neutral }
delivered-active Active forced value place w h = refl
delivered-active NeutralMode true value place w h = refl
delivered-active NeutralMode false value place w h = absurd cc

pub delivered-neutral : (mode : Mode) (forced : Bool) (value : Text) (place : ℕ) (w : Contents) → (forced || is_active_mode mode) ≡ false → delivered mode forced value place w ≡ record w { neutral = take place w.neutral ++ flat_text value }
delivered-neutral NeutralMode false value place w h = refl
delivered-neutral NeutralMode true value place w h = absurd cc
delivered-neutral Active forced value place w h = absurd (true≢false (sym (or_right forced true refl) ∙ h))

-- a value that leaves the end of the neutral string with its call is delivered
pub moved-delivered : (mode : Mode) (scanned : Bool) (value : List Cell) (place from : ℕ) (w : Contents) → All IsByte value → place ≤ from → scanned ≡ is_active_mode mode → (if scanned then record w { active = value ++ w.active; neutral = take place w.neutral } else record w { neutral = take place w.neutral ++ value }) ≡ delivered mode false (text_of_cells value) place (record w { neutral = take from w.neutral })
moved-delivered mode true value place from w bytes order is =
    sym (rw (delivered-active mode false (text_of_cells value) place (record w { neutral = take from w.neutral }) (sym is), flat-bytes value bytes, take-take place from w.neutral order) refl)
moved-delivered mode false value place from w bytes order is =
    sym (rw (delivered-neutral mode false (text_of_cells value) place (record w { neutral = take from w.neutral }) (sym is), flat-bytes value bytes, take-take place from w.neutral order) refl)

-- the function's name and what follows it
pub whole-arguments : (neutral : List Cell) (place : ℕ) (rest : List Text) → rest ≡ drop 1 (arguments_at neutral place) → argument (arguments_at neutral place) 0 ∷ rest ≡ arguments_at neutral place
whole-arguments neutral place rest e = ap (λ l. argument (arguments_at neutral place) 0 ∷ l) e ∙ go (arguments_at neutral place) (texts_of-some (drop (place + 1) neutral))
  where
    go : (l : List Text) → 0 < length l → argument l 0 ∷ drop 1 l ≡ l
    go [] some = absurd (omega arith)
    go (t ∷ ts) some = refl

-- a plain function reads nothing
self_contained-reads : (f : Function) → is_self_contained f ≡ true → is_read_string f ≡ false
self_contained-reads ReadString h = absurd cc
self_contained-reads _ h = refl

-- a value that stands behind what was there is delivered
pub delivered-value : (w mid : Contents) (place : ℕ) (value : Text) (forms : List Form) → IsLastCall w.neutral place → mid ≡ record w { forms = forms; neutral = w.neutral ++ flat_text value } → value_delivered place (length w.neutral) mid ≡ delivered (mode_at w.neutral place) false value place (record w { forms = forms })
delivered-value w mid place value forms innermost stands =
    rw (stands, drop-append_seam w.neutral (flat_text value), text_of-flat value, take-append_seam w.neutral (flat_text value), get_or_append_left w.neutral (flat_text value) (Byte 0) place innermost.mark.0) refl

module _ (s : Scene) (mid : Contents) (place : ℕ) (f : Function) (rest : List Text) (scanned : Bool) (names : function_at s.contents.neutral place ≡ Some f) (innermost : IsLastCall s.contents.neutral place) (contained : is_self_contained f ≡ true) (rest_is : rest ≡ drop 1 (arguments_at s.contents.neutral place)) (mode_is : scanned ≡ is_active_mode (mode_at s.contents.neutral place)) where
  abbrev named_args : List Text
  named_args = argument (arguments_at s.contents.neutral place) 0 ∷ rest

  abbrev input : Input
  input = ending s.source.bytes

  -- a call with a value, by the arguments that follow its name
  value-tried : (new : Contents) (needed : ℕ) (value : Text) (forced : Bool) (forms : List Form) → meaning_of f named_args (world_in s input) ≡ Gives (record { value = value; forced = forced; world = world forms s.meta input; printed = [] }) → new ≡ delivered (mode_at s.contents.neutral place) forced value place (record s.contents { forms = forms }) → needed ≡ used s.contents + built (Some f) named_args (world_in s input) → needed ≤ s.contents.room → TriedCall place s None needed (record s { contents = new })
  value-tried new needed value forced forms means stands needs fits =
      let all = whole-arguments s.contents.neutral place rest rest_is in
      tried-answer place (Some f) s (record s { contents = new }) _ needed
      (record { names = names; means = ap (λ args. meaning_of f args (world_in s input)) (sym all) ∙ means; needs = needs ∙ ap (λ args. used s.contents + built (Some f) args (world_in s input)) all; fits = fits })
      (record { stands = stands; world = refl; prints = sym (append-nil s.written); stays_ended = λ e. e; read_all = λ reads. absurd (let none = ap (λ b. b && not (list_any (λ c. c == s.meta) s.source.bytes)) (self_contained-reads f contained) in cc) })

  -- a call that builds a value which stands at the end of neutral
  tried-value : (value : Text) → IsValue f named_args s.contents mid false value → TriedCall place s None (used s.contents + (length mid.neutral - length s.contents.neutral)) (record s { contents = value_delivered place (length s.contents.neutral) mid })
  tried-value value is =
      let w = s.contents in
      let long : length mid.neutral - length w.neutral ≡ length value = rw (is.stands, length-append w.neutral (flat_text value), length-map value Byte) (omega arith) in
      value-tried _ _ value false mid.forms (is.valued.means s.meta input) (delivered-value w mid place value mid.forms innermost is.stands)
      (ap (λ n. used w + n) (long ∙ sym (is.valued.builds s.meta input))) (omega arith)

  -- a call whose value stands before the active string already
  tried-placed : (value : Text) (forced : Bool) (size : ℕ) → IsPlaced f named_args scanned s.contents mid forced value size → TriedCall place s None (used s.contents + size) (record s { contents = closed mid place })
  tried-placed value forced size is =
      let w = s.contents in
      let goes : (forced || is_active_mode (mode_at w.neutral place)) ≡ true = ap (λ b. forced || b) (sym mode_is) ∙ is.goes in
      value-tried (closed mid place) (used w + size) value forced mid.forms (is.valued.means s.meta input)
      (ap (λ (c : Contents). closed c place) is.stands ∙ sym (delivered-active (mode_at w.neutral place) forced value place (record w { forms = mid.forms }) goes))
      (ap (λ n. used w + n) (sym is.long ∙ sym (is.valued.builds s.meta input))) is.fits

  -- a call whose value stands before the active string until it moves to the neutral one
  tried-held : (value : Text) (size : ℕ) → IsHeld f named_args scanned s.contents mid value size → TriedCall place s None (used s.contents + size) (record s { contents = settled (Unscanned size) place (length s.contents.neutral) mid })
  tried-held value size is =
      let w = s.contents in
      let goes : (false || is_active_mode (mode_at w.neutral place)) ≡ false = sym mode_is ∙ is.stays in
      let long : length (flat_text value) ≡ size = length-map value Byte ∙ is.long in
      let front : take size (flat_text value ++ w.active) ≡ flat_text value = ap (λ n. take n (flat_text value ++ w.active)) (sym long) ∙ take-append_seam (flat_text value) w.active in
      let left : drop size (flat_text value ++ w.active) ≡ w.active = ap (λ n. drop n (flat_text value ++ w.active)) (sym long) ∙ drop-append_seam (flat_text value) w.active in
      value-tried (settled (Unscanned size) place (length w.neutral) mid) (used w + size) value false mid.forms (is.valued.means s.meta input)
      (ap (λ (c : Contents). settled (Unscanned size) place (length w.neutral) c) is.stands
      ∙ ap (λ cells. record w { forms = mid.forms; neutral = take place w.neutral ++ cells; active = drop size (flat_text value ++ w.active) }) front
      ∙ ap (λ cells. record w { forms = mid.forms; neutral = take place w.neutral ++ flat_text value; active = cells }) left
      ∙ sym (delivered-neutral (mode_at w.neutral place) false value place (record w { forms = mid.forms }) goes))
      (ap (λ n. used w + n) (sym is.long ∙ sym (is.valued.builds s.meta input))) is.fits

  -- a call that builds a form
  tried-defined : (cells : ℕ) → IsDefined f named_args s.contents mid cells → TriedCall place s None (used s.contents + cells) (record s { contents = closed mid place })
  tried-defined cells is =
      let w = s.contents in
      value-tried (closed mid place) (used w + cells) [] false mid.forms (is.means s.meta input)
      (ap (λ (c : Contents). record c { forms = mid.forms; neutral = take place c.neutral }) is.stands ∙ sym (delivered-null (mode_at w.neutral place) place (record w { forms = mid.forms })))
      (ap (λ n. used w + n) (sym (is.builds s.meta input))) (omega arith)

  -- a call that doesn't fit
  tried-too-much : (new : Contents) → Makes f named_args scanned s.contents Full mid → TriedCall place s (Some Workspace) 0 (record s { contents = new })
  tried-too-much new is =
      let same = ap (λ args. built (Some f) args (world_in s input)) (whole-arguments s.contents.neutral place rest rest_is) in
      let full = is s.meta input in
      tried-full place (Some f) s new s.source 0 names (omega arith)

  -- whatever the function makes of the call
  pub answers-made : (call_result : CallResult) → Makes f named_args scanned s.contents call_result mid → AnswersCall place s call_result (record s { contents = mid })
  answers-made Full is = tried-too-much mid is
  answers-made AtEnd is = tried-value is.0 is.1
  answers-made (InFront size) is = tried-placed is.0 is.1.0 size is.1.1
  answers-made (Unscanned size) is = tried-held is.0 size is.1
  answers-made (Null cells) is = tried-defined cells is
  answers-made (Over fate) is = absurd is

-- a call of no function
pub answers-nothing : (s : Scene) (place : ℕ) → IsCall s.contents place None → AnswersCall place s (Null 0) s
answers-nothing s place call = tried-null place None s s.meta [] s.written call refl refl refl (sym (append-nil s.written))

-- no cell stands at the place
pub mode-none : (neutral : List Cell) (place : ℕ) → None ≡ slice_get neutral place → true ≡ is_active_mode (mode_at neutral place)
mode-none neutral place e = sym (ap (λ m. is_active_mode (mode_of m)) (sym (unwrap_or-slice_get neutral place (Byte 0)) ∙ ap (λ o. unwrap_or o (Byte 0)) (sym e)))

-- a text that was put behind what was there
pub text-stands : (w mid : Contents) (forms : List Form) (text : Text) → mid ≡ record w { forms = forms; neutral = w.neutral ++ flat_text text } → used w + length text ≤ w.room → IsValueFrom (used w) (length w.neutral) mid
text-stands w mid forms text stands fits =
    let long : length mid.neutral ≡ length w.neutral + length text = ap (λ (w : Contents). length w.neutral) stands ∙ length-append w.neutral (flat_text text) ∙ ap (λ n. length w.neutral + n) (length-map text Byte) in
    let room = ap (λ (w : Contents). w.room) stands in
    record {
      within = omega arith;
      text = subst (All IsByte)
          (sym (drop-append_seam w.neutral (flat_text text)) ∙ sym (ap (λ (c : Contents). drop (length w.neutral) c.neutral) stands))
          (bytes-flat text);
      fits = omega arith;
    }

value-stands : (f : Function) (args : List Text) (w mid : Contents) (forced : Bool) (value : Text) → IsValue f args w mid forced value → IsValueFrom (used w) (length w.neutral) mid
value-stands f args w mid forced value is = text-stands w mid mid.forms value is.stands is.fits

-- what stands there, whatever a function makes of its call
pub stands-made : (f : Function) (args : List Text) (scanned : Bool) (w mid : Contents) (call_result : CallResult) → Makes f args scanned w call_result mid → Stands call_result (used w) (length w.neutral) mid
stands-made f args scanned w mid Full is = tt
stands-made f args scanned w mid AtEnd is = value-stands f args w mid false is.0 is.1
stands-made f args scanned w mid (InFront size) is =
    let placed = is.1.1 in
    let neutral = ap (λ (w : Contents). length w.neutral) placed.stands in
    let room = ap (λ (w : Contents). w.room) placed.stands in
    record { within = omega arith; fits = omega arith }
stands-made f args scanned w mid (Unscanned size) is =
    let held = is.1 in
    let neutral = ap (λ (w : Contents). length w.neutral) held.stands in
    let room = ap (λ (w : Contents). w.room) held.stands in
    let active = ap (λ (w : Contents). length w.active) held.stands ∙ length-append (flat_text is.0) w.active ∙ ap (λ n. n + length w.active) (length-map is.0 Byte ∙ held.long) in
    (record { within = omega arith; fits = omega arith }, omega arith)
stands-made f args scanned w mid (Null cells) is =
    let neutral = ap (λ (w : Contents). length w.neutral) is.stands in
    let room = ap (λ (w : Contents). w.room) is.stands in
    record { within = omega arith; fits = omega arith }
stands-made f args scanned w mid (Over fate) is = tt

-- a function without devices ends no run
pub no-failure-made : (f : Function) (args : List Text) (scanned : Bool) (w mid : Contents) (call_result : CallResult) → Makes f args scanned w call_result mid → (input_failures None (fate_after call_result) ≡ 0) × ((output_failures None (fate_after call_result) ≡ 0) × (call_result ≢ Over Steps))
no-failure-made f args scanned w mid (Over fate) is = absurd is
no-failure-made f args scanned w mid _ is = (refl, (refl, λ e. absurd cc))

-- what ends the run, or isn't done, was made of nothing but too few cells
pub only-full : (f : Function) (args : List Text) (scanned : Bool) (w mid : Contents) (call_result : CallResult) → Makes f args scanned w call_result mid → fate_after call_result ≢ None → call_result ≡ Full
only-full f args scanned w mid Full is some = refl
only-full f args scanned w mid (Over fate) is some = absurd is
only-full f args scanned w mid _ is some = absurd (some refl)

-- a null value stands anywhere
pub stands-null : (w : Contents) → IsSound w → Stands (Null 0) (used w) (length w.neutral) w
stands-null w sound = let fits = sound.fits in record { within = omega arith; fits = omega arith }

-- ---- the parenthesis

byte-first : (cell : Cell) (c : ℕ) → IsByte cell → character_of cell ≡ c → cell ≡ Byte c
byte-first (Byte b) c h e = ap Byte e
byte-first _ c h e = absurd h

first-byte : (cells : List Cell) (c : ℕ) → All IsByte cells → slice_get (text_of_cells cells) 0 ≡ Some c → cells ≡ Byte c ∷ drop 1 cells
first-byte [] c h e = absurd cc
first-byte (cell ∷ cells) c h e = let same : character_of cell ≡ c = cc in ap (λ x. x ∷ cells) (byte-first cell c (h 0 (Byte 0) (omega arith)) same)

-- a right parenthesis that begins the active string performs the innermost call
pub performs-closed : (old w : Contents) (place : ℕ) → IsSound old → slice_get (text_of_cells old.active) 0 ≡ Some 41 → IsLastCall old.neutral place → w ≡ record old { active = drop 1 old.active } → ClosesCall old w place
performs-closed old w place sound first last w_is =
    record {
      same = ap (λ a. record old { active = a }) (first-byte old.active 41 sound.active first) ∙ sym (ap (λ (w : Contents). record w { active = Byte 41 ∷ w.active }) w_is);
      innermost = subst (λ n. IsLastCall n place) (sym (ap (λ (w : Contents). w.neutral) w_is)) last;
    }

-- the function of the call is that which the step performs
pub function-performs : (old w : Contents) (place meta : ℕ) → ClosesCall old w place → performs (memory_of meta old) ≡ function_at w.neutral place
function-performs old w place meta p = performs-call old w place p (function_at w.neutral place) refl meta

-- all arguments of the innermost call
pub texts-all : (neutral : List Cell) (place end : ℕ) → end ≡ length neutral → place < length neutral → texts_from neutral (place + 1) end ≡ arguments_at neutral place
texts-all neutral place end end_is within =
    let le : place + 1 ≤ length neutral = omega arith in
    let yes_le : nat_le (place + 1) (length neutral) ≡ true = grind arith in
    let long : length neutral - (place + 1) ≡ length (drop (place + 1) neutral) = sym (length-drop (place + 1) neutral) in
    rw (end_is, yes_le) (ap texts_of (ap (λ n. take n (drop (place + 1) neutral)) long ∙ take-length (drop (place + 1) neutral)))

-- the function that the first of them names
pub named-at : (w : Contents) (place end : ℕ) (o : Option Function) {found : Option Function} → end ≡ length w.neutral → IsLastCall w.neutral place → found ≡ function_named (argument (texts_from w.neutral (place + 1) end) 0) → found ≡ o → function_at w.neutral place ≡ o
named-at w place end o end_is innermost named is =
    ap (λ l. function_named (argument l 0)) (sym (texts-all w.neutral place end end_is innermost.mark.0)) ∙ sym named ∙ is

-- a function that touches no device, and neither changes the meta character nor ends the run, is plain
pub self_contained-alone : (f : Function) → touches_device (Some f) ≡ false → f ≢ ChangeMeta → f ≢ Halt → is_self_contained f ≡ true
self_contained-alone ReadString alone c g = absurd cc
self_contained-alone ReadCharacter alone c g = absurd cc
self_contained-alone PrintString alone c g = absurd cc
self_contained-alone PrintForm alone c g = absurd cc
self_contained-alone ChangeMeta alone c g = absurd (c refl)
self_contained-alone Halt alone c g = absurd (g refl)
self_contained-alone _ alone c g = refl
