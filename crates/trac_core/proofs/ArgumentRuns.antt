-- Runs of ordinary characters and commas in a call: each is added or begins an argument.
use Rattle.trac_core.proofs.Imports.{◌≡◌, ℕ, zero, suc, ◌<◌, ◌≤◌, ◌+◌, Bool, true, false, List, [], ◌∷◌, ◌++◌, length, take, drop, map, All, Some, slice_get, get_or, refl, sym, ap, ◌∙◌, subst, arith, append_assoc, append-nil, length-append, ⊎_elim, inl, inr, ◌==◌, ◌⊎◌, if◌then◌else◌, range_with_len, ne_eqb, eqb-true, cases_lt, get_or_past, get_or_append_left, get_or_push, drop-append-le, get_or-map-range_with_len, length-map-range_with_len, All-head, All-tail, All-push, drop-append-add, Cell, Byte, Call, Comma, Mode, IsLastCall, is_call, IsNoCall, NoCall, text_of_cells, character_of, IsByte, turned, Contents, used, memory_of, Scans, is_special, kind_of, IsOrdinary, PassesTimes}
use Rattle.trac_space.specs.Runs.{IsInRun, number_in, turned_by}
use Rattle.trac_core.proofs.Scanning.{scans-comma}
use Rattle.trac_core.proofs.StepsInRow.{passes-scans, scans-ordinary}

-- a number over 255 has no rule of its own
kind-past : (c : ℕ) → 256 ≤ c → kind_of c ≡ 0
kind-past c past =
    rw (ne_eqb c 9 (λ e. absurd (omega (arith, e))), ne_eqb c 10 (λ e. absurd (omega (arith, e))), ne_eqb c 13 (λ e. absurd (omega (arith, e))), ne_eqb c 35 (λ e. absurd (omega (arith, e))), ne_eqb c 40 (λ e. absurd (omega (arith, e))), ne_eqb c 41 (λ e. absurd (omega (arith, e))), ne_eqb c 44 (λ e. absurd (omega (arith, e)))) refl

-- what the table has for a character is its kind
pub number-kind : (c : ℕ) → get_or (map kind_of (range_with_len 0 256)) c 0 ≡ kind_of c
number-kind c =
    ⊎_elim (λ small. get_or-map-range_with_len kind_of 0 256 c c 0 small (omega arith))
    (λ past. get_or_past (map kind_of (range_with_len 0 256)) c 0 (omega (arith, past, length-map-range_with_len kind_of 0 256)) ∙ sym (kind-past c past))
    (cases_lt c 256)

abbrev kind_by : Bool → Bool → ℕ
kind_by b d = if b then 1 else (if d then 2 else 0)

-- the characters of a run are ordinary ones and commas
kind-run : (c : ℕ) → kind_of c ≤ 1 → (IsOrdinary c × (kind_of c ≡ 0)) ⊎ ((c ≡ 44) × (kind_of c ≡ 1))
kind-run c = go (c == 44) (is_special c) (eqb-true c 44)
  where
    go : (b d : Bool) → (b ≡ true → c ≡ 44) → kind_by b d ≤ 1 → ((d ≡ false) × (kind_by b d ≡ 0)) ⊎ ((c ≡ 44) × (kind_by b d ≡ 1))
    go true d comma less = inr (comma refl, refl)
    go false true comma less = absurd (omega arith)
    go false false comma less = inl (refl, refl)

-- one of them is scanned
scans-run : (w : Contents) (c place : ℕ) → slice_get (text_of_cells w.active) 0 ≡ Some c → IsLastCall w.neutral place → kind_of c ≤ 1 → Scans w (record w { active = drop 1 w.active; neutral = w.neutral ++ turned_by (map kind_of (range_with_len 0 256)) (Byte c) ∷ [] }) (used w)
scans-run w c place first last less =
    ⊎_elim
    (λ ordinary.
    let stays : turned_by (map kind_of (range_with_len 0 256)) (Byte c) ≡ Byte c = ap (λ n. if n == 0 then Byte c else Comma) (number-kind c ∙ ordinary.1) in
    subst (λ cell. Scans w (record w { active = drop 1 w.active; neutral = w.neutral ++ cell ∷ [] }) (used w)) (sym stays)
    (scans-ordinary w c first ordinary.0))
    (λ comma.
    let turns : turned_by (map kind_of (range_with_len 0 256)) (Byte c) ≡ Comma = ap (λ n. if n == 0 then Byte c else Comma) (number-kind c ∙ comma.1) in
    subst (λ cell. Scans w (record w { active = drop 1 w.active; neutral = w.neutral ++ cell ∷ [] }) (used w)) (sym turns)
    (scans-comma w place (first ∙ ap Some comma.0) last))
    (kind-run c less)

-- the call that is open stays the innermost
last-pushed : (neutral : List Cell) (cell : Cell) (place : ℕ) → IsNoCall cell → IsLastCall neutral place → IsLastCall (neutral ++ cell ∷ []) place
last-pushed neutral cell place none last =
    let inside = last.mark.0 in
    let long = length-append neutral (cell ∷ []) in
    record {
      mark = (omega (arith, inside, long), subst (λ c. is_call c ≡ true) (sym (get_or_append_left neutral (cell ∷ []) (Byte 0) place inside)) last.mark.1);
      after = subst (All IsNoCall) (sym (drop-append-le (place + 1) neutral (cell ∷ []) (omega (arith, inside)))) (All-push IsNoCall (drop (place + 1) neutral) cell last.after none);
    }

-- a call mark added at the end is that of the innermost call
pub last-opened : (neutral : List Cell) (mode : Mode) → IsLastCall (neutral ++ Call mode 0 ∷ []) (length neutral)
last-opened neutral mode =
    let mark : Cell = Call mode 0 in
    record {
      mark = (omega (arith, length-append neutral (mark ∷ [])), subst (λ cell. is_call cell ≡ true) (sym (get_or_push neutral mark (Byte 0) (length neutral) refl)) refl);
      after = subst NoCall (sym (drop-append-add neutral (mark ∷ []) 1)) (λ k d within. absurd (omega (arith, within)));
    }

turned-no_call : (c : ℕ) → IsNoCall (turned_by (map kind_of (range_with_len 0 256)) (Byte c))
turned-no_call c = go (get_or (map kind_of (range_with_len 0 256)) c 0 == 0)
  where
    go : (stays : Bool) → IsNoCall (if stays then Byte c else Comma)
    go true = refl
    go false = refl

-- the contents with the first n cells of active turned at the end of neutral
abbrev pub run_moved : ℕ → Contents → Contents
run_moved n w = record w { active = drop n w.active; neutral = w.neutral ++ turned (map kind_of (range_with_len 0 256)) (take n w.active) }

pub run-passes : (meta n place : ℕ) (w : Contents) → IsLastCall w.neutral place → All IsByte w.active → n ≤ length w.active → All (IsInRun (map kind_of (range_with_len 0 256))) (take n w.active) → PassesTimes n (memory_of meta w) (memory_of meta (run_moved n w))
run-passes meta n place w = go n w w.active
  where
    go : (n : ℕ) (w : Contents) (active : List Cell) → IsLastCall w.neutral place → All IsByte active → n ≤ length active → All (IsInRun (map kind_of (range_with_len 0 256))) (take n active) → PassesTimes n (memory_of meta (record w { active = active })) (memory_of meta (run_moved n (record w { active = active })))
    go zero w active last bytes within run = ap (λ cells. memory_of meta (record w { active = active; neutral = cells })) (sym (append-nil w.neutral))
    go (suc n) w [] last bytes within run = absurd (omega arith)
    go (suc n) w (Byte c ∷ rest) last bytes within run =
        let cell = turned_by (map kind_of (range_with_len 0 256)) (Byte c) in
        let less : kind_of c ≤ 1 = subst (λ k. k ≤ 1) (number-kind c) (All-head (IsInRun (map kind_of (range_with_len 0 256))) (Byte c) (take n rest) run) in
        let old : Contents = record w { active = Byte c ∷ rest } in
        let next : Contents = record w { active = rest; neutral = w.neutral ++ cell ∷ [] } in
        let pushed = length-append w.neutral (cell ∷ []) in
        let same : used next ≤ used old = omega arith in
        let others = go n next rest (last-pushed w.neutral cell place (turned-no_call c) last) (All-tail IsByte (Byte c) rest bytes) (omega arith) (All-tail (IsInRun (map kind_of (range_with_len 0 256))) (Byte c) (take n rest) run) in
        (memory_of meta next, (passes-scans meta old next (scans-run old c place refl last less) same, rw (append_assoc w.neutral (cell ∷ []) (turned (map kind_of (range_with_len 0 256)) (take n rest))) at others))
    go (suc n) w (cell ∷ rest) last bytes within run = absurd (All-head IsByte cell rest bytes)

-- the character that a rule was found by is in the run
pub run-some : (active : List Cell) (n reach c : ℕ) → slice_get (text_of_cells active) 0 ≡ Some c → kind_of c ≤ 1 → 0 < reach → (n < reach → 1 < number_in (map kind_of (range_with_len 0 256)) (get_or active n (Byte 0))) → 0 < n
run-some active (suc n) reach c first less some ends = omega arith
run-some [] zero reach c first less some ends = absurd cc
run-some (cell ∷ active) zero reach c first less some ends =
    let same : character_of cell ≡ c = cc in
    let number : number_in (map kind_of (range_with_len 0 256)) cell ≡ kind_of c = number-kind (character_of cell) ∙ ap kind_of same in
    let over = ends some in
    absurd (omega (arith, over, number, less))
