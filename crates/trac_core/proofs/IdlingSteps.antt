-- The idling procedure, loaded and scanned up to its right parentheses.
use Rattle.trac_core.proofs.Imports.{◌≡◌, ℕ, ◌+◌, ◌≤◌, [], ◌∷◌, drop, map, refl, arith, IsSound, cells, idling, rule, BeginCall, Active, All-cons, IsNoCall, Cell, Byte, Call, Comma, Contents, used, memory_of, Scans, PassesTimes, Advances, IsLastCall}
use Rattle.trac_core.specs.StepsInRow.{idling_begun, idling_loaded}
use Rattle.trac_functions.proofs.ArgumentLemmas.{bytes-flat}
use Rattle.trac_core.proofs.Scanning.{scans-call, scans-comma}
use Rattle.trac_core.proofs.StepsInRow.{passes-scans, passes-once, passes-then, scans-ordinary}

-- a step from contents to contents that are no larger
abbrev Goes : Contents → Contents → Type 0
Goes old new = (meta : ℕ) → PassesTimes 1 (memory_of meta old) (memory_of meta new)

goes : (old new : Contents) → Scans old new (used old) → used new ≤ used old → Goes old new
goes old new scans less = λ meta. passes-once (memory_of meta old) (memory_of meta new) (passes-scans meta old new scans less)

opens-outer : rule (35 ∷ 40 ∷ 112 ∷ 115 ∷ 44 ∷ 35 ∷ 40 ∷ 114 ∷ 115 ∷ 41 ∷ 41 ∷ []) ≡ BeginCall Active (112 ∷ 115 ∷ 44 ∷ 35 ∷ 40 ∷ 114 ∷ 115 ∷ 41 ∷ 41 ∷ [])
unfolding rule
opens-outer = refl

opens-inner : rule (35 ∷ 40 ∷ 114 ∷ 115 ∷ 41 ∷ 41 ∷ []) ≡ BeginCall Active (114 ∷ 115 ∷ 41 ∷ 41 ∷ [])
unfolding rule
opens-inner = refl

-- seven steps open its calls and scan their names
pub idling-advances : (w : Contents) → Advances 7 (idling_loaded w) (idling_begun w)
idling-advances w = λ meta.
    let outer : Cell = Call Active 0 in
    let w0 = idling_loaded w in
    let w1 : Contents = record w { neutral = outer ∷ []; active = drop 2 (map Byte idling) } in
    let w2 : Contents = record w { neutral = outer ∷ Byte 112 ∷ []; active = drop 3 (map Byte idling) } in
    let w3 : Contents = record w { neutral = outer ∷ Byte 112 ∷ Byte 115 ∷ []; active = drop 4 (map Byte idling) } in
    let w4 : Contents = record w { neutral = outer ∷ Byte 112 ∷ Byte 115 ∷ Comma ∷ []; active = drop 5 (map Byte idling) } in
    let w5 : Contents = record w { neutral = outer ∷ Byte 112 ∷ Byte 115 ∷ Comma ∷ outer ∷ []; active = drop 7 (map Byte idling) } in
    let w6 : Contents = record w { neutral = outer ∷ Byte 112 ∷ Byte 115 ∷ Comma ∷ outer ∷ Byte 114 ∷ []; active = drop 8 (map Byte idling) } in
    let w7 = idling_begun w in
    let last : IsLastCall w3.neutral 0 = record { mark = (omega arith, refl); after = All-cons IsNoCall (Byte 112) (Byte 115 ∷ []) refl (All-cons IsNoCall (Byte 115) [] refl (λ k d within. absurd (omega (arith, within)))) } in
    let s1 = goes w0 w1 (scans-call w0 Active 2 opens-outer) (omega arith) meta in
    let s2 = goes w1 w2 (scans-ordinary w1 112 refl refl) (omega arith) meta in
    let s3 = goes w2 w3 (scans-ordinary w2 115 refl refl) (omega arith) meta in
    let s4 = goes w3 w4 (scans-comma w3 0 refl last) (omega arith) meta in
    let s5 = goes w4 w5 (scans-call w4 Active 2 opens-inner) (omega arith) meta in
    let s6 = goes w5 w6 (scans-ordinary w5 114 refl refl) (omega arith) meta in
    let s7 = goes w6 w7 (scans-ordinary w6 115 refl refl) (omega arith) meta in
    passes-then 1 6 _ _ _ s1 (passes-then 1 5 _ _ _ s2 (passes-then 1 4 _ _ _ s3 (passes-then 1 3 _ _ _ s4 (passes-then 1 2 _ _ _ s5 (passes-then 1 1 _ _ _ s6 s7)))))

-- what is loaded is sound
pub idling-sound : (w : Contents) → IsSound w → cells w.forms + 11 ≤ w.room → IsSound (idling_loaded w)
idling-sound w sound fits =
    record {
      fits = omega (arith, fits);
      bounded = sound.bounded;
      forms = sound.forms;
      neutral = λ k d within. absurd (omega (arith, within));
      active = bytes-flat idling;
    }
