-- The definition gives the cases of conformance/characters.cases, from which this file is written.
use Rattle.std.proofs.Common.{◌≡◌, List, [], ◌∷◌, refl}
use Rattle.std.specs.Prelude.{codes, map}
use Rattle.trac_language.specs.declared.fate.Fate.TheVariants.{InputEnded}
use Rattle.trac_laws.proofs.Cases.{Case, case, computing, ended, ran}

abbrev cases : List Case
cases =
    case (codes "the byte zero") 65536 1000000 (ended (97 ∷ 0 ∷ 98 ∷ 39 ∷ [])) (97 ∷ 0 ∷ 98 ∷ []) InputEnded 22 11 ∷
    case (codes "a byte zero in a name") 65536 1000000 (ended (35 ∷ 40 ∷ 100 ∷ 115 ∷ 44 ∷ 0 ∷ 44 ∷ 120 ∷ 41 ∷ 35 ∷ 40 ∷ 99 ∷ 108 ∷ 44 ∷ 0 ∷ 41 ∷ 91 ∷ 35 ∷ 40 ∷ 99 ∷ 108 ∷ 41 ∷ 93 ∷ 39 ∷ [])) (codes "x[]") InputEnded 40 31 ∷
    case (codes "bytes above 127") 65536 1000000 (ended (128 ∷ 254 ∷ 255 ∷ 39 ∷ [])) (128 ∷ 254 ∷ 255 ∷ []) InputEnded 22 11 ∷
    case (codes "a text in UTF-8") 65536 1000000 (ended (35 ∷ 40 ∷ 112 ∷ 115 ∷ 44 ∷ 195 ∷ 169 ∷ 41 ∷ 39 ∷ [])) (195 ∷ 169 ∷ []) InputEnded 26 16 ∷
    case (codes "one character of two bytes taken apart") 65536 1000000 (ended (35 ∷ 40 ∷ 100 ∷ 115 ∷ 44 ∷ 70 ∷ 44 ∷ 195 ∷ 169 ∷ 41 ∷ 35 ∷ 40 ∷ 99 ∷ 99 ∷ 44 ∷ 70 ∷ 41 ∷ 45 ∷ 35 ∷ 40 ∷ 99 ∷ 99 ∷ 44 ∷ 70 ∷ 41 ∷ 39 ∷ [])) (195 ∷ 45 ∷ 169 ∷ []) InputEnded 43 34 ∷
    case (codes "a mark before a text in UTF-8") 65536 1000000 (ended (239 ∷ 187 ∷ 191 ∷ 35 ∷ 40 ∷ 112 ∷ 115 ∷ 44 ∷ 97 ∷ 41 ∷ 39 ∷ [])) (97 ∷ 239 ∷ 187 ∷ 191 ∷ []) InputEnded 28 18 ∷
    case (codes "a byte above 127 as the meta character") 65536 1000000 (ended (35 ∷ 40 ∷ 99 ∷ 109 ∷ 44 ∷ 164 ∷ 41 ∷ 39 ∷ 97 ∷ 39 ∷ 98 ∷ 164 ∷ 99 ∷ 164 ∷ [])) (codes "a'bc") InputEnded 49 15 ∷
    case (codes "the first byte of two as the meta character") 65536 1000000 (ended (35 ∷ 40 ∷ 99 ∷ 109 ∷ 44 ∷ 195 ∷ 169 ∷ 41 ∷ 39 ∷ 97 ∷ 195 ∷ 98 ∷ 195 ∷ [])) (codes "ab") InputEnded 48 16 ∷
    case (codes "a gap of a byte above 127") 65536 1000000 (ended (35 ∷ 40 ∷ 100 ∷ 115 ∷ 44 ∷ 70 ∷ 44 ∷ 97 ∷ 233 ∷ 98 ∷ 41 ∷ 35 ∷ 40 ∷ 115 ∷ 115 ∷ 44 ∷ 70 ∷ 44 ∷ 233 ∷ 41 ∷ 35 ∷ 40 ∷ 99 ∷ 108 ∷ 44 ∷ 70 ∷ 44 ∷ 45 ∷ 41 ∷ 39 ∷ [])) (codes "a-b") InputEnded 48 39 ∷
    case (codes "control bytes") 65536 1000000 (ended (1 ∷ 7 ∷ 8 ∷ 11 ∷ 12 ∷ 14 ∷ 26 ∷ 27 ∷ 127 ∷ 39 ∷ [])) (1 ∷ 7 ∷ 8 ∷ 11 ∷ 12 ∷ 14 ∷ 26 ∷ 27 ∷ 127 ∷ []) InputEnded 28 17 ∷
    case (codes "lines that end by two characters") 65536 1000000 (ended (35 ∷ 40 ∷ 112 ∷ 115 ∷ 44 ∷ 97 ∷ 41 ∷ 13 ∷ 10 ∷ 35 ∷ 40 ∷ 112 ∷ 115 ∷ 44 ∷ 40 ∷ 98 ∷ 13 ∷ 10 ∷ 41 ∷ 41 ∷ 39 ∷ 13 ∷ 10 ∷ [])) (97 ∷ 98 ∷ 13 ∷ 10 ∷ []) InputEnded 45 28 ∷
    case (codes "a byte zero read") 65536 1000000 (ended (35 ∷ 35 ∷ 40 ∷ 114 ∷ 99 ∷ 41 ∷ 35 ∷ 40 ∷ 114 ∷ 115 ∷ 41 ∷ 39 ∷ 0 ∷ 97 ∷ 39 ∷ [])) (0 ∷ 97 ∷ []) InputEnded 28 19 ∷
    case (codes "a byte zero compared") 65536 1000000 (ended (35 ∷ 40 ∷ 101 ∷ 113 ∷ 44 ∷ 0 ∷ 44 ∷ 0 ∷ 44 ∷ 121 ∷ 44 ∷ 110 ∷ 41 ∷ 35 ∷ 40 ∷ 101 ∷ 113 ∷ 44 ∷ 0 ∷ 44 ∷ 44 ∷ 121 ∷ 44 ∷ 110 ∷ 41 ∷ 39 ∷ [])) (codes "yn") InputEnded 44 33 ∷
    case (codes "a byte zero looked for") 65536 1000000 (ended (35 ∷ 40 ∷ 100 ∷ 115 ∷ 44 ∷ 70 ∷ 44 ∷ 97 ∷ 0 ∷ 98 ∷ 41 ∷ 91 ∷ 35 ∷ 40 ∷ 105 ∷ 110 ∷ 44 ∷ 70 ∷ 44 ∷ 0 ∷ 41 ∷ 93 ∷ 39 ∷ [])) (codes "[a]") InputEnded 40 32 ∷
    []

all : map ran cases ≡ cases
unfolding computing
all = refl
