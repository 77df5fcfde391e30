-- The definition gives the cases of conformance/scanning.cases, from which this file is written.
use Rattle.std.proofs.Common.{◌≡◌, List, [], ◌∷◌, refl}
use Rattle.std.specs.Prelude.{codes, map}
use Rattle.trac_language.specs.declared.fate.Fate.TheVariants.{InputEnded}
use Rattle.trac_laws.proofs.Cases.{Case, case, computing, ended, ran}

abbrev cases : List Case
cases =
    case (codes "a tab in text") 65536 1000000 (ended (97 ∷ 9 ∷ 98 ∷ 39 ∷ [])) (codes "ab") InputEnded 22 11 ∷
    case (codes "carriage return and line feed") 65536 1000000 (ended (97 ∷ 13 ∷ 10 ∷ 98 ∷ 39 ∷ [])) (codes "ab") InputEnded 23 12 ∷
    case (codes "layout in a function name") 65536 1000000 (ended (35 ∷ 40 ∷ 112 ∷ 10 ∷ 115 ∷ 44 ∷ 120 ∷ 41 ∷ 39 ∷ [])) (codes "x") InputEnded 26 16 ∷
    case (codes "layout before a function name") 65536 1000000 (ended (35 ∷ 40 ∷ 10 ∷ 9 ∷ 112 ∷ 115 ∷ 44 ∷ 120 ∷ 41 ∷ 39 ∷ [])) (codes "x") InputEnded 27 17 ∷
    case (codes "layout between arguments") 65536 1000000 (ended (35 ∷ 40 ∷ 101 ∷ 113 ∷ 44 ∷ 10 ∷ 97 ∷ 44 ∷ 10 ∷ 9 ∷ 97 ∷ 44 ∷ 115 ∷ 97 ∷ 109 ∷ 101 ∷ 44 ∷ 111 ∷ 116 ∷ 104 ∷ 101 ∷ 114 ∷ 41 ∷ 39 ∷ [])) (codes "same") InputEnded 45 31 ∷
    case (codes "layout alone") 65536 1000000 (ended (10 ∷ 9 ∷ 13 ∷ 39 ∷ [])) ([]) InputEnded 22 11 ∷
    case (codes "protected layout") 65536 1000000 (ended (35 ∷ 40 ∷ 112 ∷ 115 ∷ 44 ∷ 40 ∷ 97 ∷ 9 ∷ 98 ∷ 13 ∷ 10 ∷ 41 ∷ 41 ∷ 39 ∷ [])) (97 ∷ 9 ∷ 98 ∷ 13 ∷ 10 ∷ []) InputEnded 25 21 ∷
    case (codes "a protected null text") 65536 1000000 (ended (codes "[()]'")) (codes "[]") InputEnded 22 12 ∷
    case (codes "a text protected twice") 65536 1000000 (ended (codes "((a))'")) (codes "(a)") InputEnded 20 13 ∷
    case (codes "protected parentheses in a row") 65536 1000000 (ended (codes "(a)(b)((c)(d))'")) (codes "ab(c)(d)") InputEnded 22 22 ∷
    case (codes "a protected call in plain text") 65536 1000000 (ended (codes "(#(ps,x))y'")) (codes "#(ps,x)y") InputEnded 21 18 ∷
    case (codes "a left parenthesis at the end") 65536 1000000 (ended (codes "a('b'")) (codes "b") InputEnded 31 11 ∷
    case (codes "an unmatched parenthesis behind a call") 65536 1000000 (ended (codes "#(ps,x)((y)'z'")) (codes "xz") InputEnded 36 19 ∷
    case (codes "an unmatched parenthesis keeps forms") 65536 1000000 (ended (codes "#(ds,A,1)('#(cl,A)'")) (codes "1") InputEnded 44 20 ∷
    case (codes "commas in plain text") 65536 1000000 (ended (codes "a,b,c'")) (codes "a") InputEnded 24 13 ∷
    case (codes "a comma after a stray parenthesis") 65536 1000000 (ended (codes "a),b'")) (codes "a") InputEnded 23 12 ∷
    case (codes "two stray parentheses") 65536 1000000 (ended (codes "a))b'")) (codes "a") InputEnded 23 12 ∷
    case (codes "two number signs") 65536 1000000 (ended (codes "##'")) (codes "##") InputEnded 21 11 ∷
    case (codes "number signs at the end of a call") 65536 1000000 (ended (codes "#(ps,#)'")) (codes "#") InputEnded 25 15 ∷
    case (codes "two number signs in a call") 65536 1000000 (ended (codes "#(ps,##)'")) (codes "##") InputEnded 26 16 ∷
    case (codes "a number sign before a letter") 65536 1000000 (ended (codes "#a##b'")) (codes "#a##b") InputEnded 24 13 ∷
    case (codes "four number signs") 65536 1000000 (ended (codes "####(ps,x)y'")) (codes "x##y") InputEnded 28 19 ∷
    case (codes "a blank before a parenthesis") 65536 1000000 (ended (codes "# (ps,x)'")) (codes "# ps,x") InputEnded 22 16 ∷
    case (codes "an open call at the end of a string") 65536 1000000 (ended (codes "#(ps,a'b'")) (codes "ab") InputEnded 35 14 ∷
    case (codes "an open call within an open call") 65536 1000000 (ended (codes "#(ps,#(ps,x)'y'")) (codes "xy") InputEnded 40 20 ∷
    case (codes "a call in a function name") 65536 1000000 (ended (codes "#(#(eq,a,a,ps),x)'")) (codes "x") InputEnded 36 25 ∷
    case (codes "a neutral call in a function name") 65536 1000000 (ended (codes "#(##(eq,a,a,ps),x)'")) (codes "x") InputEnded 34 26 ∷
    case (codes "a function name in two parts") 65536 1000000 (ended (codes "#(p#(eq,a,a,s),x)'")) (codes "x") InputEnded 35 25 ∷
    case (codes "the value of a neutral call as an argument") 65536 1000000 (ended (codes "#(eq,##(eq,a,a,(,)),(,),same,other)'")) (codes "same") InputEnded 51 43 ∷
    case (codes "the value of an active call as an argument") 65536 1000000 (ended (codes "#(eq,#(eq,a,a,(,)),(,),same,other)'")) ([]) InputEnded 49 42 ∷
    case (codes "arguments from the left") 65536 1000000 (ended (codes "#(ps,1)#(ps,#(ps,2)3)#(ps,4)'")) (codes "1234") InputEnded 43 36 ∷
    case (codes "from the inside") 65536 1000000 (ended (codes "#(ps,a#(ps,b#(ps,c)))'")) (codes "cba") InputEnded 37 29 ∷
    case (codes "a null string") 65536 1000000 (ended (codes "''a'")) (codes "a") InputEnded 40 11 ∷
    case (codes "a string without an end") 65536 1000000 (ended (codes "#(ps,a)'#(ps,b)")) (codes "ab") InputEnded 41 15 ∷
    case (codes "a null last string") 65536 1000000 (ended (codes "a''")) (codes "a") InputEnded 30 11 ∷
    case (codes "further arguments") 65536 1000000 (ended (codes "#(ps,a,b,#(ps,c))'")) (codes "ca") InputEnded 34 25 ∷
    case (codes "missing arguments") 65536 1000000 (ended (codes "[#(eq)][#(eq,a)][#(ps)]'")) (codes "[][][]") InputEnded 39 31 ∷
    case (codes "a value scanned once more") 65536 1000000 (ended (codes "#(ds,A,(#(ps,x)))#(ps,[)##(cl,A)#(cl,A)'")) (codes "[x#(ps,x)") InputEnded 51 51 ∷
    case (codes "the idling call closed early") 65536 1000000 (ended (codes "a#(ps,b))c#(ps,d)'e'")) (codes "bade") InputEnded 45 25 ∷
    case (codes "names in capitals") 65536 1000000 (ended (codes "#(DS,a,b)#(Cl,a)#(cL,a)'")) (codes "bb") InputEnded 41 31 ∷
    case (codes "a name with a blank before it") 65536 1000000 (ended (codes "#( ps,x)[#(ds,A,1)#( cl,A)]'")) (codes "[]") InputEnded 43 35 ∷
    case (codes "a name with a blank behind it") 65536 1000000 (ended (codes "#(ps ,x)'")) ([]) InputEnded 26 16 ∷
    case (codes "a name that goes on") 65536 1000000 (ended (codes "#(psx,a)#(p,a)'")) ([]) InputEnded 31 22 ∷
    case (codes "a name with a byte above 127") 65536 1000000 (ended (35 ∷ 40 ∷ 112 ∷ 243 ∷ 44 ∷ 97 ∷ 41 ∷ 35 ∷ 40 ∷ 240 ∷ 115 ∷ 44 ∷ 97 ∷ 41 ∷ 39 ∷ [])) ([]) InputEnded 31 22 ∷
    case (codes "names of this language that do nothing here") 65536 1000000 (ended (codes "#(sb,A)#(fb,A)#(eb,A)#(tn)#(tf)#(mo,x)a'")) (codes "a") InputEnded 52 47 ∷
    case (codes "a protected name") 65536 1000000 (ended (codes "#((ps),x)'")) (codes "x") InputEnded 24 17 ∷
    case (codes "the null name in a neutral call") 65536 1000000 (ended (codes "##(,a)b'")) (codes "b") InputEnded 24 15 ∷
    []

all : map ran cases ≡ cases
unfolding computing
all = refl
