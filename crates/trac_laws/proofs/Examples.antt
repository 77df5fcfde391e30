-- The definitions give the worked examples.
use Rattle.trac_laws.proofs.Imports.{◌≡◌, ℕ, List, [], ◌∷◌, refl, ℤ, codes, pos, negsuc, map, ◌==◌, if◌then◌else◌, range_with_len, list_any, Fate, Halted, InputEnded, Workspace, Steps, InputFailed, Text, Input, first, run, number, prefix}
use Rattle.trac_laws.proofs.Cases.{Case, case, computing, ended, failing, ran}

abbrev cases : List Case
cases =
    case (codes "nothing") 65536 1000000 (ended ([])) ([]) InputEnded 9 11 ∷
    case (codes "nothing fits") 11 1000000 (ended ([])) ([]) InputEnded 9 11 ∷
    case (codes "nothing full") 10 1000000 (ended ([])) ([]) Workspace 0 0 ∷
    case (codes "no cells") 0 1000000 (ended ([])) ([]) Workspace 0 0 ∷
    case (codes "no cells no steps") 0 0 (ended ([])) ([]) Steps 0 0 ∷
    case (codes "hello") 65536 1000000 (ended (codes "#(ps,hello)'")) (codes "hello") InputEnded 29 19 ∷
    case (codes "hello line feed") 65536 1000000 (ended (35 ∷ 40 ∷ 112 ∷ 115 ∷ 44 ∷ 104 ∷ 101 ∷ 108 ∷ 108 ∷ 111 ∷ 41 ∷ 39 ∷ 10 ∷ [])) (codes "hello") InputEnded 40 19 ∷
    case (codes "hello fits") 19 1000000 (ended (codes "#(ps,hello)'")) (codes "hello") InputEnded 29 19 ∷
    case (codes "hello full") 18 1000000 (ended (codes "#(ps,hello)'")) ([]) Workspace 8 11 ∷
    case (codes "hello before print") 65536 18 (ended (codes "#(ps,hello)'")) ([]) Steps 18 19 ∷
    case (codes "hello printed") 65536 19 (ended (codes "#(ps,hello)'")) (codes "hello") Steps 19 19 ∷
    case (codes "hello almost") 65536 28 (ended (codes "#(ps,hello)'")) (codes "hello") Steps 28 19 ∷
    case (codes "hello enough") 65536 29 (ended (codes "#(ps,hello)'")) (codes "hello") InputEnded 29 19 ∷
    case (codes "one form") 65536 1000000 (ended (codes "#(ds,A,b)'")) ([]) InputEnded 27 17 ∷
    case (codes "one form thrice") 65536 1000000 (ended (codes "#(ds,A,b)'#(ds,A,b)'#(ds,A,b)'")) ([]) InputEnded 63 22 ∷
    case (codes "one form thrice fits") 22 1000000 (ended (codes "#(ds,A,b)'#(ds,A,b)'#(ds,A,b)'")) ([]) InputEnded 63 22 ∷
    case (codes "unclosed") 65536 1000000 (ended (codes "(unclosed'")) ([]) InputEnded 19 17 ∷
    case (codes "halt") 65536 13 (ended (codes "#(hl)'")) ([]) Halted 13 13 ∷
    case (codes "source fails") 65536 1000000 (failing (codes "#(p")) ([]) InputFailed 8 11 ∷
    case (codes "source fails fits") 11 1000000 (failing (codes "#(p")) ([]) InputFailed 8 11 ∷
    case (codes "source fails just fits") 12 1000000 (failing (codes "#(ps")) ([]) InputFailed 8 12 ∷
    case (codes "loop") 65536 1000 (ended (codes "#(ds,L,(#(cl,L)))#(cl,L)'")) ([]) Steps 1000 36 ∷
    case (codes "two unclosed") 65536 1000000 (ended (codes "((a'")) ([]) InputEnded 19 11 ∷
    case (codes "no apostrophe") 65536 1000000 (ended (codes "abc")) (codes "abc") InputEnded 22 11 ∷
    case (codes "fails after 0") 65536 1000000 (failing ([])) ([]) InputFailed 8 11 ∷
    case (codes "fails after 1") 65536 1000000 (failing (codes "#")) ([]) InputFailed 8 11 ∷
    case (codes "fails after 2") 65536 1000000 (failing (codes "#(")) ([]) InputFailed 8 11 ∷
    case (codes "fails after 3") 65536 1000000 (failing (codes "#(p")) ([]) InputFailed 8 11 ∷
    case (codes "fails after 4") 65536 1000000 (failing (codes "#(ps")) ([]) InputFailed 8 12 ∷
    case (codes "fails after 5") 65536 1000000 (failing (codes "#(ps,")) ([]) InputFailed 8 13 ∷
    case (codes "fails after 6") 65536 1000000 (failing (codes "#(ps,h")) ([]) InputFailed 8 14 ∷
    case (codes "fails after 7") 65536 1000000 (failing (codes "#(ps,he")) ([]) InputFailed 8 15 ∷
    case (codes "fails after 8") 65536 1000000 (failing (codes "#(ps,hel")) ([]) InputFailed 8 16 ∷
    case (codes "fails after 9") 65536 1000000 (failing (codes "#(ps,hell")) ([]) InputFailed 8 17 ∷
    case (codes "fails after 10") 65536 1000000 (failing (codes "#(ps,hello")) ([]) InputFailed 8 18 ∷
    case (codes "fails after 11") 65536 1000000 (failing (codes "#(ps,hello)")) ([]) InputFailed 8 19 ∷
    case (codes "fails after 12") 65536 1000000 (failing (codes "#(ps,hello)'")) (codes "hello") InputFailed 28 19 ∷
    case (codes "first 10 numbers") 65536 1000000 (ended (codes "#(ps,hello")) (codes "hello") InputEnded 28 18 ∷
    case (codes "first 11") 65536 1000000 (ended (codes "#(ps,hello)")) (codes "hello") InputEnded 29 19 ∷
    case (codes "quoted parentheses") 65536 1000000 (ended (codes "#(ps,(a,#(b)))'")) (codes "a,#(b)") InputEnded 25 22 ∷
    case (codes "shown") 65536 1000000 (ended (codes "#(ds,F,a-b)#(ss,F,-)#(pf,F)'")) (codes "<^>a<1>b") InputEnded 43 37 ∷
    case (codes "fails after 12 room") 19 1000000 (failing (codes "#(ps,hello)'")) (codes "hello") InputFailed 28 19 ∷
    []

all : map ran cases ≡ cases
unfolding computing
all = refl

-- a name, a text, and the output and fate of its run in ample room
pub record Example : Type 0 where
  pub name : Text
  pub text : Text
  pub output : Text
  pub fate : Fate

abbrev example : Text → Text → Text → Example
example name text output = record { name = name; text = text; output = output; fate = InputEnded }

-- the example with what the definition gives
abbrev shown : Example → Example
shown e =
    let r = run 65536 1000000 (first (ended e.text)) in
    record e { output = r.output; fate = r.fate }

abbrev examples : List Example
examples =
    example (codes "three protections") (codes "#(ds,AA,Cat)#(ds,BB,(#(cl,AA)))#(ps,(#(cl,BB)))-#(ps,##(cl,BB))-#(ps,#(cl,BB))'") (codes "#(cl,BB)#(cl,AA)Cat--") ∷
    example (codes "letter") (codes "#(ds,G,(Dear X, hi X))#(ss,G,X)#(ps,##(cl,G,Al))'") (codes "Dear Al, hi Al") ∷
    example (codes "letter scanned") (codes "#(ds,G,(Dear X, hi X))#(ss,G,X)#(ps,#(cl,G,Al))'") (codes "Dear Al") ∷
    example (codes "parts") (codes "#(ds,F,ABCDE)#(cn,F,2)-#(cn,F,-1)-#(cc,F)-#(in,F,E,none)-#(cc,F,end)'") (codes "AB-B-B-CD-end") ∷
    example (codes "sum with prefix") (codes "#(ad,Apples5,Oranges7)'") (codes "Apples12") ∷
    example (codes "sum past 64 bits") (codes "#(ad,9223372036854775807,1,full)'") (codes "9223372036854775808") ∷
    example (codes "divisor zero") (codes "#(dv,5,0,zero)'") (codes "zero") ∷
    example (codes "bit functions") (codes "#(bu,12,4) #(bi,17,5) #(bc,05) #(bs,1,42) #(br,1,42) #(bs,-1,42)'") (codes "16 5 72 04 05 21") ∷
    example (codes "stray parenthesis") (codes "a)b'") (codes "a") ∷
    example (codes "number signs") (codes "###(ps,x)y'") (codes "x#y") ∷
    example (codes "layout") (97 ∷ 10 ∷ 9 ∷ 98 ∷ 40 ∷ 10 ∷ 44 ∷ 99 ∷ 41 ∷ 39 ∷ []) (97 ∷ 98 ∷ 10 ∷ 44 ∷ 99 ∷ []) ∷
    example (codes "meta changed") (codes "#(cm,!)a'b'!") (codes "ab'") ∷
    example (codes "next character") (codes "#(rc)'x") (codes "x") ∷
    example (codes "next character neutral") (codes "##(rc)'(") (codes "(") ∷
    example (codes "next character scanned") (codes "#(rc)'(") ([]) ∷
    example (codes "comparisons") (codes "#(eq,a,A,same,other) #(gr,100000000000000000000,99999999999999999999,yes,no) #(gr,x007,7,yes,no)'") (codes "other yes no") ∷
    example (codes "segments") (codes "#(ds,F,a-b-c)#(ss,F,-)[#(cs,F,z)][#(cs,F,z)][#(cs,F,z)][#(cs,F,z)]#(cr,F)[#(cl,F,+,!)]'") (codes "[a][b][c][z][a+b+c]") ∷
    example (codes "occurrences") (codes "#(ds,F,xyx)#(ss,F,y,x)#(cl,F,1,2) #(ds,F,aaa)#(ss,F,aa)#(cl,F,-) #(ds,G,abcab)#(ss,G,c,bab)#(cl,G,,!)'") (codes "212 -a abab") ∷
    example (codes "more parts") (codes "#(ds,F,abcabc)#(ss,F,c)#(in,F,ba,no)-#(cn,F,9)-#(cn,F,-9)-#(cn,F,0,z)-#(in,F,b)-#(cl,F,C)'") (codes "no-abab-abab--a-CabC") ∷
    example (codes "names") (codes "#(ds,A,1)#(ds,B,2)#(ds,A,3)#(ln,/)-#(dd,B,C)#(ln,/)-#(da)#(ln,/)'") (codes "/B/A-/A-") ∷
    example (codes "forced") (codes "##(dv,1,0,(#(ps,Z!)))x'") (codes "Z!x") ∷
    example (codes "arithmetic") (codes "#(ad,-0,0) #(su,a3,b5) #(ml,-3,+4) #(dv,-7,2) #(ad,x,2) #(ad,9223372036854775808,-1,Z)'") (codes "0 a-2 -12 -3 x2 9223372036854775807") ∷
    example (codes "bit strings") (codes "#(bc,x09) #(br,-1,a42) #(br,7,42) #(bs,99999999999999999999,42)'") (codes "x09 a21 05 00") ∷
    example (codes "unknown names") (codes "#(zz,x)#()#(PS,a,b)#(cs,none,z)'") (codes "a") ∷
    example (codes "any bytes") (255 ∷ 0 ∷ 39 ∷ []) (255 ∷ 0 ∷ []) ∷
    example (codes "compare case") (codes "#(eq,a,A,same,other)'") (codes "other") ∷
    example (codes "compare null") (codes "#(eq,,,x,y)'") (codes "x") ∷
    example (codes "neutral value once") (codes "##(eq,a,a,(#(ps,z)))'") (codes "#(ps,z)") ∷
    example (codes "null name") (codes "#(ds,,x)#(ln,/)-#(dd)#(ln,/)-#(dd,)#(ln,/)'") (codes "/-/-") ∷
    example (codes "defined again") (codes "#(ds,A,1)#(ds,A,22)#(cl,A)'") (codes "22") ∷
    example (codes "two segmentings") (codes "#(ds,F,a-b+c)#(ss,F,-)#(ss,F,+)#(cl,F,/)'") (codes "a/b/c") ∷
    example (codes "null segment") (codes "#(ds,G,xy)#(ss,G,,y)#(cl,G,1,2)'") (codes "x2") ∷
    example (codes "null form segment") (codes "#(ds,F,)##(cs,F,(#(ps,Z!)))x'") (codes "Z!x") ∷
    example (codes "long counts") (codes "#(ds,F,abc)#(cn,F,99999999999999999999)/#(cn,F,-99999999999999999999)/#(cn,F,x1)'") (codes "abc/abc/a") ∷
    example (codes "segment resets") (codes "#(ds,F,ab)#(cc,F)#(ss,F,q)#(cc,F)'") (codes "aa") ∷
    example (codes "wide results") (codes "#(su,-9223372036854775807,1,Z) #(ml,3037000499,3037000499,Z) #(ml,3037000500,3037000500,Z)'") (codes "-9223372036854775808 9223372030926249001 9223372037000250000") ∷
    example (codes "bit edges") (codes "#(bu,a1,b20)[#(bi,,7)][#(bs,3,)][#(br,-99999999999999999999,7)]'") (codes "a21[][][7]") ∷
    example (codes "first 1") (codes "#") (codes "#") ∷
    example (codes "first 2") (codes "#(") ([]) ∷
    example (codes "first 3") (codes "#(p") ([]) ∷
    example (codes "first 4") (codes "#(ps") ([]) ∷
    example (codes "first 5") (codes "#(ps,") ([]) ∷
    example (codes "first 6") (codes "#(ps,h") (codes "h") ∷
    example (codes "first 7") (codes "#(ps,he") (codes "he") ∷
    example (codes "first 8") (codes "#(ps,hel") (codes "hel") ∷
    example (codes "first 9") (codes "#(ps,hell") (codes "hell") ∷
    example (codes "first 10") (codes "#(ps,hello") (codes "hello") ∷
    example (codes "greatest") (codes "#(ad,170141183460469231731687303715884105726,1,Z)'") (codes "170141183460469231731687303715884105727") ∷
    example (codes "past greatest") (codes "#(ad,170141183460469231731687303715884105727,1,Z)'") (codes "Z") ∷
    example (codes "least operand") (codes "#(ad,-170141183460469231731687303715884105728,0,Z)'") (codes "Z") ∷
    example (codes "wide product") (codes "#(ml,9223372036854775808,18446744073709551615,Z)'") (codes "170141183460469231722463931679029329920") ∷
    example (codes "wide product out") (codes "#(ml,9223372036854775808,18446744073709551616,Z)'") (codes "Z") ∷
    example (codes "shown pointer") (codes "#(ds,F,a-b)#(ss,F,-)#(cs,F)#(pf,F)'") (codes "a<1><^>ba") ∷
    example (codes "shown ordinal") (codes "#(ds,F,x)#(ss,F,,,,,,,,,,,,x)##(PF,F)#(pf,none)'") (codes "<^><12>") ∷
    example (codes "shown null") (codes "#(ds,F,)#(pf,F)'") (codes "<^>") ∷
    []

all_shown : map shown examples ≡ examples
unfolding computing
all_shown = refl

-- the run in this room with this allowance has this output, fate and number of steps
abbrev GivesAt : ℕ → ℕ → Input → Text → Fate → ℕ → Type 0
GivesAt room allowance input output fate steps =
    let r = run room allowance (first input) in
    (r.output ≡ output) × (r.fate ≡ fate) × (r.steps ≡ steps)

one_form_full : GivesAt 16 1000000 (ended (codes "#(ds,A,b)'")) ([]) Workspace 8
unfolding computing
one_form_full = (refl, refl, refl)

halt_not_reached : GivesAt 65536 12 (ended (codes "#(hl)'")) ([]) Steps 12
unfolding computing
halt_not_reached = (refl, refl, refl)

source_fails_full : GivesAt 11 1000000 (failing (codes "#(ps")) ([]) Workspace 8
unfolding computing
source_fails_full = (refl, refl, refl)

no_next_character : GivesAt 65536 1000000 (ended (codes "#(rc)'")) ([]) InputEnded 13
unfolding computing
no_next_character = (refl, refl, refl)

shown_room_36 : GivesAt 36 1000000 (ended (codes "#(ds,F,a-b)#(ss,F,-)#(pf,F)'")) ([]) Workspace 18
unfolding computing
shown_room_36 = (refl, refl, refl)

-- a text, and the text before its number and that number
abbrev numerals : List (Text × Text × ℤ)
numerals =
    (codes "Apples5", codes "Apples", pos 5) ∷
    (codes "x-07", codes "x", negsuc 6) ∷
    (codes "--5", codes "-", negsuc 4) ∷
    (codes "+", codes "+", pos 0) ∷
    (codes "12a", codes "12a", pos 0) ∷
    ([], [], pos 0) ∷
    (codes "-0", [], pos 0) ∷
    (codes "9223372036854775808", [], pos 9223372036854775808) ∷
    []

all_read : map (λ n. (n.0, prefix n.0, number n.0)) numerals ≡ numerals
all_read = refl

-- each byte, followed by the meta character: seven print nothing
each_byte : map (λ c. (run 65536 1000000 (first (ended (c ∷ 39 ∷ [])))).output) (range_with_len 0 256) ≡ map (λ c. if list_any (λ d. d == c) (9 ∷ 10 ∷ 13 ∷ 39 ∷ 40 ∷ 41 ∷ 44 ∷ []) then [] else c ∷ []) (range_with_len 0 256)
unfolding computing
each_byte = refl
