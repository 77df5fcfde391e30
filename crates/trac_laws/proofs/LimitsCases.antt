-- The definition gives the cases of conformance/limits.cases, from which this file is written.
use Rattle.std.proofs.Common.{◌≡◌, List, [], ◌∷◌, refl}
use Rattle.std.specs.Prelude.{codes, map}
use Rattle.trac_language.specs.declared.fate.Fate.TheVariants.{Halted, InputEnded, Workspace, Steps, InputFailed}
use Rattle.trac_laws.proofs.Cases.{Case, case, computing, ended, failing, ran}

abbrev cases : List Case
cases =
    case (codes "a form called, 23 cells") 23 1000000 (ended (codes "#(ds,A,b)#(cl,A)'")) ([]) Workspace 8 11 ∷
    case (codes "a form called, 24 cells") 24 1000000 (ended (codes "#(ds,A,b)#(cl,A)'")) (codes "b") InputEnded 34 24 ∷
    case (codes "a gap filled, 39 cells") 39 1000000 (ended (codes "#(ds,F,a-b)#(ss,F,-)##(cl,F,xyz)'")) ([]) Workspace 8 11 ∷
    case (codes "a gap filled, 41 cells") 41 1000000 (ended (codes "#(ds,F,a-b)#(ss,F,-)##(cl,F,xyz)'")) ([]) Workspace 18 40 ∷
    case (codes "a gap filled, 42 cells") 42 1000000 (ended (codes "#(ds,F,a-b)#(ss,F,-)##(cl,F,xyz)'")) (codes "axyzb") InputEnded 47 42 ∷
    case (codes "a sum of more digits, 16 cells") 16 1000000 (ended (codes "#(ad,9,1)'")) ([]) Workspace 8 11 ∷
    case (codes "a sum of more digits, 17 cells") 17 1000000 (ended (codes "#(ad,9,1)'")) (codes "10") InputEnded 29 17 ∷
    case (codes "a long string, 39 cells") 39 1000000 (ended (codes "#(ps,abcdefghijklmnopqrstuvwxyz)'")) ([]) Workspace 8 11 ∷
    case (codes "a long string, 40 cells") 40 1000000 (ended (codes "#(ps,abcdefghijklmnopqrstuvwxyz)'")) (codes "abcdefghijklmnopqrstuvwxyz") InputEnded 50 40 ∷
    case (codes "many short strings, 15 cells") 15 1000000 (ended (codes "#(ps,ab)'#(ps,cd)'#(ps,ef)'")) ([]) Workspace 8 11 ∷
    case (codes "many short strings, 16 cells") 16 1000000 (ended (codes "#(ps,ab)'#(ps,cd)'#(ps,ef)'")) (codes "abcdef") InputEnded 60 16 ∷
    case (codes "a form defined again, 17 cells") 17 1000000 (ended (codes "#(ds,A,bc)'#(ds,A,bc)'")) ([]) Workspace 8 11 ∷
    case (codes "a form defined again, 18 cells") 18 1000000 (ended (codes "#(ds,A,bc)'#(ds,A,bc)'")) ([]) Workspace 17 18 ∷
    case (codes "a form defined again, 23 cells") 23 1000000 (ended (codes "#(ds,A,bc)'#(ds,A,bc)'")) ([]) Workspace 27 19 ∷
    case (codes "a form defined again, 24 cells") 24 1000000 (ended (codes "#(ds,A,bc)'#(ds,A,bc)'")) ([]) Workspace 36 24 ∷
    case (codes "a form defined again, 25 cells") 25 1000000 (ended (codes "#(ds,A,bc)'#(ds,A,bc)'")) ([]) InputEnded 47 25 ∷
    case (codes "a form kept and a string, 16 cells") 16 1000000 (ended (codes "#(ds,A,b)'abcdefgh'")) ([]) Workspace 8 11 ∷
    case (codes "a form kept and a string, 20 cells") 20 1000000 (ended (codes "#(ds,A,b)'abcdefgh'")) ([]) Workspace 26 17 ∷
    case (codes "a form kept and a string, 21 cells") 21 1000000 (ended (codes "#(ds,A,b)'abcdefgh'")) (codes "abcdefgh") InputEnded 45 21 ∷
    case (codes "names of forms, 16 cells") 16 1000000 (ended (codes "#(ds,AB,)'##(ln,/--/)'")) ([]) Workspace 8 11 ∷
    case (codes "names of forms, 23 cells") 23 1000000 (ended (codes "#(ds,AB,)'##(ln,/--/)'")) ([]) Workspace 26 17 ∷
    case (codes "names of forms, 24 cells") 24 1000000 (ended (codes "#(ds,AB,)'##(ln,/--/)'")) (codes "/--/AB") InputEnded 46 24 ∷
    case (codes "a display, 17 cells") 17 1000000 (ended (codes "#(ds,F,ab)'#(pf,F)'")) ([]) Workspace 8 11 ∷
    case (codes "a display, 18 cells") 18 1000000 (ended (codes "#(ds,F,ab)'#(pf,F)'")) ([]) Workspace 17 18 ∷
    case (codes "a display, 20 cells") 20 1000000 (ended (codes "#(ds,F,ab)'#(pf,F)'")) ([]) Workspace 27 19 ∷
    case (codes "a display, 21 cells") 21 1000000 (ended (codes "#(ds,F,ab)'#(pf,F)'")) (codes "<^>ab") InputEnded 44 21 ∷
    case (codes "a form that doubles, 17 cells") 17 1000000 (ended (codes "#(ds,T,ab)'#(ds,T,##(cl,T)##(cl,T))'#(ds,T,##(cl,T)##(cl,T))'")) ([]) Workspace 8 11 ∷
    case (codes "a form that doubles, 18 cells") 18 1000000 (ended (codes "#(ds,T,ab)'#(ds,T,##(cl,T)##(cl,T))'#(ds,T,##(cl,T)##(cl,T))'")) ([]) Workspace 17 18 ∷
    case (codes "a form that doubles, 37 cells") 37 1000000 (ended (codes "#(ds,T,ab)'#(ds,T,##(cl,T)##(cl,T))'#(ds,T,##(cl,T)##(cl,T))'")) ([]) Workspace 27 19 ∷
    case (codes "a form that doubles, 39 cells") 39 1000000 (ended (codes "#(ds,T,ab)'#(ds,T,##(cl,T)##(cl,T))'#(ds,T,##(cl,T)##(cl,T))'")) ([]) Workspace 56 38 ∷
    case (codes "a form that doubles, 40 cells") 40 1000000 (ended (codes "#(ds,T,ab)'#(ds,T,##(cl,T)##(cl,T))'#(ds,T,##(cl,T)##(cl,T))'")) ([]) InputEnded 86 40 ∷
    case (codes "a form removed and a string, 20 cells") 20 1000000 (ended (codes "#(ds,A,bcdef)'#(dd,A)'abcdefghijkl'")) ([]) Workspace 8 11 ∷
    case (codes "a form removed and a string, 24 cells") 24 1000000 (ended (codes "#(ds,A,bcdef)'#(dd,A)'abcdefghijkl'")) ([]) Workspace 20 21 ∷
    case (codes "a form removed and a string, 25 cells") 25 1000000 (ended (codes "#(ds,A,bcdef)'#(dd,A)'abcdefghijkl'")) (codes "abcdefghijkl") InputEnded 69 25 ∷
    case (codes "a byte read, 17 cells") 17 1000000 (ended (codes "#(rc)#(rc)'ab'")) ([]) Workspace 8 11 ∷
    case (codes "a byte read, 18 cells") 18 1000000 (ended (codes "#(rc)#(rc)'ab'")) (codes "ab") InputEnded 39 18 ∷
    case (codes "a default value, 26 cells") 26 1000000 (ended (codes "#(dv,1,0,abcdefghi)'")) ([]) Workspace 8 11 ∷
    case (codes "a default value, 30 cells") 30 1000000 (ended (codes "#(dv,1,0,abcdefghi)'")) ([]) Workspace 26 27 ∷
    case (codes "a default value, 31 cells") 31 1000000 (ended (codes "#(dv,1,0,abcdefghi)'")) (codes "abcdefghi") InputEnded 46 31 ∷
    case (codes "segments called, 18 cells") 18 1000000 (ended (codes "#(ds,F,a-b)'#(ss,F,-)#(cs,F)#(cs,F)'")) ([]) Workspace 8 11 ∷
    case (codes "segments called, 20 cells") 20 1000000 (ended (codes "#(ds,F,a-b)'#(ss,F,-)#(cs,F)#(cs,F)'")) ([]) Workspace 18 19 ∷
    case (codes "segments called, 37 cells") 37 1000000 (ended (codes "#(ds,F,a-b)'#(ss,F,-)#(cs,F)#(cs,F)'")) ([]) Workspace 28 21 ∷
    case (codes "segments called, 38 cells") 38 1000000 (ended (codes "#(ds,F,a-b)'#(ss,F,-)#(cs,F)#(cs,F)'")) (codes "ab") InputEnded 61 38 ∷
    case (codes "an open call left, 18 cells") 18 1000000 (ended (codes "#(ps,abcdef'gh'")) ([]) Workspace 8 11 ∷
    case (codes "an open call left, 19 cells") 19 1000000 (ended (codes "#(ps,abcdef'gh'")) (codes "abcdefgh") InputEnded 41 19 ∷
    case (codes "one cell") 1 1000000 (ended (codes "a'")) ([]) Workspace 0 0 ∷
    case (codes "eleven cells for the idling procedure") 11 1000000 (ended (codes "ab'")) (codes "ab") InputEnded 21 11 ∷
    case (codes "twelve cells") 12 1000000 (ended (codes "abcd'")) (codes "abcd") InputEnded 23 12 ∷
    case (codes "a form that grows without an end") 100 1000000 (ended (codes "#(ds,G,(#(ds,T,##(cl,T)x)#(cl,G)))#(cl,G)'")) ([]) Workspace 336 98 ∷
    case (codes "a call that nests without an end") 100 1000000 (ended (codes "#(ds,R,(a#(ps,#(cl,R))))#(cl,R)'")) ([]) Workspace 132 96 ∷
    case (codes "an allowance of 1 steps") 65536 1 (ended (codes "#(ps,a)'")) ([]) Steps 1 11 ∷
    case (codes "an allowance of 8 steps") 65536 8 (ended (codes "#(ps,a)'")) ([]) Steps 8 11 ∷
    case (codes "an allowance of 9 steps") 65536 9 (ended (codes "#(ps,a)'")) ([]) Steps 9 15 ∷
    case (codes "an allowance of 10 steps") 65536 10 (ended (codes "#(ps,a)'")) ([]) Steps 10 15 ∷
    case (codes "an allowance of 20 steps") 65536 20 (ended (codes "#(ps,a)'")) (codes "a") Steps 20 15 ∷
    case (codes "a call that calls itself") 65536 100 (ended (codes "#(ds,L,(#(cl,L)))#(cl,L)'")) ([]) Steps 100 36 ∷
    case (codes "an allowance that ends in a second string") 65536 40 (ended (codes "#(ps,a)'#(ps,b)'")) (codes "ab") Steps 40 15 ∷
    case (codes "a halt at the last step") 65536 19 (ended (codes "#(ps,a)#(hl)'")) (codes "a") Halted 19 20 ∷
    case (codes "a halt past the last step") 65536 18 (ended (codes "#(ps,a)#(hl)'")) (codes "a") Steps 18 20 ∷
    case (codes "both at one step: the allowance") 18 8 (ended (codes "#(ps,hello)'")) ([]) Steps 8 11 ∷
    case (codes "the room one step before the allowance") 18 9 (ended (codes "#(ps,hello)'")) ([]) Workspace 8 11 ∷
    case (codes "plain text and an allowance") 65536 12 (ended (codes "abcdef'")) ([]) Steps 12 14 ∷
    case (codes "a protected text is one step") 65536 10 (ended (codes "(abcdefghij)'")) ([]) Steps 10 20 ∷
    case (codes "an input that fails in a second string") 65536 1000000 (failing (codes "#(ps,a)'#(ps")) (codes "a") InputFailed 24 15 ∷
    case (codes "an input that fails for rc") 65536 1000000 (failing (codes "#(rc)'")) ([]) InputFailed 12 13 ∷
    case (codes "an input that fails after rc") 65536 1000000 (failing (codes "##(rc)'x")) (codes "x") InputFailed 22 14 ∷
    case (codes "an input that fails in rs") 65536 1000000 (failing (codes "[#(rs)]'ab")) ([]) InputFailed 13 15 ∷
    case (codes "an input that fails after a halt") 65536 1000000 (failing (codes "#(hl)'x")) ([]) Halted 13 13 ∷
    case (codes "an input that fails and no room") 14 1000000 (failing (codes "#(ps,abc")) ([]) Workspace 8 11 ∷
    case (codes "an input that fails and an allowance") 65536 8 (failing (codes "ab")) ([]) Steps 8 11 ∷
    []

all : map ran cases ≡ cases
unfolding computing
all = refl
