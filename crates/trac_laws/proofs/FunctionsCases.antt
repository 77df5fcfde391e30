-- The definition gives the cases of conformance/functions.cases, from which this file is written.
use Rattle.std.proofs.Common.{◌≡◌, List, [], ◌∷◌, refl}
use Rattle.std.specs.Prelude.{codes, map}
use Rattle.trac_language.specs.declared.fate.Fate.TheVariants.{Halted, InputEnded}
use Rattle.trac_laws.proofs.Cases.{Case, case, computing, ended, ran}

abbrev cases : List Case
cases =
    case (codes "a string read in a string") 65536 1000000 (ended (codes "[#(rs)]'#(ps,x)'")) (codes "x[]") InputEnded 31 17 ∷
    case (codes "a string read and not scanned") 65536 1000000 (ended (codes "[##(rs)]'#(ps,x)'")) (codes "[#(ps,x)]") InputEnded 25 17 ∷
    case (codes "a null string read") 65536 1000000 (ended (codes "[#(rs)]''")) (codes "[]") InputEnded 25 15 ∷
    case (codes "a string read at the end") 65536 1000000 (ended (codes "[#(rs)]'")) ([]) InputEnded 14 15 ∷
    case (codes "a string read up to the end") 65536 1000000 (ended (codes "[##(rs)]'a(b")) (codes "[a(b]") InputEnded 25 16 ∷
    case (codes "two strings read") 65536 1000000 (ended (codes "#(rs)-#(rs)'a'b'")) (codes "a-b") InputEnded 30 19 ∷
    case (codes "the meta character read") 65536 1000000 (ended (codes "##(rc)#(rs)''a'")) (codes "'a") InputEnded 28 19 ∷
    case (codes "a line feed read by the byte") 65536 1000000 (ended (91 ∷ 35 ∷ 35 ∷ 40 ∷ 114 ∷ 99 ∷ 41 ∷ 93 ∷ 39 ∷ 10 ∷ [])) (91 ∷ 10 ∷ 93 ∷ []) InputEnded 25 16 ∷
    case (codes "a line feed read and scanned") 65536 1000000 (ended (91 ∷ 35 ∷ 40 ∷ 114 ∷ 99 ∷ 41 ∷ 93 ∷ 39 ∷ 10 ∷ [])) (codes "[]") InputEnded 26 15 ∷
    case (codes "three bytes read") 65536 1000000 (ended (codes "#(rc)#(rc)#(rc)'abc'd'")) (codes "abcd") InputEnded 55 23 ∷
    case (codes "a comma read and scanned") 65536 1000000 (ended (codes "#(ps,#(rc)x)',")) ([]) InputEnded 30 20 ∷
    case (codes "a null text for the meta character") 65536 1000000 (ended (codes "#(cm)a'#(cm,)b'")) (codes "ab") InputEnded 40 15 ∷
    case (codes "the first character becomes the meta character") 65536 1000000 (ended (codes "#(cm,;x)'a;b'c;")) (codes "ab'c") InputEnded 50 16 ∷
    case (codes "a line feed as the meta character") 65536 1000000 (ended (35 ∷ 40 ∷ 99 ∷ 109 ∷ 44 ∷ 40 ∷ 10 ∷ 41 ∷ 41 ∷ 39 ∷ 97 ∷ 10 ∷ 98 ∷ 39 ∷ 99 ∷ 10 ∷ [])) (codes "ab'c") InputEnded 49 17 ∷
    case (codes "the apostrophe again") 65536 1000000 (ended (codes "#(cm,;)'a'b;#(cm,');c'd'")) (codes "a'bcd") InputEnded 76 15 ∷
    case (codes "the meta character in a protected text") 65536 1000000 (ended (codes "#(ps,(a'b))'")) (codes "b") InputEnded 36 15 ∷
    case (codes "a letter as the meta character") 65536 1000000 (ended (codes "#(cm,x)'#(ps,a)x#(ps,b)x")) (codes "ab") InputEnded 57 15 ∷
    case (codes "a null text printed") 65536 1000000 (ended (codes "#(ps)#(ps,)a'")) (codes "a") InputEnded 29 20 ∷
    case (codes "printed before the rest") 65536 1000000 (ended (codes "a#(ps,b)c'")) (codes "bac") InputEnded 27 17 ∷
    case (codes "printed in a neutral call") 65536 1000000 (ended (codes "##(ps,a)b'")) (codes "ab") InputEnded 26 17 ∷
    case (codes "a halt in an argument") 65536 1000000 (ended (codes "#(ps,a#(hl)b)'")) ([]) Halted 18 21 ∷
    case (codes "a halt with a text") 65536 1000000 (ended (codes "a#(hl,x)b'c'")) ([]) Halted 16 17 ∷
    case (codes "a halt in a neutral call") 65536 1000000 (ended (codes "#(ps,a)##(hl)'")) (codes "a") Halted 19 21 ∷
    case (codes "a halt before a second string") 65536 1000000 (ended (codes "#(ps,a)'#(hl)'#(ps,b)'")) (codes "a") Halted 29 15 ∷
    case (codes "a form with a null body") 65536 1000000 (ended (codes "#(ds,A)[#(cl,A)]#(pf,A)'")) (codes "<^>[]") InputEnded 39 31 ∷
    case (codes "a form with a name of two words") 65536 1000000 (ended (codes "#(ds,a b,x)#(cl,a b)#(cl,ab)'")) (codes "x") InputEnded 45 38 ∷
    case (codes "a form whose name has a comma") 65536 1000000 (ended (codes "#(ds,(a,b),x)#(cl,(a,b))#(cl,a,b)'")) (codes "x") InputEnded 42 41 ∷
    case (codes "names in letters of either case") 65536 1000000 (ended (codes "#(ds,a,1)#(ds,A,2)#(cl,a)#(cl,A)'")) (codes "12") InputEnded 49 40 ∷
    case (codes "a form defined in its own call") 65536 1000000 (ended (codes "#(ds,A,(#(ds,A,b)a))#(cl,A)#(cl,A)'")) (codes "ab") InputEnded 49 49 ∷
    case (codes "a form defined by its own text") 65536 1000000 (ended (codes "#(ds,A,x)#(ds,A,##(cl,A)##(cl,A))#(cl,A)'")) (codes "xx") InputEnded 54 48 ∷
    case (codes "a form that loses its gaps") 65536 1000000 (ended (codes "#(ds,A,a-b)#(ss,A,-)#(ds,A,##(cl,A,+))#(pf,A)'")) (codes "<^>a+b") InputEnded 58 55 ∷
    case (codes "ds has no value") 65536 1000000 (ended (codes "[#(ds,A,b)][##(ds,A,b)]'")) (codes "[][]") InputEnded 39 31 ∷
    case (codes "a gap of two characters") 65536 1000000 (ended (codes "#(ds,F,abcabc)#(ss,F,bc)#(pf,F)'")) (codes "<^>a<1>a<1>") InputEnded 47 44 ∷
    case (codes "gaps beside each other") 65536 1000000 (ended (codes "#(ds,F,aab)#(ss,F,a)#(pf,F)#(cl,F,12)'")) (codes "<^><1><1>b1212b") InputEnded 57 47 ∷
    case (codes "a whole body as a gap") 65536 1000000 (ended (codes "#(ds,F,xyz)#(ss,F,xyz)#(pf,F)[#(cl,F)]'")) (codes "<^><1>[]") InputEnded 53 48 ∷
    case (codes "two texts that overlap") 65536 1000000 (ended (codes "#(ds,F,abab)#(ss,F,ab,ba)#(pf,F)#(ds,G,aba)#(ss,G,ba,ab)#(pf,G)'")) (codes "<^><1><1><^>a<1>") InputEnded 76 74 ∷
    case (codes "a text within another") 65536 1000000 (ended (codes "#(ds,F,NEW N)#(ss,F,N,NEW)#(pf,F)'")) (codes "<^><1>EW <1>") InputEnded 49 45 ∷
    case (codes "the longer text first") 65536 1000000 (ended (codes "#(ds,F,NEW N)#(ss,F,NEW,N)#(pf,F)'")) (codes "<^><1> <2>") InputEnded 49 45 ∷
    case (codes "a gap in a function name") 65536 1000000 (ended (codes "#(ds,F,(#(ps,s)))#(ss,F,s)[#(cl,F,x)]#(pf,F)'")) (codes "<^>#(p<1>,<1>)[]") InputEnded 57 56 ∷
    case (codes "a text that is not there") 65536 1000000 (ended (codes "#(ds,F,abc)#(ss,F,x)#(pf,F)#(ss,F)#(pf,F)'")) (codes "<^>abc<^>abc") InputEnded 55 51 ∷
    case (codes "segments of a form that is not defined") 65536 1000000 (ended (codes "[#(ss,none,a)]#(ln,/)'")) (codes "[]") InputEnded 38 29 ∷
    case (codes "a line feed as a gap") 65536 1000000 (ended (35 ∷ 40 ∷ 100 ∷ 115 ∷ 44 ∷ 70 ∷ 44 ∷ 40 ∷ 97 ∷ 10 ∷ 98 ∷ 41 ∷ 41 ∷ 35 ∷ 40 ∷ 115 ∷ 115 ∷ 44 ∷ 70 ∷ 44 ∷ 40 ∷ 10 ∷ 41 ∷ 41 ∷ 35 ∷ 40 ∷ 99 ∷ 108 ∷ 44 ∷ 70 ∷ 44 ∷ 45 ∷ 41 ∷ 39 ∷ [])) (codes "a-b") InputEnded 46 41 ∷
    case (codes "the same text twice") 65536 1000000 (ended (codes "#(ds,F,aa)#(ss,F,a,a)#(pf,F)'")) (codes "<^><1><1>") InputEnded 44 37 ∷
    case (codes "ten gaps") 65536 1000000 (ended (codes "#(ds,F,abcdefghij)#(ss,F,a,b,c,d,e,f,g,h,i,j)#(pf,F)#(cl,F,1,2,3,4,5,6,7,8,9,0)'")) (codes "<^><1><2><3><4><5><6><7><8><9><10>1234567890") InputEnded 104 96 ∷
    case (codes "a gap filled by a call") 65536 1000000 (ended (codes "#(ds,F,(<N>))#(ss,F,N)#(cl,F,#(ad,1,2))'")) (codes "<3>") InputEnded 54 47 ∷
    case (codes "a gap filled by a protected call") 65536 1000000 (ended (codes "#(ds,F,(<N>))#(ss,F,N)#(cl,F,(#(ad,1,2)))##(cl,F,(#(ad,1,2)))'")) (codes "<3><#(ad,1,2)>") InputEnded 62 69 ∷
    case (codes "fewer arguments than gaps") 65536 1000000 (ended (codes "#(ds,F,a-b+c)#(ss,F,-,+)[#(cl,F,1)][#(cl,F)][#(cl,F,,2)]'")) (codes "[a1bc][abc][ab2c]") InputEnded 81 68 ∷
    case (codes "more arguments than gaps") 65536 1000000 (ended (codes "#(ds,F,a-b)#(ss,F,-)#(cl,F,1,2,3)'")) (codes "a1b") InputEnded 52 43 ∷
    case (codes "two forms removed") 65536 1000000 (ended (codes "#(ds,A,1)#(ds,B,2)#(ds,C,3)#(dd,C,A)#(ln,/)'")) (codes "/B") InputEnded 59 51 ∷
    case (codes "a form removed twice") 65536 1000000 (ended (codes "#(ds,A,1)#(dd,A,A)#(dd,A)[#(cl,A)]'")) (codes "[]") InputEnded 49 42 ∷
    case (codes "a form defined after it was removed") 65536 1000000 (ended (codes "#(ds,A,1)#(ds,B,2)#(dd,A)#(ds,A,3)#(ln,/)#(cl,A)'")) (codes "/B/A3") InputEnded 66 56 ∷
    case (codes "all forms removed") 65536 1000000 (ended (codes "#(ds,A,1)#(ds,,2)#(da)[#(ln,/)]#(da)#(ds,A,3)#(ln,/)'")) (codes "[]/A") InputEnded 66 60 ∷
    case (codes "da with a name") 65536 1000000 (ended (codes "#(ds,A,1)#(da,B)[#(ln)]'")) (codes "[]") InputEnded 39 31 ∷
    case (codes "names without a text between") 65536 1000000 (ended (codes "#(ds,A,1)#(ds,B,2)#(ln)'")) (codes "AB") InputEnded 41 31 ∷
    case (codes "a text of two characters before names") 65536 1000000 (ended (codes "#(ds,A,1)#(ds,B,2)##(ln,( ,))'")) (codes " ,A ,B") InputEnded 41 37 ∷
    case (codes "no names") 65536 1000000 (ended (codes "[#(ln,/)]'")) (codes "[]") InputEnded 27 17 ∷
    case (codes "a name that is a call") 65536 1000000 (ended (codes "#(ds,(#(ps,x)),1)##(ln,/)#(ln,/)'")) (codes "x/#(ps,x)/") InputEnded 46 44 ∷
    case (codes "a display of three gaps") 65536 1000000 (ended (codes "#(ds,F,a-b+c-d)#(ss,F,-,+)#(pf,F)'")) (codes "<^>a<1>b<2>c<1>d") InputEnded 49 47 ∷
    case (codes "a display with the pointer at the end") 65536 1000000 (ended (codes "#(ds,F,ab)#(cn,F,5)#(pf,F)'")) (codes "ab<^>ab") InputEnded 44 35 ∷
    case (codes "a display of marks of its own") 65536 1000000 (ended (codes "#(ds,F,(<1><^>))#(pf,F)'")) (codes "<^><1><^>") InputEnded 33 34 ∷
    case (codes "a display in a call") 65536 1000000 (ended (codes "[#(ps,#(ds,F,x)#(pf,F)y)]'")) (codes "<^>xy[]") InputEnded 41 33 ∷
    case (codes "a display of no form") 65536 1000000 (ended (codes "[#(pf,none)][#(pf)]'")) (codes "[][]") InputEnded 36 27 ∷
    case (codes "a call behind the pointer") 65536 1000000 (ended (codes "#(ds,F,abcd)#(cn,F,2)-#(cl,F)-#(cl,F)'")) (codes "ab-cd-cd") InputEnded 58 48 ∷
    case (codes "a call at the end") 65536 1000000 (ended (codes "#(ds,F,ab)#(cn,F,2)-[#(cl,F)]#(cr,F)#(cl,F)'")) (codes "ab-[]ab") InputEnded 61 52 ∷
    case (codes "a call behind a gap") 65536 1000000 (ended (codes "#(ds,F,a-b-c)#(ss,F,-)#(cs,F)[#(cl,F,+)]'")) (codes "a[b+c]") InputEnded 59 52 ∷
    case (codes "a call of the null name") 65536 1000000 (ended (codes "#(ds,,x)#(cl)#(cl,)'")) (codes "xx") InputEnded 37 27 ∷
    case (codes "a form that calls another") 65536 1000000 (ended (codes "#(ds,A,(#(cl,B)!))#(ds,B,b)#(cl,A)'")) (codes "b!") InputEnded 49 47 ∷
    case (codes "a form that calls itself") 65536 1000000 (ended (codes "#(ds,N,(x#(gr,K,1,(#(cl,N,#(su,K,1))))))#(ss,N,K)#(cl,N,3)'")) (codes "xxx") InputEnded 108 93 ∷
    case (codes "segments with gaps at both ends") 65536 1000000 (ended (codes "#(ds,F,-a-)#(ss,F,-)[#(cs,F,z)][#(cs,F,z)][#(cs,F,z)]'")) (codes "[][a][z]") InputEnded 69 63 ∷
    case (codes "segments without a gap") 65536 1000000 (ended (codes "#(ds,F,ab)[#(cs,F,z)][#(cs,F,z)]'")) (codes "[ab][z]") InputEnded 51 41 ∷
    case (codes "a segment from within") 65536 1000000 (ended (codes "#(ds,F,abc-d)#(ss,F,-)#(cc,F)[#(cs,F)][#(cs,F)]'")) (codes "a[bc][d]") InputEnded 65 59 ∷
    case (codes "a segment in a neutral call") 65536 1000000 (ended (codes "#(ds,F,(#(ps,x)-y))#(ss,F,-)[##(cs,F)][#(cs,F)]'")) (codes "[#(ps,x)][y]") InputEnded 52 61 ∷
    case (codes "a segment of no form") 65536 1000000 (ended (codes "[#(cs,none,z)][##(cc,none,z)][#(cn,none,1,z)][#(in,none,a,z)]'")) (codes "[][][][]") InputEnded 75 69 ∷
    case (codes "a default value of a segment") 65536 1000000 (ended (codes "#(ds,F)##(cs,F,(#(eq,a,a,(b,c))))'")) (codes "b") InputEnded 46 45 ∷
    case (codes "characters and gaps") 65536 1000000 (ended (codes "#(ds,F,a-b)#(ss,F,-)#(cc,F,z)#(pf,F)#(cc,F,z)#(cc,F,z)'")) (codes "a<^><1>babz") InputEnded 70 64 ∷
    case (codes "a character that is a parenthesis") 65536 1000000 (ended (codes "#(ds,F,(()))##(cc,F)##(cc,F)[#(cc,F)]'")) (codes "()[]") InputEnded 47 45 ∷
    case (codes "a default value of a character is scanned") 65536 1000000 (ended (codes "#(ds,F)##(cc,F,(#(ps,end)))x'")) (codes "endx") InputEnded 42 36 ∷
    case (codes "characters of a null form") 65536 1000000 (ended (codes "#(ds,F)[#(cc,F,z)][#(cc,F)]'")) (codes "[z][]") InputEnded 44 35 ∷
    case (codes "two characters and two more") 65536 1000000 (ended (codes "#(ds,F,abcde)#(cn,F,2)-#(cn,F,2)-#(cn,F,2)-#(cn,F,2,z)'")) (codes "ab-cd-e-z") InputEnded 74 66 ∷
    case (codes "characters backwards") 65536 1000000 (ended (codes "#(ds,F,abcde)#(cn,F,9)-#(cn,F,-2)-#(cn,F,-2)-#(cn,F,-2)-#(cn,F,-2,z)'")) (codes "abcde-de-bc-a-z") InputEnded 92 80 ∷
    case (codes "characters over gaps") 65536 1000000 (ended (codes "#(ds,F,a-b-c)#(ss,F,-)#(cn,F,2)#(pf,F)'")) (codes "a<1>b<^><1>cab") InputEnded 55 50 ∷
    case (codes "characters backwards over gaps") 65536 1000000 (ended (codes "#(ds,F,a-b-c)#(ss,F,-)#(cn,F,3)#(cn,F,-2)#(pf,F)'")) (codes "a<1><^>b<1>cabcbc") InputEnded 67 60 ∷
    case (codes "no characters") 65536 1000000 (ended (codes "#(ds,F,ab)[#(cn,F,0,z)][#(cn,F,x,z)][#(cn,F)][#(cn,F,-0,z)]'")) (codes "[][][][]") InputEnded 73 68 ∷
    case (codes "a count with a prefix") 65536 1000000 (ended (codes "#(ds,F,abcdef)#(cn,F,a2)-#(cn,F,+1)-#(cn,F,b-1)-#(cn,F,02)'")) (codes "ab-c-c-cd") InputEnded 78 71 ∷
    case (codes "characters before the start") 65536 1000000 (ended (codes "#(ds,F,ab)[#(cn,F,-1,z)][##(cn,F,-1,(#(ps,z)))]'")) (codes "z[z][]") InputEnded 61 56 ∷
    case (codes "a text found") 65536 1000000 (ended (codes "#(ds,F,a=b=c)[#(in,F,=)][#(in,F,=)][#(in,F,=,z)][#(cl,F)]'")) (codes "[a][b][z][c]") InputEnded 75 69 ∷
    case (codes "a text found at the pointer") 65536 1000000 (ended (codes "#(ds,F,=a)[#(in,F,=,z)][#(cl,F)]'")) (codes "[][a]") InputEnded 49 41 ∷
    case (codes "a text found at the end") 65536 1000000 (ended (codes "#(ds,F,a=)[#(in,F,=,z)][#(cl,F)][#(in,F,=,z)]'")) (codes "[a][][z]") InputEnded 62 54 ∷
    case (codes "a text of two characters found") 65536 1000000 (ended (codes "#(ds,F,a-b--c)[#(in,F,--,z)][#(cl,F)]'")) (codes "[a-b][c]") InputEnded 57 50 ∷
    case (codes "a text found in part") 65536 1000000 (ended (codes "#(ds,F,aab)[#(in,F,ab,z)][#(cl,F)]'")) (codes "[a][]") InputEnded 51 44 ∷
    case (codes "a text that a gap parts") 65536 1000000 (ended (codes "#(ds,F,a-b)#(ss,F,-)[#(in,F,ab,z)][#(in,F,b,z)]'")) (codes "[z][a]") InputEnded 64 57 ∷
    case (codes "a text behind a gap") 65536 1000000 (ended (codes "#(ds,F,x-y=z)#(ss,F,-)[#(in,F,=)]#(pf,F)'")) (codes "x<1>y=<^>z[xy]") InputEnded 57 52 ∷
    case (codes "a null text looked for") 65536 1000000 (ended (codes "#(ds,F,ab)[#(in,F,,z)][#(in,F)]#(pf,F)'")) (codes "<^>ab[][]") InputEnded 53 47 ∷
    case (codes "a default value where nothing is found") 65536 1000000 (ended (codes "#(ds,F,ab)##(in,F,x,(#(ps,none)))y'")) (codes "noney") InputEnded 48 43 ∷
    case (codes "a pointer set back") 65536 1000000 (ended (codes "#(ds,F,abc)#(cn,F,2)#(cr,F)[#(cr,none)]#(cl,F)'")) (codes "ab[]abc") InputEnded 65 56 ∷
    case (codes "pointers of two forms") 65536 1000000 (ended (codes "#(ds,F,ab)#(ds,G,xy)#(cc,F)#(cc,G)#(cc,F)#(cr,F)#(cc,F)#(cc,G)'")) (codes "axbay") InputEnded 78 71 ∷
    case (codes "a form defined again begins at its start") 65536 1000000 (ended (codes "#(ds,F,ab)#(cc,F)#(ds,F,cd)#(cc,F)'")) (codes "ac") InputEnded 51 43 ∷
    case (codes "the same text") 65536 1000000 (ended (codes "#(eq,abc,abc,y,n)#(eq,abc,ab,y,n)#(eq,ab,abc,y,n)'")) (codes "ynn") InputEnded 68 57 ∷
    case (codes "numbers as texts") 65536 1000000 (ended (codes "#(eq,1,01,y,n)#(eq,-0,0,y,n)#(eq,+1,1,y,n)'")) (codes "nnn") InputEnded 61 50 ∷
    case (codes "a blank counts in eq") 65536 1000000 (ended (codes "#(eq,a, a,y,n)#(eq,a,a ,y,n)'")) (codes "nn") InputEnded 47 36 ∷
    case (codes "only the branch that is chosen") 65536 1000000 (ended (codes "#(eq,a,b,(#(ps,x)),(#(ps,y)))'")) (codes "y") InputEnded 37 37 ∷
    case (codes "both branches where they are not protected") 65536 1000000 (ended (codes "#(eq,a,b,#(ps,x),#(ps,y))'")) (codes "xy") InputEnded 41 33 ∷
    case (codes "a missing branch") 65536 1000000 (ended (codes "[#(eq,a,a)][#(eq,a,b,y)][#(gr,1,2,y)]'")) (codes "[][][]") InputEnded 53 45 ∷
    case (codes "a neutral comparison") 65536 1000000 (ended (codes "[##(gr,2,1,(#(ps,x)))]'")) (codes "[#(ps,x)]") InputEnded 31 30 ∷
    case (codes "greater numbers") 65536 1000000 (ended (codes "#(gr,2,1,y,n)#(gr,1,2,y,n)#(gr,1,1,y,n)'")) (codes "ynn") InputEnded 58 47 ∷
    case (codes "numbers below zero") 65536 1000000 (ended (codes "#(gr,-1,-2,y,n)#(gr,-2,-1,y,n)#(gr,-1,1,y,n)#(gr,0,-1,y,n)#(gr,-0,0,y,n)'")) (codes "ynnyn") InputEnded 91 80 ∷
    case (codes "numbers with prefixes") 65536 1000000 (ended (codes "#(gr,a10,b9,y,n)#(gr,x,y,y,n)#(gr,a-1,,y,n)#(gr,12a,1,y,n)'")) (codes "ynnn") InputEnded 77 66 ∷
    case (codes "leading zeros") 65536 1000000 (ended (codes "#(gr,0010,9,y,n)#(gr,000,0,y,n)#(gr,+5,4,y,n)#(gr,-007,-8,y,n)'")) (codes "ynyy") InputEnded 81 70 ∷
    case (codes "numbers of forty digits") 65536 1000000 (ended (codes "#(gr,1000000000000000000000000000000000000001,1000000000000000000000000000000000000000,y,n)#(gr,-1000000000000000000000000000000000000001,-1000000000000000000000000000000000000000,y,n)'")) (codes "yn") InputEnded 203 192 ∷
    case (codes "sums") 65536 1000000 (ended (codes "#(ad,1,2) #(ad,-1,1) #(ad,-5,3) #(ad,007,03) #(ad,+4,5) #(ad,,) #(ad)'")) (codes "3 0 -2 10 9 0 0") InputEnded 90 77 ∷
    case (codes "a sum with prefixes") 65536 1000000 (ended (codes "#(ad,a1,b2) #(ad,a,b2) #(ad,a-1,1) #(ad,a--5,5) #(ad,1a,1)'")) (codes "a3 a2 a0 a-0 1a1") InputEnded 84 66 ∷
    case (codes "the least sum") 65536 1000000 (ended (codes "#(ad,-170141183460469231731687303715884105726,-1,Z) #(ad,-170141183460469231731687303715884105727,-1,Z)'")) (codes "-170141183460469231731687303715884105727 Z") InputEnded 161 146 ∷
    case (codes "operands out of range") 65536 1000000 (ended (codes "#(ad,170141183460469231731687303715884105728,-1,Z)#(su,0,170141183460469231731687303715884105728,Z)'")) (codes "ZZ") InputEnded 118 107 ∷
    case (codes "an operand out of range without a default") 65536 1000000 (ended (codes "[#(ad,999999999999999999999999999999999999999,1)]'")) (codes "[]") InputEnded 67 57 ∷
    case (codes "a default value without the prefix") 65536 1000000 (ended (codes "#(ad,a170141183460469231731687303715884105727,1,Z)'")) (codes "Z") InputEnded 69 58 ∷
    case (codes "a default value that is a call") 65536 1000000 (ended (codes "#(ad,170141183460469231731687303715884105727,1,(#(ps,over)))x'")) (codes "overx") InputEnded 77 72 ∷
    case (codes "differences") 65536 1000000 (ended (codes "#(su,5,3) #(su,3,5) #(su,-3,-5) #(su,a3,3) #(su,1)'")) (codes "2 -2 2 a0 1") InputEnded 71 58 ∷
    case (codes "a difference out of range") 65536 1000000 (ended (codes "#(su,-170141183460469231731687303715884105727,1,Z) #(su,170141183460469231731687303715884105727,-1,Z)'")) (codes "Z Z") InputEnded 120 109 ∷
    case (codes "products") 65536 1000000 (ended (codes "#(ml,6,7) #(ml,-6,7) #(ml,-6,-7) #(ml,0,-5) #(ml,x2,y3) #(ml,5)'")) (codes "42 -42 42 0 x6 0") InputEnded 87 71 ∷
    case (codes "the greatest product") 65536 1000000 (ended (codes "#(ml,170141183460469231731687303715884105727,-1,Z) #(ml,170141183460469231731687303715884105727,1,Z)'")) (codes "-170141183460469231731687303715884105727 170141183460469231731687303715884105727") InputEnded 196 143 ∷
    case (codes "quotients") 65536 1000000 (ended (codes "#(dv,7,2) #(dv,-7,2) #(dv,7,-2) #(dv,-7,-2) #(dv,6,3) #(dv,1,2) #(dv,-1,2)'")) (codes "3 -3 -3 3 2 0 0") InputEnded 95 82 ∷
    case (codes "a quotient with a prefix") 65536 1000000 (ended (codes "#(dv,a9,b2) #(dv,x,3) #(dv,x0,3)'")) (codes "a4 x0 x0") InputEnded 54 40 ∷
    case (codes "a division by zero") 65536 1000000 (ended (codes "[#(dv,1,0)][#(dv,1,,Z)][#(dv,1,x,Z)][#(dv,0,0,Z)][##(dv,1,-0,Z)]'")) (codes "[][Z][Z][Z][Z]") InputEnded 81 72 ∷
    case (codes "a long quotient") 65536 1000000 (ended (codes "#(dv,170141183460469231731687303715884105727,10) #(dv,170141183460469231731687303715884105727,170141183460469231731687303715884105727)'")) (codes "17014118346046923173168730371588410572 1") InputEnded 190 175 ∷
    case (codes "zeros before a number in range") 65536 1000000 (ended (codes "#(ad,0000000000000000000000000000000000000000000000001,1)'")) (codes "2") InputEnded 76 65 ∷
    case (codes "unions") 65536 1000000 (ended (codes "#(bu,1,2) #(bu,7,10) #(bu,,5) #(bu,5,) #(bu,a1,b6) #(bu,a,7)'")) (codes "3 17 5 5 a7 a7") InputEnded 82 68 ∷
    case (codes "intersections") 65536 1000000 (ended (codes "#(bi,7,5) #(bi,77,5) #(bi,5,77) #(bi,a7,b4) [#(bi,7,)]'")) (codes "5 5 5 a4 []") InputEnded 73 62 ∷
    case (codes "complements") 65536 1000000 (ended (codes "#(bc,0) #(bc,7) #(bc,123) #(bc,a70) [#(bc)] #(bc,8)'")) (codes "7 0 654 a07 [] 8") InputEnded 73 59 ∷
    case (codes "shifts to the left") 65536 1000000 (ended (codes "#(bs,1,1) #(bs,2,1) #(bs,3,1) #(bs,3,01) #(bs,4,0123)'")) (codes "2 4 0 10 2460") InputEnded 76 61 ∷
    case (codes "shifts to the right") 65536 1000000 (ended (codes "#(bs,-1,4) #(bs,-3,4) #(bs,-3,40) #(bs,-4,7654)'")) (codes "2 0 04 0372") InputEnded 70 55 ∷
    case (codes "shifts of zero") 65536 1000000 (ended (codes "#(bs,0,42) #(bs,x,42) #(bs,a1,42) #(bs,1,a42)'")) (codes "42 42 04 a04") InputEnded 69 53 ∷
    case (codes "shifts past the length") 65536 1000000 (ended (codes "#(bs,6,77) #(bs,-6,77) #(bs,100,77) #(bs,-100,77)'")) (codes "00 00 00 00") InputEnded 72 57 ∷
    case (codes "rotations") 65536 1000000 (ended (codes "#(br,1,4) #(br,2,4) #(br,3,4) #(br,3,40) #(br,-1,1) #(br,-3,01)'")) (codes "1 2 4 04 4 10") InputEnded 84 71 ∷
    case (codes "rotations past the length") 65536 1000000 (ended (codes "#(br,6,42) #(br,-6,42) #(br,13,42) #(br,100000000000000000000,1)'")) (codes "42 42 05 2") InputEnded 86 72 ∷
    case (codes "digits that are no octal digits") 65536 1000000 (ended (codes "#(bu,18,1) #(bi,19,7) #(bs,1,81) #(br,1,a9b1)'")) (codes "181 19 82 a9b2") InputEnded 71 53 ∷
    case (codes "bits of no text") 65536 1000000 (ended (codes "[#(bs,1,)][#(br,1,)][#(bu,,)][#(bc,x)]'")) (codes "[][][][x]") InputEnded 54 46 ∷
    []

all : map ran cases ≡ cases
unfolding computing
all = refl
