-- What a parse reads of an option, by its place among the rules of the command.
use Rattle.std.proofs.Common.{zero, suc, ◌⊎◌, ◌≡◌, ◌∙◌, ◌<◌, ◌≤◌, ◌&&◌, ◌||◌, ◌^◌, ap, ℕ, Bool, true, false, not, List, [], ◌∷◌, length, is_some, Option, Some, None, refl, sym, inl, inr, ⊎_elim, arith, codes}
use Rattle.std.specs.List.{All, Any, slice_index_or, list_all}
use Rattle.std.specs.Str.{bytes_eq}
use Rattle.std.specs.Prelude.{find, map, pos, slice_get, option_map, unwrap_or, Result, Ok, Err}
use Rattle.std.specs.Borrow.{Bor}
use Rattle.std.specs.Option.{option_map_or}
use Rattle.std.specs.Str.Parse.{ParsesUnsigned}
use Rattle.std.proofs.lemmas.Bool.{and_parts, cases_Bool, cond_both, not-true}
use Rattle.std.proofs.lemmas.Option.{option_and_then_some}
use Rattle.std.proofs.lemmas.Slice.Eq.{bytes_eq-Decides}
use Rattle.std.proofs.lemmas.List.{length-map}
use Rattle.std.proofs.lemmas.List.Elements.{All-get_or}
use Rattle.std.proofs.lemmas.List.Folds.{list_all-map}
use Rattle.clap.specs.Texts.{items_of}
use Rattle.clap.specs.Facts.{args_of, Entry, EntryPasses, PassesArg, WantsDefault, least_values, parser_of, parser_of_value, unwrap_or_range}
use Rattle.clap.specs.Built.{IsAuto, IsParsedFrom, IsPlain, IsPlainArg, SameRules}
use Rattle.clap.specs.Matches.{ReadsOne, found_of, matched_of, one_text}
use Rattle.clap.specs.Simple.{App, app_of}
use Rattle.clap.specs.Walk.{Rule, Text, is_empty, is_free_arg, is_simple_arg, rule_of}
use Rattle.clap.specs.Values.{Accepts, IsUnsignedIn, read_as, reading_of}
use Rattle.clap.specs.Lexer.{without_minus}
use Rattle.clap.specs.declared.builder.action.ArgAction.TheVariants.{Set, Count}
use Rattle.clap.specs.declared.builder.arg.Arg.{Arg}
use Rattle.clap.specs.declared.builder.command.Command.{Command}
use Rattle.clap.specs.declared.builder.command.Command.TheViews.{out-Command}
use Rattle.clap.specs.declared.builder.value_parser.Reading.{Reading}
use Rattle.clap.specs.declared.builder.value_parser.ValueParser.{ValueParser}
use Rattle.clap.specs.declared.builder.value_parser.ValueParser.TheVariants as parser
use Rattle.clap.specs.declared.parser.matches.ArgMatches.{ArgMatches}
use Rattle.clap.specs.declared.parser.matches.MatchedArg.{MatchedArg}
use Rattle.clap.proofs.CallerLemmas.{default_present, entry_by_id, same_rules_by_id}
use Rattle.clap.proofs.CallerReads.{signed_reads}
use Rattle.clap.proofs.SimpleLemmas.{is_nil, plain_fields}
use Rattle.clap.proofs.TakesLemmas.{each_rule}
use Rattle.trac_command.specs.CommandLine.{number, number_option}

-- ---- places of a list

-- no text of the list is the name, but the one at the place
abbrev pub only_at : Text → ℕ → List Text → Bool
only_at name k [] = true
only_at name zero (t ∷ ts) = list_all (λ u. not (bytes_eq u name)) ts
only_at name (suc k) (t ∷ ts) = not (bytes_eq t name) && only_at name k ts

-- an element of which f shows what stands at the place
pub record IsAt {X Y : Type 0} (f : X → Y) (xs : List X) (k : ℕ) (y : Y) : Type 0 where
  pub element : X
  pub within : k < length xs
  pub here : slice_index_or xs k element ≡ element
  pub shown : f element ≡ y

pub at_place : {X Y : Type 0} (f : X → Y) (xs : List X) (k : ℕ) (y : Y) → slice_get (map f xs) k ≡ Some y → IsAt f xs k y
at_place f [] k y e = cc
at_place f (x ∷ xs) zero y e = record { element = x; within = omega arith; here = refl; shown = cc }
at_place f (x ∷ xs) (suc k) y e =
    let rest = at_place f xs k y e in
    record { element = rest.element; within = omega arith; here = rest.here; shown = rest.shown }

-- what has the name stands at the place
pub unique_at : (name : Text) (xs : List Arg) (k : ℕ) → only_at name k (map (λ (r : Rule). r.id) (map rule_of xs)) ≡ true
    → (j : ℕ) (a : Arg) → j < length xs → bytes_eq (slice_index_or xs j a).id.now name ≡ true → j ≡ k
unique_at name [] k only j a low same = absurd (omega arith)
unique_at name (x ∷ xs) zero only zero a low same = refl
unique_at name (x ∷ xs) zero only (suc j) a low same =
    let none = sym (list_all-map (λ u. not (bytes_eq u name)) (λ (r : Rule). r.id) (map rule_of xs)) ∙ only in
    let off = not-true _ (each_rule (λ r. not (bytes_eq r.id name)) xs none j a (omega arith)) in
    cc
unique_at name (x ∷ xs) (suc k) only zero a low same = let off = not-true (bytes_eq x.id.now name) (and_parts _ _ only).0 in cc
unique_at name (x ∷ xs) (suc k) only (suc j) a low same = ap suc (unique_at name xs k (and_parts _ _ only).1 j a (omega arith) same)

-- ---- what a rule says of its argument

no_value : {X : Type 0} (o : Option X) → not (is_some o) ≡ true → o ≡ None
no_value None e = refl
no_value (Some x) e = cc

-- an argument with plain settings
record IsPlainOption (a : Arg) : Type 0 where
  plain : IsPlainArg a
  default_ifs : a.default_vals_ifs.items ≡ []
  val_delim : a.val_delim ≡ None

plain_option : (a : Arg) → is_simple_arg a ≡ true → is_free_arg a ≡ true → IsPlainOption a
plain_option a simple free =
    let s1 = and_parts _ _ simple in
    let s2 = and_parts _ _ s1.1 in
    let s3 = and_parts _ _ s2.1 in
    let f1 = and_parts _ _ free in
    record {
      plain = (not-true _ f1.0, is_nil _ (and_parts _ _ f1.1).0, is_nil _ s1.0, is_nil _ s3.0);
      default_ifs = is_nil _ s2.0;
      val_delim = no_value _ (and_parts _ _ s3.1).0;
    }

all_plain : (xs : List Arg) → list_all (λ (r : Rule). r.is_simple && r.is_free) (map rule_of xs) ≡ true → All IsPlainArg xs
all_plain xs h k d lt =
    let own = and_parts _ _ (each_rule (λ r. r.is_simple && r.is_free) xs h k d lt) in
    (plain_option (slice_index_or xs k d) own.0 own.1).plain

-- ---- what stands at a place of the command's list

-- the texts that an entry gives are texts that passed
entry_passes : (P : Bor (List ℕ) → Type 0) (how : Reading) (vs : List (Bor (List ℕ))) (u : List ℕ) → All P vs
    → option_map (λ s. read_as how s.now) (slice_get vs 0) ≡ Some u
    → (v : Bor (List ℕ)) × (u ≡ read_as how v.now) × P v
entry_passes P how [] u h e = cc
entry_passes P how (v ∷ vs) u h e = (v, ap (λ o. unwrap_or o u) (sym e), All-get_or P (v ∷ vs) 0 v (omega arith) h)

-- an id that has an entry is found
found_by_id : (xs : List Entry) (id : Text) (i : ℕ) → i < length xs → ((d : Entry) → bytes_eq (slice_index_or xs i d).0.now id ≡ true)
    → is_some (option_map (λ e. e.1) (find (λ e. bytes_eq e.0.now id) xs)) ≡ true
found_by_id [] id i lt at = absurd (omega arith)
found_by_id (x ∷ xs) id zero lt at = rw (at x) refl
found_by_id (x ∷ xs) id (suc i) lt at =
    cond_both (bytes_eq x.0.now id) (Some x) (find (λ e. bytes_eq e.0.now id) xs) (λ o. is_some (option_map (λ (e : Entry). e.1) o) ≡ true)
    (λ here. refl) (λ later. found_by_id xs id i (omega arith) at)

the_element : {X : Type 0} (o : Option X) → is_some o ≡ true → (x : X) × (o ≡ Some x)
the_element None e = cc
the_element (Some x) e = (x, refl)

first_some : (how : Reading) (vs : List (Bor (List ℕ))) → 0 < length vs → is_some (option_map (λ s. read_as how s.now) (slice_get vs 0)) ≡ true
first_some how [] lt = absurd (omega arith)
first_some how (v ∷ vs) lt = refl

-- ---- what is read at a place

-- a command whose arguments exclude nothing
abbrev pub is_plain_app : App → Bool
is_plain_app a = a.top.is_plain && list_all (λ r. r.is_simple && r.is_free) a.top.rules

-- the name is no flag's that building adds, and is only that of the rule at the place
abbrev pub is_own_name : Text → ℕ → List Rule → Bool
is_own_name name k rules = not (is_empty name) && (not (bytes_eq name (codes "help"))
    && (not (bytes_eq name (codes "version")) && only_at name k (map (λ r. r.id) rules)))

is_other : (a b : Text) → not (bytes_eq a b) ≡ true → a ≡ b → ⊥
is_other a b e same =
    let no = not-true (bytes_eq a b) e in
    let yes = (bytes_eq-Decides a b).1 same in
    cc

-- the name is not null, it is not that of `--help` or `--version`, and no other rule has it
owned : (name : Text) (k : ℕ) (rules : List Rule) → is_own_name name k rules ≡ true
    → (name ≡ [] → ⊥) × (name ≡ codes "help" → ⊥) × (name ≡ codes "version" → ⊥) × (only_at name k (map (λ (r : Rule). r.id) rules) ≡ true)
owned name k rules own =
    let a = and_parts (not (is_empty name)) _ own in
    let b = and_parts (not (bytes_eq name (codes "help"))) _ a.1 in
    let c = and_parts (not (bytes_eq name (codes "version"))) _ b.1 in
    ((λ none. let bad : false ≡ true = rw none at a.0 in cc), is_other name _ b.0, is_other name _ c.0, c.1)

module _ (c : Command) (m : ArgMatches) (p : IsParsedFrom c m) (app : App) (is : app_of c ≡ app) (is_plain_is : is_plain_app app ≡ true) where
  rules_are : map rule_of (args_of c) ≡ app.top.rules
  rules_are = ap (λ (a : App). a.top.rules) is

  is_plain : IsPlain c × ((out-Command c).has_globals ≡ false)
  is_plain =
      let parts = and_parts _ _ is_plain_is in
      let fields = plain_fields c (ap (λ (a : App). a.top.is_plain) is ∙ parts.0) in
      let rules = ap (list_all (λ (r : Rule). r.is_simple && r.is_free)) rules_are ∙ parts.1 in
      ((all_plain (args_of c) rules, fields.groups), fields.globals)

  -- the argument of the rule at a place
  module _ (k : ℕ) (r : Rule) (at : slice_get app.top.rules k ≡ Some r) (own : is_own_name r.id k app.top.rules ≡ true) where
    placed : IsAt rule_of (args_of c) k r
    placed = at_place rule_of (args_of c) k r (ap (λ (rs : List Rule). slice_get rs k) rules_are ∙ at)

    abbrev arg : Arg
    arg = slice_index_or (args_of c) k placed.element

    is_rule : rule_of arg ≡ r
    is_rule = ap rule_of placed.here ∙ placed.shown

    has_id : arg.id.now ≡ r.id
    has_id = ap (λ (s : Rule). s.id) is_rule

    only : (j : ℕ) (a : Arg) → j < length (args_of c) → bytes_eq (slice_index_or (args_of c) j a).id.now arg.id.now ≡ true → j ≡ k
    only j a low eq =
        let ids = ap (λ (rs : List Rule). only_at r.id k (map (λ (s : Rule). s.id) rs)) rules_are ∙ (owned r.id k app.top.rules own).3 in
        unique_at r.id (args_of c) k ids j a low (rw (← has_id) eq)

    unlike : IsAuto arg → ⊥
    unlike (inl h) = (owned r.id k app.top.rules own).1 (sym has_id ∙ h)
    unlike (inr h) = (owned r.id k app.top.rules own).2 (sym has_id ∙ h)

    -- an entry of the argument's id is no group's
    no_group : {A : Type 0} (e : Entry) → e.0.now ≡ r.id → EntryPasses p.built e → (e.1.is_group ≡ true) ⊎ A → A
    no_group e at pass (inr a) = a
    no_group e at pass (inl g) = elim (pass.3 g) [
      | inl empty ↦ absurd ((owned r.id k app.top.rules own).0 (sym at ∙ empty))
      | inr lots ↦
          let bad : 0 < 0 = rw (p.from.plain is_plain.0).1 at lots in
          absurd (omega arith)
    ]

    -- the caller's argument is the one that the parse met under its id
    met_as : {P : Arg → Type 0} (id : Text) → id ≡ r.id → (any : Any (λ x. (bytes_eq x.id.now id ≡ true) × P x) (args_of p.built)) → SameRules arg any.1
    met_as id at any =
        same_rules_by_id c m p k placed.element placed.within only unlike any.0 any.1 any.2 any.3 (rw (at, ← has_id) at any.4.0)

    text_of_entry : (q : ValueParser) → r.parser ≡ Some q → (u : Text) (e : Entry) → e.0.now ≡ r.id → EntryPasses p.built e
        → option_map (λ s. read_as e.1.reading s.now) (slice_get e.1.vals.items 0) ≡ Some u
        → (t : Text) × (u ≡ read_as (reading_of q) t) × Accepts r.ignore_case q t
    text_of_entry q parser u e at pass first =
        let hd = entry_passes (λ v. PassesArg p.built e.0.now v.now) e.1.reading e.1.vals.items u (no_group e at pass pass.0) first in
        let of = no_group e at pass pass.4 in
        let passed_by = met_as e.0.now at hd.2 in
        let by : arg.value_parser ≡ Some q = ap (λ (s : Rule). s.parser) is_rule ∙ parser in
        let ignores : arg.ignore_case ≡ r.ignore_case = ap (λ (s : Rule). s.ignore_case) is_rule in
        let how : reading_of q ≡ e.1.reading = ap (λ v. reading_of (parser_of_value v)) (sym ((met_as e.0.now at of).parser q by)) ∙ of.4.1 in
        let is_q : parser_of hd.2.1 ≡ q = ap parser_of_value (passed_by.parser q by) in
        (hd.0.now, rw how hd.1, rw (passed_by.ignore_case, is_q, ignores) at hd.2.4.1)

    -- the entry of the argument's id, with what holds of it
    entry_at : (x : MatchedArg) → matched_of (found_of m) r.id ≡ Some x → (e : Entry) × (e.1 ≡ x) × (e.0.now ≡ r.id) × EntryPasses p.built e
    entry_at x at =
        let got = entry_by_id (EntryPasses p.built) (found_of m).entries.items r.id x (p.parsed (p.from.globals ∙ is_plain.1)).values at in
        (got.0, got.1, (bytes_eq-Decides got.0.0.now r.id).0 got.2, got.3)

    -- the text that the argument gives is a text that passed its parser, as that parser reads it
    pub option_text : (q : ValueParser) → r.parser ≡ Some q → (u : Text) → one_text (found_of m) r.id ≡ Some u
        → (t : Text) × (u ≡ read_as (reading_of q) t) × Accepts r.ignore_case q t
    option_text q parser u e =
        option_and_then_some _ (matched_of (found_of m) r.id) u e (λ x at first.
        let got = entry_at x at in
        text_of_entry q parser u got.0 got.2 got.3 (rw got.1 first))

    has_values : (e : Entry) → e.0.now ≡ r.id → EntryPasses p.built e
        → arg.action ≡ Some Set → arg.val_delim ≡ None → 1 ≤ least_values arg → 0 < length e.1.vals.items
    has_values e at pass set delim least = elim pass.1 [
      | inl h ↦ no_group e at pass (inl h.0)
      | inr (inl v) ↦ v
      | inr (inr (inl h)) ↦
          let is_set = (met_as e.0.now at h.1).action Set set in
          let bad : Set ≡ Count = rw is_set at h.1.4.1 in
          cc
      | inr (inr (inr any)) ↦
          let same = met_as e.0.now at any in
          elim any.4.1 [
            | inl none ↦
                let one = same.least set least in
                absurd (omega arith)
            | inr has ↦
                let bad : false ≡ true = rw (same.val_delim, delim) at has in
                cc
          ]
    ]

    -- an option with a default has a text
    default_has_text : WantsDefault arg → arg.action ≡ Some Set → arg.val_delim ≡ None → 1 ≤ least_values arg
        → is_some (one_text (found_of m) r.id) ≡ true
    default_has_text wants set delim least =
        let there = rw has_id at (default_present c m p is_plain.1 k placed.element placed.within wants) in
        let some = the_element (matched_of (found_of m) r.id) (found_by_id (found_of m).entries.items r.id there.0 there.1 there.2) in
        let got = entry_at some.0 some.1 in
        rw (some.1, ← got.1) (first_some got.0.1.reading got.0.1.vals.items (has_values got.0 got.2 got.3 set delim least))

  -- an option of a number that has a default has a text, which passed its parser
  module _ (k : ℕ) (name default : Text) (q : ValueParser) (at : slice_get app.top.rules k ≡ Some (number_option name q default))
      (own : is_own_name name k app.top.rules ≡ true) where
    number_text : (t : Text) × (one_text (found_of m) name ≡ Some (read_as (reading_of q) t)) × Accepts false q t
    number_text =
        let r = number_option name q default in
        let a = arg k r at own in
        let is_r = is_rule k r at own in
        let plain = plain_option a (ap (λ (s : Rule). s.is_simple) is_r) (ap (λ (s : Rule). s.is_free) is_r) in
        let least_is : least_values a ≡ 1 = ap (λ (s : Rule). (unwrap_or_range s.range).start_inclusive) is_r in
        let texts : map (λ s. s.now) (items_of a.default_vals) ≡ default ∷ [] = ap (λ (s : Rule). s.defaults) is_r in
        let some : 0 < length (items_of a.default_vals) = omega (arith, length-map (items_of a.default_vals) (λ s. s.now), ap length texts) in
        let has = default_has_text k r at own (plain.default_ifs, some) (ap (λ (s : Rule). s.action) is_r) plain.val_delim (omega (arith, least_is)) in
        let u = the_element (one_text (found_of m) name) has in
        let got = option_text k r at own q refl u.0 u.1 in
        (got.0, u.1 ∙ ap Some got.1, got.2)

some_same : (m n : ℕ) (r : Option ℕ) → r ≡ Some m → r ≡ Some n → m ≡ n
some_same m n r e f = cc

-- a text was read as a number in the range
pub record IsRead (low high : ℕ) (o : Option Text) (r : Option ℕ) : Type 0 where
  pub some : is_some r ≡ true
  pub least : (n : ℕ) → r ≡ Some n → low ≤ n
  pub most : (n : ℕ) → r ≡ Some n → n ≤ high
  pub value : (n : ℕ) → r ≡ Some n → option_map number o ≡ Some n

-- a text that passed a range of `u64` is read as a number in it
unsigned_reads : (E : Type 0) (G : Text → Result ℕ E → Type 0) (low high : ℕ) (t : Text) (r : Option ℕ) → ReadsOne G t r
    → ((u : Text) (x : Result ℕ E) → G u x → ParsesUnsigned 64 10 u x) → IsUnsignedIn low high t
    → (n : ℕ) × (r ≡ Some n) × (low ≤ n) × (n ≤ high)
unsigned_reads E G low high t (Some v) read only passed =
    let parsed = only t (Ok v) read in
    (v, refl, rw parsed.1 passed.2, rw parsed.1 passed.3)
unsigned_reads E G low high t None read only passed = absurd (only t (Err read.0) read.1 (passed.0, passed.1))

-- what `get_one` gives of an option: the number of its text, in the range
is_read : (low high : ℕ) (t : Text) (o : Option Text) (r : Option ℕ) → o ≡ Some t → ((n : ℕ) → r ≡ Some n → n ≡ number t)
    → ((n : ℕ) × (r ≡ Some n) × (low ≤ n) × (n ≤ high)) → IsRead low high o r
is_read low high t o r text parses got = record {
  some = rw got.1 refl;
  least = λ n e. rw (some_same got.0 n r got.1 e) at got.2;
  most = λ n e. rw (some_same got.0 n r got.1 e) at got.3;
  value = λ n e. rw text (ap Some (sym (parses n e)));
}

module _ (c : Command) (m : ArgMatches) (p : IsParsedFrom c m) (app : App) (is : app_of c ≡ app) (plain : is_plain_app app ≡ true)
    (k : ℕ) (name default : Text) (low high : ℕ) (own : is_own_name name k app.top.rules ≡ true) (E : Type 0) (G : Text → Result ℕ E → Type 0)
    (r : Option ℕ) (reads : (t : Text) → one_text (found_of m) name ≡ Some t → ReadsOne G t r) where
  -- what `get_one` gives of an option of `u32`: the number of its text, in the range
  pub signed_read : slice_get app.top.rules k ≡ Some (number_option name (parser.Signed (pos low) (pos high)) default)
      → ((u : Text) (x : Result ℕ E) → G u x → ParsesUnsigned 32 10 u x) → high < 2 ^ 32
      → IsRead low high (one_text (found_of m) name) r
  signed_read at only fits =
      let text = number_text c m p app is plain k name default (parser.Signed (pos low) (pos high)) at own in
      let read = reads (without_minus text.0) text.1 in
      is_read low high (without_minus text.0) _ r text.1 (λ n e. (only (without_minus text.0) (Ok n) (rw e at read)).1) (signed_reads E G 32 low high text.0 r read only fits text.2)

  -- what `get_one` gives of an option of `u64`: the number of its text, in the range
  pub unsigned_read : slice_get app.top.rules k ≡ Some (number_option name (parser.Unsigned low high) default)
      → ((u : Text) (x : Result ℕ E) → G u x → ParsesUnsigned 64 10 u x)
      → IsRead low high (one_text (found_of m) name) r
  unsigned_read at only =
      let text = number_text c m p app is plain k name default (parser.Unsigned low high) at own in
      let read = reads text.0 text.1 in
      is_read low high text.0 _ r text.1 (λ n e. (only text.0 (Ok n) (rw e at read)).1) (unsigned_reads E G low high text.0 r read only text.2)

-- what `get_flag` gives of a flag's text, which is `true` or `false` where there is one
pub flag_read : (o : Option Text) (flag : Bool) → ((u : Text) → o ≡ Some u → (bytes_eq u (codes "true") || bytes_eq u (codes "false")) ≡ true)
    → (o ≡ None → flag ≡ false) → (o ≡ Some (codes "true") → flag ≡ true) → (o ≡ Some (codes "false") → flag ≡ false)
    → option_map_or (λ t. bytes_eq t (codes "true")) o false ≡ flag
flag_read None flag passed absent on off = sym (absent refl)
flag_read (Some u) flag passed absent on off =
    ⊎_elim
    (λ yes. yes ∙ sym (on (ap Some ((bytes_eq-Decides u (codes "true")).0 yes))))
    (λ no. no ∙ sym (off (ap Some ((bytes_eq-Decides u (codes "false")).0 (rw no at (passed u refl))))))
    (cases_Bool (bytes_eq u (codes "true")))
