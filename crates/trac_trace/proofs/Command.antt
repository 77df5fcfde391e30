-- The command of the program: what its rules say.
use Rattle.std.proofs.Common.{◌≡◌, ◌∙◌, ◌||◌, ◌<◌, ◌^◌, ap, refl, sym, ℕ, Bool, true, false, List, Option, Some, None, codes}
use Rattle.std.specs.Prelude.{option_map, pos, slice_get}
use Rattle.std.specs.Option.{option_map_or}
use Rattle.std.specs.Str.{bytes_eq}
use Rattle.std.specs.Str.Parse.{ExplainsUnsignedError, HasUnsignedDigitsIfOk, ParsesUnsigned}
use Rattle.clap.specs.Built.{IsParsedFrom}
use Rattle.clap.specs.Faults.{is_simple_and_free}
use Rattle.clap.specs.Matches.{ReadsOne, found_of, one_text}
use Rattle.clap.specs.Simple.{App, HasMatchesOf, app_of, filled, is_simple, matches_of, with_index}
use Rattle.clap.specs.Walk.{Rule, Text, one_of, rows_of}
use Rattle.clap.specs.declared.builder.command.Command.{Command}
use Rattle.clap.specs.declared.builder.value_parser.ValueParser.TheVariants as parser
use Rattle.clap.specs.declared.parser.matches.ArgMatches.{ArgMatches}
use Rattle.clap.proofs.OnLiterals.{clap_on_literals}
use Rattle.clap.proofs.WalkLemmas.{one_text-rows}
use Rattle.trac_command.specs.CommandLine.{cells_option, gives, has_flag, number, number_of, number_option, numbers_command, steps_option}
use Rattle.trac_command.proofs.Commands.{HasDefaultAt, default_text, same_number}
use Rattle.trac_command.proofs.PlaceReads.{IsRead, flag_read, is_own_name, is_plain_app, option_text, signed_read, unsigned_read}
use Rattle.trac_trace.specs.CommandLine.{calls_flag, flag_of, forms_flag, from_option, last_option, to_option, trace_command, views_command, warn_flag, width_option, columns_option}

pub is_free : is_simple_and_free trace_command ≡ true
unfolding clap_on_literals views_command numbers_command cells_option steps_option from_option to_option last_option width_option columns_option calls_flag forms_flag warn_flag
is_free = refl

simple : is_simple trace_command ≡ true
unfolding clap_on_literals views_command numbers_command cells_option steps_option from_option to_option last_option width_option columns_option calls_flag forms_flag warn_flag
simple = refl

plain : is_plain_app trace_command ≡ true
unfolding views_command numbers_command cells_option steps_option from_option to_option last_option width_option columns_option calls_flag forms_flag warn_flag
plain = refl

-- the rule of this name, which is no other's, and its default
pub record IsPlaced (k : ℕ) (id default : Text) (rule : Rule) : Type 0 where
  pub at : slice_get trace_command.top.rules k ≡ Some rule
  pub own : is_own_name id k trace_command.top.rules ≡ true
  pub has_default : HasDefaultAt trace_command k id default

pub cells_rule : IsPlaced 0 (codes "cells") (codes "65536") (number_option (codes "cells") (parser.Signed (pos 1) (pos 16777216)) (codes "65536"))
unfolding clap_on_literals views_command numbers_command cells_option steps_option from_option to_option last_option width_option columns_option calls_flag forms_flag warn_flag
cells_rule = record { at = refl; own = refl; has_default = record { rule = with_index 1 (filled cells_option); at = refl; id = refl; only = refl; default = refl; as_read = refl } }

pub steps_rule : IsPlaced 1 (codes "steps") (codes "1000000") (number_option (codes "steps") (parser.Unsigned 1 1000000000000) (codes "1000000"))
unfolding clap_on_literals views_command numbers_command cells_option steps_option from_option to_option last_option width_option columns_option calls_flag forms_flag warn_flag
steps_rule = record { at = refl; own = refl; has_default = record { rule = with_index 1 (filled (steps_option (codes "1000000"))); at = refl; id = refl; only = refl; default = refl; as_read = refl } }

pub from_rule : IsPlaced 2 (codes "from") (codes "1") (number_option (codes "from") (parser.Unsigned 1 1000000000000) (codes "1"))
unfolding clap_on_literals views_command numbers_command cells_option steps_option from_option to_option last_option width_option columns_option calls_flag forms_flag warn_flag
from_rule = record { at = refl; own = refl; has_default = record { rule = with_index 1 (filled from_option); at = refl; id = refl; only = refl; default = refl; as_read = refl } }

pub to_rule : IsPlaced 3 (codes "to") (codes "1000000000000") (number_option (codes "to") (parser.Unsigned 1 1000000000000) (codes "1000000000000"))
unfolding clap_on_literals views_command numbers_command cells_option steps_option from_option to_option last_option width_option columns_option calls_flag forms_flag warn_flag
to_rule = record { at = refl; own = refl; has_default = record { rule = with_index 1 (filled to_option); at = refl; id = refl; only = refl; default = refl; as_read = refl } }

pub last_rule : IsPlaced 4 (codes "last") (codes "0") (number_option (codes "last") (parser.Unsigned 0 1000000) (codes "0"))
unfolding clap_on_literals views_command numbers_command cells_option steps_option from_option to_option last_option width_option columns_option calls_flag forms_flag warn_flag
last_rule = record { at = refl; own = refl; has_default = record { rule = with_index 1 (filled last_option); at = refl; id = refl; only = refl; default = refl; as_read = refl } }

pub width_rule : IsPlaced 5 (codes "width") (codes "100") (number_option (codes "width") (parser.Signed (pos 0) (pos 16777216)) (codes "100"))
unfolding clap_on_literals views_command numbers_command cells_option steps_option from_option to_option last_option width_option columns_option calls_flag forms_flag warn_flag
width_rule = record { at = refl; own = refl; has_default = record { rule = with_index 1 (filled width_option); at = refl; id = refl; only = refl; default = refl; as_read = refl } }

pub columns_rule : IsPlaced 6 (codes "columns") (codes "0") (number_option (codes "columns") (parser.Signed (pos 0) (pos 16777216)) (codes "0"))
unfolding clap_on_literals views_command numbers_command cells_option steps_option from_option to_option last_option width_option columns_option calls_flag forms_flag warn_flag
columns_rule = record { at = refl; own = refl; has_default = record { rule = with_index 1 (filled columns_option); at = refl; id = refl; only = refl; default = refl; as_read = refl } }

pub calls_rule : IsPlaced 7 (codes "calls") (codes "false") (flag_of (codes "calls"))
unfolding clap_on_literals views_command numbers_command cells_option steps_option from_option to_option last_option width_option columns_option calls_flag forms_flag warn_flag
calls_rule = record { at = refl; own = refl; has_default = record { rule = with_index 1 (filled calls_flag); at = refl; id = refl; only = refl; default = refl; as_read = refl } }

pub forms_rule : IsPlaced 8 (codes "forms") (codes "false") (flag_of (codes "forms"))
unfolding clap_on_literals views_command numbers_command cells_option steps_option from_option to_option last_option width_option columns_option calls_flag forms_flag warn_flag
forms_rule = record { at = refl; own = refl; has_default = record { rule = with_index 1 (filled forms_flag); at = refl; id = refl; only = refl; default = refl; as_read = refl } }

pub warn_rule : IsPlaced 9 (codes "warn") (codes "false") (flag_of (codes "warn"))
unfolding clap_on_literals views_command numbers_command cells_option steps_option from_option to_option last_option width_option columns_option calls_flag forms_flag warn_flag
warn_rule = record { at = refl; own = refl; has_default = record { rule = with_index 1 (filled warn_flag); at = refl; id = refl; only = refl; default = refl; as_read = refl } }

-- what the parse of the words reads
module _ {c : Command} {m : ArgMatches} (p : IsParsedFrom c m) (is : app_of c ≡ trace_command) where
  -- the numbers that `get_one` gives: those of their texts, each in its range
  pub short_read : {k : ℕ} {id default : Text} {low high : ℕ} → IsPlaced k id default (number_option id (parser.Signed (pos low) (pos high)) default) → (r : Option ℕ)
      → ((t : Text) → one_text (found_of m) id ≡ Some t → ReadsOne (λ bs x. ParsesUnsigned 32 10 bs x × ExplainsUnsignedError 10 bs x × HasUnsignedDigitsIfOk bs x) t r)
      → high < 2 ^ 32 → IsRead low high (one_text (found_of m) id) r
  short_read {k} {id} {default} {low} {high} rule r reads fits = signed_read c m p trace_command is plain k id default low high rule.own _
      (λ bs x. ParsesUnsigned 32 10 bs x × ExplainsUnsignedError 10 bs x × HasUnsignedDigitsIfOk bs x) r reads rule.at (λ u x g. g.0) fits

  pub long_read : {k : ℕ} {id default : Text} {low high : ℕ} → IsPlaced k id default (number_option id (parser.Unsigned low high) default) → (r : Option ℕ)
      → ((t : Text) → one_text (found_of m) id ≡ Some t → ReadsOne (λ bs x. ParsesUnsigned 64 10 bs x × ExplainsUnsignedError 10 bs x × HasUnsignedDigitsIfOk bs x) t r)
      → IsRead low high (one_text (found_of m) id) r
  long_read {k} {id} {default} {low} {high} rule r reads = unsigned_read c m p trace_command is plain k id default low high rule.own _
      (λ bs x. ParsesUnsigned 64 10 bs x × ExplainsUnsignedError 10 bs x × HasUnsignedDigitsIfOk bs x) r reads rule.at (λ u x g. g.0)

  module _ (words : List Text) (matches : HasMatchesOf (app_of c) words m) where
    -- the texts are those of the exact matches
    text : (id : Text) → one_text (found_of m) id ≡ one_of id (matches_of trace_command words)
    text id =
        let rows : rows_of (found_of m) ≡ matches_of trace_command words =
        (matches (ap is_simple is ∙ simple)).0 ∙ ap (λ (a : App). matches_of a words) is in
        one_text-rows (found_of m) id ∙ ap (one_of id) rows

    pub number_is : (id : Text) {low high : ℕ} {r : Option ℕ} → IsRead low high (one_text (found_of m) id) r → (n : ℕ) → r ≡ Some n → number_of id (matches_of trace_command words) ≡ Some n
    number_is id read n e = sym (ap (option_map number) (text id)) ∙ read.value n e

    -- what `get_flag` gives is the flag of the matches
    pub flag_is : {k : ℕ} {id default : Text} → IsPlaced k id default (flag_of id) → (flag : Bool) → (one_text (found_of m) id ≡ None → flag ≡ false)
        → (one_text (found_of m) id ≡ Some (codes "true") → flag ≡ true) → (one_text (found_of m) id ≡ Some (codes "false") → flag ≡ false)
        → has_flag id (matches_of trace_command words) ≡ flag
    flag_is {k} {id} rule flag none on off =
        sym (ap (λ (o : Option Text). option_map_or (λ t. bytes_eq t (codes "true")) o false) (text id)) ∙ flag_read (one_text (found_of m) id) flag passed none on off
      where
        passed : (u : Text) → one_text (found_of m) id ≡ Some u → (bytes_eq u (codes "true") || bytes_eq u (codes "false")) ≡ true
        passed u e = let got = option_text c m p trace_command is plain k (flag_of id) rule.at rule.own parser.Bool refl u e in rw got.1 got.2

-- what the words don't give has its default
module _ {k : ℕ} {id v : Text} {rule : Rule} (placed : IsPlaced k id v rule) (words : List Text) where
  pub number_by_default : (n : ℕ) → number_of id (matches_of trace_command words) ≡ Some n → gives trace_command words id ≡ false → n ≡ number v
  number_by_default n e none =
      same_number (number v) n _ (ap (option_map number) (default_text trace_command words k id v placed.has_default none)) e

  pub flag_by_default : (flag : Bool) → has_flag id (matches_of trace_command words) ≡ flag → gives trace_command words id ≡ false → bytes_eq v (codes "true") ≡ flag
  flag_by_default flag e none =
      sym (ap (λ (o : Option Text). option_map_or (λ t. bytes_eq t (codes "true")) o false) (default_text trace_command words k id v placed.has_default none)) ∙ e
