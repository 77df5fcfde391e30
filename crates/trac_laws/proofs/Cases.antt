-- Cases, and what the definition gives of each.
use Rattle.trac_laws.proofs.Imports.{⊤, ℕ, false, true, digits, Fate, Text, segment_after, split_at_match, Input, first, meaning_of, rule, step, need, run}

-- a name, a room, an allowance, an input, and the output, fate, steps and peak that are wanted
pub record Case : Type 0 where
  pub name : Text
  pub room : ℕ
  pub allowance : ℕ
  pub input : Input
  pub output : Text
  pub fate : Fate
  pub steps : ℕ
  pub peak : ℕ

abbrev pub ended : Text → Input
ended text = record { text = text; fails = false }

abbrev pub failing : Text → Input
failing text = record { text = text; fails = true }

abbrev pub case : Text → ℕ → ℕ → Input → Text → Fate → ℕ → ℕ → Case
case name room allowance input output fate steps peak = record {
  name = name;
  room = room;
  allowance = allowance;
  input = input;
  output = output;
  fate = fate;
  steps = steps;
  peak = peak;
}

-- the case with what the definition gives
abbrev pub ran : Case → Case
ran c =
    let r = run c.room c.allowance (first c.input) in
    case c.name c.room c.allowance c.input r.output r.fate r.steps r.peak

-- what computes
unfoldable pub computing : ⊤
unfolding run step need rule meaning_of split_at_match segment_after digits
computing = tt
