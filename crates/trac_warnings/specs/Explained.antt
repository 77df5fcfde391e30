-- Warnings that others explain, since one mistake causes them all.
use Rattle.std.specs.Prelude.{◌&&◌, ◌||◌, Bool, true, false, List, [], ◌∷◌, is_some}
use Rattle.trac_warnings.specs.Watched.{Said}
use Rattle.trac_warnings.specs.declared.causes.Causes.{Causes}
use Rattle.trac_warnings.specs.declared.warning.Suspicion.{Suspicion}
use Rattle.trac_warnings.specs.declared.warning.Suspicion.TheVariants.{Colon, Blank, Bracket, NoNumberSign}
use Rattle.trac_warnings.specs.declared.warning.Suspicion.TheVariants.{BlankInName, GapInName, Ignored, NoCall}
use Rattle.trac_warnings.specs.declared.warning.Suspicion.TheVariants.{NoForm, NoFunction, NoGap, OpenCall}
use Rattle.trac_warnings.specs.declared.warning.Suspicion.TheVariants.{Protection, Dropped, EndInside, OtherMeta}
use Rattle.trac_warnings.specs.declared.warning.Suspicion.TheVariants.{OpenString, CallPrinted}

-- nothing is known that explains another warning
abbrev pub no_cause : Causes
no_cause = record {
  end_inside = false;
  left_open = false;
  no_call = false;
  bracket = false;
  other_meta = false;
  blank_in_name = false;
  gap_in_name = false;
}

-- the causes with what a warning says
abbrev pub with_cause : Suspicion → Causes → Causes
with_cause EndInside causes = record causes { end_inside = true }
with_cause OpenCall causes = record causes { left_open = true }
with_cause Protection causes = record causes { left_open = true }
with_cause Dropped causes = record causes { left_open = true }
with_cause Colon causes = record causes { no_call = true }
with_cause Blank causes = record causes { no_call = true }
with_cause NoNumberSign causes = record causes { no_call = true }
with_cause Bracket causes = record causes { bracket = true }
with_cause OtherMeta causes = record causes { other_meta = true }
with_cause BlankInName causes = record causes { blank_in_name = true }
with_cause GapInName causes = record causes { gap_in_name = true }
with_cause _ causes = causes

-- whether a warning of a suspicion is explained by causes; `is_in_value` says whether it is of a place in a value
abbrev pub is_explained_so : Causes → (is_in_value : Bool) → Suspicion → Bool
is_explained_so causes is_in_value OpenCall = causes.end_inside
is_explained_so causes is_in_value Protection = causes.end_inside
is_explained_so causes is_in_value Dropped = causes.end_inside
is_explained_so causes is_in_value NoCall = causes.end_inside || causes.left_open
is_explained_so causes is_in_value NoForm =
    (causes.end_inside || causes.left_open) || (causes.no_call || causes.bracket)
is_explained_so causes is_in_value Ignored = causes.end_inside || causes.bracket
is_explained_so causes is_in_value CallPrinted = causes.no_call || causes.bracket
is_explained_so causes is_in_value OpenString = causes.other_meta
is_explained_so causes is_in_value NoGap = causes.blank_in_name
is_explained_so causes is_in_value NoFunction = causes.gap_in_name && is_in_value
is_explained_so causes is_in_value _ = false

-- whether causes explain a warning
abbrev pub is_explained : Causes → Said → Bool
is_explained causes said = is_explained_so causes (is_some said.origin.form) said.suspicion
