-- The laws that follow from what each function does.
use Rattle.trac_laws.proofs.TableImports.{◌≡◌, true, false, List, [], refl}
use Rattle.trac_laws.proofs.TableImports.{Ends, Meaning, World, meaning_of, form_named, traits, Text, Halted, Function, Always, concerns, IsDefault}
use Rattle.trac_language.specs.declared.function.Function.TheVariants as function
use Rattle.trac_laws.proofs.Deeds.{Deed, Reads, Stops, Halts, TurnsMeta, Prints, Values, Defaults, Changes, deed}
use Rattle.trac_laws.specs.Columns.{LeavesForms, LeavesOthers, LeavesInput, LeavesMeta, PrintsNothing, EndsOnly, OnlyDefault}

module _ (f : Function) (args : List Text) (w : World) where
  forms : (m : Meaning) → (traits f).changes_forms ≡ false → Deed f args w m → Always (λ answer. answer.world.forms ≡ w.forms) m
  forms m e (Reads value left r eq) = rw eq refl
  forms m e (Stops fate ne eq) = rw eq tt
  forms m e (Halts r eq) = rw eq tt
  forms m e (TurnsMeta c r eq) = rw eq refl
  forms m e (Prints text r eq) = rw eq refl
  forms m e (Values value eq) = rw eq refl
  forms m e (Defaults place d eq) = rw eq refl
  forms m e (Changes value after c stay eq) = absurd cc

  others : (m : Meaning) (name : Text) → concerns (traits f).forms args name ≡ false → Deed f args w m → Always (λ answer. form_named name answer.world.forms ≡ form_named name w.forms) m
  others m name e (Reads value left r eq) = rw eq refl
  others m name e (Stops fate ne eq) = rw eq tt
  others m name e (Halts r eq) = rw eq tt
  others m name e (TurnsMeta c r eq) = rw eq refl
  others m name e (Prints text r eq) = rw eq refl
  others m name e (Values value eq) = rw eq refl
  others m name e (Defaults place d eq) = rw eq refl
  others m name e (Changes value after c stay eq) = rw eq (stay name e)

  input : (m : Meaning) → (traits f).reads ≡ false → Deed f args w m → Always (λ answer. answer.world.input ≡ w.input) m
  input m e (Reads value left r eq) = absurd cc
  input m e (Stops fate ne eq) = rw eq tt
  input m e (Halts r eq) = rw eq tt
  input m e (TurnsMeta c r eq) = rw eq refl
  input m e (Prints text r eq) = rw eq refl
  input m e (Values value eq) = rw eq refl
  input m e (Defaults place d eq) = rw eq refl
  input m e (Changes value after c stay eq) = rw eq refl

  meta : (m : Meaning) → (traits f).changes_meta ≡ false → Deed f args w m → Always (λ answer. answer.world.meta ≡ w.meta) m
  meta m e (Reads value left r eq) = rw eq refl
  meta m e (Stops fate ne eq) = rw eq tt
  meta m e (Halts r eq) = rw eq tt
  meta m e (TurnsMeta c r eq) = absurd cc
  meta m e (Prints text r eq) = rw eq refl
  meta m e (Values value eq) = rw eq refl
  meta m e (Defaults place d eq) = rw eq refl
  meta m e (Changes value after c stay eq) = rw eq refl

  printed : (m : Meaning) → (traits f).prints ≡ false → Deed f args w m → Always (λ answer. answer.printed ≡ []) m
  printed m e (Reads value left r eq) = rw eq refl
  printed m e (Stops fate ne eq) = rw eq tt
  printed m e (Halts r eq) = rw eq tt
  printed m e (TurnsMeta c r eq) = rw eq refl
  printed m e (Prints text r eq) = absurd cc
  printed m e (Values value eq) = rw eq refl
  printed m e (Defaults place d eq) = rw eq refl
  printed m e (Changes value after c stay eq) = rw eq refl

  default : (m : Meaning) → Deed f args w m → Always (λ answer. answer.forced ≡ true → IsDefault (traits f).default args answer.value) m
  default m (Reads value left r eq) = rw eq (λ e. absurd cc)
  default m (Stops fate ne eq) = rw eq tt
  default m (Halts r eq) = rw eq tt
  default m (TurnsMeta c r eq) = rw eq (λ e. absurd cc)
  default m (Prints text r eq) = rw eq (λ e. absurd cc)
  default m (Values value eq) = rw eq (λ e. absurd cc)
  default m (Defaults place d eq) = rw (eq, d) (λ e. refl)
  default m (Changes value after c stay eq) = rw eq (λ e. absurd cc)

  halts : (m : Meaning) → m ≡ Ends Halted → Deed f args w m → (traits f).ends ≡ true
  halts m e (Reads value left r eq) = absurd cc
  halts m e (Stops fate ne eq) = absurd (ne cc)
  halts m e (Halts r eq) = r
  halts m e (TurnsMeta c r eq) = absurd cc
  halts m e (Prints text r eq) = absurd cc
  halts m e (Values value eq) = absurd cc
  halts m e (Defaults place d eq) = absurd cc
  halts m e (Changes value after c stay eq) = absurd cc

pub leaves_forms : LeavesForms
leaves_forms f args w e = forms f args w (meaning_of f args w) e (deed f args w)

pub leaves_others : LeavesOthers
leaves_others f args w name e = others f args w (meaning_of f args w) name e (deed f args w)

pub leaves_input : LeavesInput
leaves_input f args w e = input f args w (meaning_of f args w) e (deed f args w)

pub leaves_meta : LeavesMeta
leaves_meta f args w e = meta f args w (meaning_of f args w) e (deed f args w)

pub prints_nothing : PrintsNothing
prints_nothing f args w e = printed f args w (meaning_of f args w) e (deed f args w)

pub only_default : OnlyDefault
only_default f args w = default f args w (meaning_of f args w) (deed f args w)

pub ends_only : EndsOnly
unfolding meaning_of
ends_only f args w = ((λ e. ends f e), (λ e. halts f args w (meaning_of f args w) e (deed f args w)))
  where
    ends : (f : Function) → (traits f).ends ≡ true → meaning_of f args w ≡ Ends Halted
    ends function.Halt e = refl
    ends f e = absurd cc
