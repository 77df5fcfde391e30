-- Forms of an image, from the first to the last.
use Rattle.std.proofs.Common.{ap, arith, length, subst, sym, suc, ℕ, ◌+◌, ◌-◌, ◌∙◌, ◌≡◌, ◌≢◌, ◌≤◌}
use Rattle.trac_language.specs.Text.{Text}
use Rattle.trac_language.specs.Store.{NoneNamed, form_cells}
use Rattle.trac_image.specs.Fitting.{AreDistinct, AreFit, IsFit}
use Rattle.trac_image.specs.Reading.{behind_form, behind_forms, characters_in, form_in, forms_in, gaps_in, heads_in, name_in}
use Rattle.trac_image.proofs.ReadBack.{length-woven}

-- one form fewer is left
pub record Both (A B : Type 0) : Type 0 where
  pub passed : B → A
  pub whole : A → B

-- of n forms in a text, m are behind the first, in the text s
module _ (n m : ℕ) (t s : Text) (one : n ≡ suc m) (behind : s ≡ behind_form t) where
  pub new-next : (name : Text) → name_in t ≢ name → Both (NoneNamed name (forms_in n t)) (NoneNamed name (forms_in m s))
  new-next name other =
      let first : Both (NoneNamed name (forms_in (suc m) t)) (NoneNamed name (forms_in m (behind_form t))) = record {
        passed = λ none. (other, none);
        whole = λ none. none.1;
      } in
      subst (λ n. Both (NoneNamed name (forms_in n t)) (NoneNamed name (forms_in m s))) (sym one)
      (subst (λ s. Both (NoneNamed name (forms_in (suc m) t)) (NoneNamed name (forms_in m s))) (sym behind) first)

  pub distinct-next : NoneNamed (name_in t) (forms_in m s) → Both (AreDistinct (forms_in n t)) (AreDistinct (forms_in m s))
  distinct-next none =
      let new = subst (λ s. NoneNamed (name_in t) (forms_in m s)) behind none in
      let first : Both (AreDistinct (forms_in (suc m) t)) (AreDistinct (forms_in m (behind_form t))) = record {
        passed = λ others. (new, others);
        whole = λ all. all.1;
      } in
      subst (λ n. Both (AreDistinct (forms_in n t)) (AreDistinct (forms_in m s))) (sym one)
      (subst (λ s. Both (AreDistinct (forms_in (suc m) t)) (AreDistinct (forms_in m s))) (sym behind) first)

  pub distinct-first : AreDistinct (forms_in n t) → NoneNamed (name_in t) (forms_in m s)
  distinct-first all =
      subst (λ s. NoneNamed (name_in t) (forms_in m s)) (sym behind) (subst (λ n. AreDistinct (forms_in n t)) one all).0

  pub fit-next : (room left : ℕ) → IsFit t → form_cells (form_in t) ≤ room → left ≡ room - form_cells (form_in t) → Both (AreFit n room t) (AreFit m left s)
  fit-next room left fit few rest =
      let first : Both (AreFit (suc m) room t) (AreFit m (room - form_cells (form_in t)) (behind_form t)) = record {
        passed = λ others. (fit, few, others);
        whole = λ all. all.2;
      } in
      subst (λ n. Both (AreFit n room t) (AreFit m left s)) (sym one)
      (subst (λ s. Both (AreFit (suc m) room t) (AreFit m left s)) (sym behind)
      (subst (λ left. Both (AreFit (suc m) room t) (AreFit m left (behind_form t))) (sym rest) first))

  pub behind-next : behind_forms m s ≡ behind_forms n t
  behind-next = ap (behind_forms m) behind ∙ ap (λ n. behind_forms n t) (sym one)

pub new-not : (name : Text) (n m : ℕ) (t : Text) → n ≡ suc m → name_in t ≡ name → NoneNamed name (forms_in n t) → ⊥
new-not name n m t one same none = (subst (λ n. NoneNamed name (forms_in n t)) one none).0 same

pub fit-first : (n m room : ℕ) (t : Text) → n ≡ suc m → AreFit n room t → IsFit t × (form_cells (form_in t) ≤ room)
fit-first n m room t one all =
    let here = subst (λ n. AreFit n room t) one all in
    (here.0, here.1)

-- nothing is left
pub none-left : (n : ℕ) → n ≤ 0 → n ≡ 0
none-left n none = omega (arith, none)

pub cells-read : (t : Text) → form_cells (form_in t) ≡ 3 + length (name_in t) + (heads_in t).body
cells-read t =
    let long = length-woven (heads_in t).body 0 (gaps_in t) (characters_in t) in
    omega (arith, long)

-- at first all is left
pub all-left : (n : ℕ) → n - 0 ≡ n
all-left n = omega arith

-- what is left has room for its first form
pub has-room : (room size : ℕ) (t : Text) → form_cells (form_in t) ≤ room - size → size + (3 + length (name_in t) + (heads_in t).body) ≤ room
has-room room size t few = omega (arith, cells-read t, few)
