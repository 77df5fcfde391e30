-- Warnings that stay in front of others.
use Rattle.std.proofs.Common.{◌≡◌, ◌∙◌, ◌++◌, ◌∷◌, List, [], ap, map, sym, append-nil, append_assoc}
use Rattle.std.proofs.lemmas.List.{map-append}
use Rattle.std.specs.Prelude.{Err, Ok, OnOk, Result}
use Rattle.trac_warnings.specs.Performed.{Warns}
use Rattle.trac_warnings.specs.Watched.{Adds, Kept, Said, said}
use Rattle.trac_warnings.specs.declared.warning.Warning.{Warning}

pub kept_same : {A : Type 0} (a b : List (Warning A)) → b ≡ a → Kept a b
unfolding Kept
kept_same a b is = ([], is ∙ sym (append-nil a))

pub kept_more : {A : Type 0} (a b c : List (Warning A)) → Kept a b → Kept b c → Kept a c
unfolding Kept
kept_more {A} a b c k l = (k.0 ++ l.0, l.1 ∙ ap (λ (x : List (Warning A)). x ++ l.0) k.1 ∙ append_assoc a k.0 l.0)

pub kept_pushed : {A : Type 0} (a b : List (Warning A)) (x : Warning A) → b ≡ a ++ x ∷ [] → Kept a b
unfolding Kept
kept_pushed a b x is = (x ∷ [], is)

pub said_pushed : {A : Type 0} (a b : List (Warning A)) (x : Warning A) → b ≡ a ++ x ∷ [] → Adds a b (said x)
said_pushed a b x is = ap (map said) is ∙ map-append said a (x ∷ [])

-- no warning was added where there is none
pub nothing_said : {A : Type 0} (ws : List (Warning A)) (more : List Said) → more ≡ [] → Warns ws ws more
nothing_said ws more none = sym (ap (λ t. map said ws ++ t) none ∙ append-nil (map said ws))

pub on_ok : {A E : Type 0} (r : Result A E) (P Q : Type 0) → (P → Q) → OnOk r P → OnOk r Q
on_ok (Ok x) P Q f p = f p
on_ok (Err e) P Q f p = p

pub on_both : {A E : Type 0} (r : Result A E) (P Q R : Type 0) → (P → Q → R) → OnOk r P → OnOk r Q → OnOk r R
on_both (Ok x) P Q R f p q = f p q
on_both (Err e) P Q R f p q = p

-- The lemmas for the functions that note warnings.
pub ruleset keeping = (kept_same, kept_more, kept_pushed)

-- The lemmas for the functions whose contracts say which warnings they note.
pub ruleset saying = (kept_same, kept_more, kept_pushed, said_pushed)
