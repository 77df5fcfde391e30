-- `from_raw` takes over what the caller owns. Assumes `Logic`.
use Rattle.std.proofs.Common.{◌≡◌, ℕ, List, [], ◌∷◌, ◌++◌, refl, sym, ap, ◌∙◌}
use mir.Syntax.{Fn}
use mir.Val.{Val}
use base.Logic.{SProp, emp, never, id⊢}
use prog.Wp.{WpFn}
use contract.Monad.{fact, fact_i}
use contract.Running.{tables}
use types.Kit.{‵, raw, ◌⊛◌, prop, ◌$◌, ◌∵◌, !, qed, by, move, keep, use0, split, regoal, rewrite, fjoin}
use types.Part.{agg}
use types.Run.{no_more, and_then, returns, enter}
use types.ByLocal.{alloc_all, pass_all, free_all, look_at, get, sets}
use denote.RattleType.{owns}
use denote.RawPtr.{Ptr, ptr_val, block_ptr, in_a_block}
use denote.Signature.{types_at}
use denote.Steps.{nothing}
use denote.Triple.Entry.{alive}
use denote.Triple.Walked.{Stays, stay_dropped, walk_of, Goes-dropped}
use Rattle.std.proofs.raw_atomic.Walks.{proved_at, leaves}
use Rattle.bumpalo.proofs.Values.{loan_val, loan_own, loan_made}
use Rattle.bumpalo.proofs.Walks.{slot_at}
use Rattle.trac_lent.specs.Units.{units_at}
use Rattle.trac_lent.specs.contracts.units.Units as owner
use Rattle.trac_lent.specs.contracts.units.Units.from_raw.{ended, clauses}
use Rattle.trac_lent.specs.contracts.units.Units.from_raw.Key.{name as #self}
use Rattle.trac_lent.proofs.units.Units.from_raw.Statement.{statement}
use Rattle.trac_lent.proofs.units.Units.from_raw.Code as compiled

pub from_raw_spec : {M : Type 1} → statement M
from_raw_spec 𝓤 𝓛 𝓜 𝓡 wired =
    let H = 𝓛.H in
    let fn : Fn = compiled.function in
    let stays : Stays ended.signature.params ended.kept = (stay_dropped (slot_at 0 ended.signature.params) ended.kept.0, tt) in
    let c = clauses 𝓛 𝓜.mem 𝓡.returns in
    let C = (tables 𝓤 H 𝓜 𝓡 𝓡.env).C in
    let Λ = (tables 𝓤 H 𝓜 𝓡 𝓡.env).Λ in
    proved_at 𝓛 ended stays c 𝓜 𝓡 (Goes-dropped 𝓛 0 (slot_at 0 ended.signature.params) ended.kept.0 (λ κs x f. refl), tt) #self fn (compiled.unfolded 𝓤 H 𝓜 𝓡 wired) (λ z are.
    let Post : Val → SProp 𝓤 = (walk_of 𝓛 ended stays c).post z in
    let a = z.0.3 in
    let vss = z.0.4 in
    let p = a.0 in
    let count : ℕ = z.1 in
    qed 𝓛 ((raw (alive 𝓛 ended.signature z.0.0 z.0.1) ⊛ ‵ (owns (types_at ended.signature.params z.0.0) a vss)) ∷ ‵ (units_at count p) ∷ []) ∵ split ! $ keep ! (2 ∷ 0 ∷ []) $
    let x : (owner.the_row).Denot = record { ptr = p; count = count } in
    in_a_block ! p (λ (u : Ptr). units_at count u) (id⊢ 𝓤 (never 𝓤)) (λ b o e.
    regoal ! (λ (us : List Val). prop (WpFn 𝓤 H C Λ fn us Post)) (λ i. (are.0 ∙ ap (λ (u : Ptr). ptr_val u ∷ []) e) i ++ []) refl $
    enter ! C Λ fn (ptr_val (block_ptr b o) ∷ []) Post $
    alloc_all ! (λ l. pass_all ! refl ((tt, tt), tt) $
    sets ! (agg ! (and_then ! (get ! refl) (no_more !))) refl (tt, (tt, tt)) $
    returns ! (look_at ! 0 refl) $ free_all ! refl $ rewrite ! 0 (λ (u : Ptr). ‵ (units_at count u)) (sym e) refl $
    use0 𝓛 (‵ (loan_own p (loan_val p ∷ []))) (loan_made 𝓛 p tt) $ rewrite ! 0 (λ (u : Ptr). ‵ (loan_own p (loan_val u ∷ []))) e refl $ fjoin ! $ use0 𝓛 (raw (fact 𝓤 (count ≡ count))) (fact_i 𝓤 (count ≡ count) (emp 𝓤) refl) $ nothing ! $ nothing ! $ fjoin ! $ move ! (3 ∷ 0 ∷ 2 ∷ 1 ∷ []) $
    by ! (leaves 𝓛 ended stays c z (loan_val (block_ptr b o)) x (tt, tt) (tt, tt)))))
