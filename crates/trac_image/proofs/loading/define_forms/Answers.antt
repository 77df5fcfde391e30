use Rattle.std.proofs.Common.{List, ap, append-nil, arith, length, refl, subst, suc, sym, ◌++◌, ◌+◌, ◌-◌, ◌∙◌, ◌∷◌, ◌≡◌}
use Rattle.std.proofs.lemmas.Bool.{true≢false}
use Rattle.trac_language.specs.Form.{Form}
use Rattle.trac_language.specs.State.{size}
use Rattle.trac_language.specs.Store.{cells}
use Rattle.trac_core.specs.Changing.{given, with_form, with_forms}
use Rattle.trac_core.specs.Machine.{MachineState}
use Rattle.trac_image.specs.Fitting.{AreDistinct, AreFit}
use Rattle.trac_image.specs.Items.{items_of}
use Rattle.trac_image.specs.Reading.{behind_form, form_in, forms_in, heads_in}
use Rattle.trac_image.specs.declared.reading.Heads.{Heads}
use Rattle.trac_image.proofs.Defining.{defined-next}
use Rattle.trac_image.proofs.Fitted.{all-left, fit-first, fit-next, has-room}
use Rattle.trac_image.proofs.ReadBack.{length-woven}
use Rattle.trac_image.specs.Reading.{characters_in, gaps_in}
use Rattle.trac_image.proofs.loading.define_forms.Goals as goal

pub loop-i-init : goal.loop-i-init
loop-i-init c =
    let m : MachineState = c.args.machine.now in
    let t = c.args.forms.now in
    let none = c.requires.none in
    let room : m.room + cells m.memory.forms - size m.memory ≡ m.room - size m.memory = omega (arith, ap cells none) in
    record {
      all = ap (λ fs. fs ++ forms_in (c.args.count - 0) t) none ∙ ap (λ n. forms_in n t) (all-left c.args.count);
      same = refl;
      fit = subst (λ n. AreFit n (m.room - size m.memory) t) (sym (all-left c.args.count)) (subst (λ room. AreFit c.args.count room t) room c.requires.fit);
    }

pub define_items-requires-clause-len : goal.define_items-requires-clause-len
define_items-requires-clause-len c =
    let t = c.loop-i.rest.now in
    ap (λ (h : Heads). h.body) c.heads_of-heads.ensures
    ∙ sym (ap length c.of-body.ensures ∙ length-woven (heads_in t).body 0 (gaps_in t) (characters_in t))

pub define_items-requires-clause-pointer : goal.define_items-requires-clause-pointer
define_items-requires-clause-pointer c =
    let m : MachineState = c.loop-i.machine in
    let t = c.loop-i.rest.now in
    let one : c.args.count - c.loop-i.i ≡ suc (c.args.count - (c.loop-i.i + 1)) = omega (arith, c.loop-i-test.true) in
    let here = fit-first _ _ (m.room - size m.memory) t one c.loop-i.invariant.fit in
    let body : c.heads_of-heads.result.body ≡ (heads_in t).body = ap (λ (h : Heads). h.body) c.heads_of-heads.ensures in
    let pointer : c.heads_of-heads.result.pointer ≡ (heads_in t).pointer = ap (λ (h : Heads). h.pointer) c.heads_of-heads.ensures in
    omega (arith, here.0.pointer, body, pointer)

pub returns-in_err-define_items-clause-ok : goal.returns-in_err-define_items-clause-ok
returns-in_err-define_items-clause-ok c =
    let m : MachineState = c.loop-i.machine in
    let t = c.loop-i.rest.now in
    let one : c.args.count - c.loop-i.i ≡ suc (c.args.count - (c.loop-i.i + 1)) = omega (arith, c.loop-i-test.true) in
    let here = fit-first _ _ (m.room - size m.memory) t one c.loop-i.invariant.fit in
    let body : c.heads_of-heads.result.body ≡ (heads_in t).body = ap (λ (h : Heads). h.body) c.heads_of-heads.ensures in
    let name = ap length c.name_of.ensures in
    let room = has-room m.room (size m.memory) t here.1 in
    absurd (true≢false (sym (c.in_err-define_items.ensures.taken.1 (omega (arith, body, name, room)))))

pub returns-in_err-define_items-clause-defined : goal.returns-in_err-define_items-clause-defined
returns-in_err-define_items-clause-defined c =
    let m : MachineState = c.loop-i.machine in
    let t = c.loop-i.rest.now in
    let one : c.args.count - c.loop-i.i ≡ suc (c.args.count - (c.loop-i.i + 1)) = omega (arith, c.loop-i-test.true) in
    let here = fit-first _ _ (m.room - size m.memory) t one c.loop-i.invariant.fit in
    let body : c.heads_of-heads.result.body ≡ (heads_in t).body = ap (λ (h : Heads). h.body) c.heads_of-heads.ensures in
    let name = ap length c.name_of.ensures in
    let room = has-room m.room (size m.memory) t here.1 in
    absurd (true≢false (sym (c.in_err-define_items.ensures.taken.1 (omega (arith, body, name, room)))))

pub loop-i-preserved : goal.loop-i-preserved
loop-i-preserved c =
    let m : MachineState = c.loop-i.machine in
    let after : MachineState = c.define_items.new.self in
    let t = c.loop-i.rest.now in
    let k = c.args.count - (c.loop-i.i + 1) in
    let one : c.args.count - c.loop-i.i ≡ suc k = omega (arith, c.loop-i-test.true) in
    let here = fit-first _ k (m.room - size m.memory) t one c.loop-i.invariant.fit in
    let form : given c.name_of.result.now (items_of c.of-body.result) c.heads_of-heads.result.pointer ≡ form_in t =
    (λ i. record { name = c.name_of.ensures i; body = c.of-body.ensures i; pointer = (c.heads_of-heads.ensures i).pointer }) in
    let whole : m.memory.forms ++ form_in t ∷ forms_in k (behind_form t) ≡ forms_in c.args.count c.args.forms.now =
    ap (λ n. m.memory.forms ++ forms_in n t) (sym one) ∙ c.loop-i.invariant.all in
    let is : after ≡ with_forms (with_form (form_in t) m.memory.forms) m =
    c.in_ok-define_items.ensures.ok ∙ ap (λ (f : Form). with_forms (with_form f m.memory.forms) m) form in
    let next = defined-next m c.args.machine.now after (form_in t) (forms_in k (behind_form t)) c.loop-i.invariant.same (subst AreDistinct (sym whole) c.requires.distinct) is in
    let behind = c.behind_form-rest.ensures in
    record {
      all = ap (λ s. after.memory.forms ++ forms_in k s) behind ∙ next.forms ∙ whole;
      same = next.same;
      fit = (fit-next _ k t _ one behind (m.room - size m.memory) _ here.0 here.1 next.room).whole c.loop-i.invariant.fit;
    }

pub returns : goal.returns
returns c =
    let m : MachineState = c.loop-i.machine in
    let none : c.args.count - c.loop-i.i ≡ 0 = omega (arith, c.loop-i-test.false) in
    let last : m.memory.forms ++ forms_in (c.args.count - c.loop-i.i) c.loop-i.rest.now ≡ m.memory.forms =
    ap (λ n. m.memory.forms ++ forms_in n c.loop-i.rest.now) none ∙ simp append-nil in
    record {
      ok = refl;
      defined = c.loop-i.invariant.same ∙ ap (λ (fs : List Form). with_forms fs c.args.machine.now) (sym last ∙ c.loop-i.invariant.all);
    }
