use Rattle.trac_core.proofs.Imports.{◌≡◌, ◌+◌, ◌++◌, ◌∙◌, None, take, used, ending, scene, Tried, true, List, Cell, ap, sym, subst, Contents, IsLastCall, prints_output, function_at}
use Rattle.trac_core.specs.Session.{call_prints}
use Rattle.trac_core.proofs.Performing.{performs-closed}
use Rattle.trac_core.proofs.Printed.{answers-printing}
use Rattle.trac_core.proofs.machine.printing.end_printing.Goals as goal

pub returns-clause-tried : goal.returns-clause-tried
returns-clause-tried c = λ meta source written.
    let old = c.args.work.now in
    let w = c.drop_active.new.self in
    let place = c.args.place in
    let rest = c.drop_active.ensures.rest in
    let p = performs-closed old w place c.requires.sound c.requires.closes c.requires.innermost rest in
    let same = ap (λ (w : Contents). w.neutral) rest in
    let prints = subst (λ (n : List Cell). prints_output (function_at n place) ≡ true) (sym same) c.requires.prints in
    let innermost = subst (λ (n : List Cell). IsLastCall n place) (sym same) c.requires.innermost in
    let tried = answers-printing w place c.drop_active.ensures.sound innermost prints meta source written old p in
    let need : c.finish_call.result.need ≡ used w + 0 = c.finish_call.ensures.need ∙ ap (λ n. n + 0) c.used-before.ensures.value in
    let told = subst (λ text. Tried (scene old meta source written) None (used w + 0) (scene (record w { neutral = take place w.neutral }) meta source (written ++ text)))
    (ap (λ (w : Contents). call_prints w place meta (ending source.bytes)) rest) tried in
    rw (need, c.finish_call.ensures.settled) told
