use Rattle.trac_functions.proofs.Imports.{refl, sym, ap, ◌∙◌, function_named, texts_from}
use Rattle.trac_functions.proofs.ArgumentLemmas.{first-read, behind-first, taken-rest, taken-left}
use Rattle.trac_functions.proofs.arguments.Arguments.function.Goals as goal

pub returns-in_default-clause-named : goal.returns-in_default-clause-named
returns-in_default-clause-named c =
    sym c.in_default.is ∙ c.function_before_comma.ensures.named
    ∙ ap function_named (first-read c.args.work.now c.args.self.now c.requires.some _ c.neutral_part.ensures)

pub returns-clause-named : goal.returns-clause-named
returns-clause-named c =
    sym c.in-Some.is ∙ c.function_before_comma.ensures.named
    ∙ ap function_named (first-read c.args.work.now c.args.self.now c.requires.some _ c.neutral_part.ensures)

pub returns-clause-rest : goal.returns-clause-rest
returns-clause-rest c = λ some.
    let w = c.args.work.now in
    let a = c.args.self.now in
    ap (λ k. texts_from w.neutral k a.end) (behind-first w a c.requires.some _ c.neutral_part.ensures 2 (c.in-Some.ensures.two refl))
    ∙ taken-rest w a c.requires.arguments c.requires.some

pub returns-clause-left : goal.returns-clause-left
returns-clause-left c =
    let w = c.args.work.now in
    let a = c.args.self.now in
    taken-left w a _ c.requires.arguments c.requires.some
    (behind-first w a c.requires.some _ c.neutral_part.ensures 2 (c.in-Some.ensures.two refl)) refl
