use Rattle.trac_core.proofs.Imports.{◌∙◌, sym, ap, seen}
use Rattle.std.specs.Option.{option_map}
use Rattle.trac_core.proofs.OpenCalls.{mode-none}
use Rattle.trac_core.proofs.machine.open_calls.mode_at.Goals as goal

pub returns-in_default-2 : goal.returns-in_default-2
returns-in_default-2 c =
    mode-none c.args.work.now.neutral c.args.place (sym c.neutral_at.ensures ∙ ap (option_map seen) c.in_default.is)
