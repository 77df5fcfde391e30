-- `trac_engine_printed` looks at the machine, by a number, and lays what it sees into a buffer. Assumes `Logic`.
use Rattle.trac_c.proofs.KeptLooks.{lays_by}
use Rattle.trac_c.proofs.forms.lay_printed.Met.{met}
use Rattle.trac_c.proofs.view.trac_engine_printed.Statement.{statement}
use Rattle.trac_c.proofs.view.trac_engine_printed.Code as code

pub trac_engine_printed_spec : {M : Type 1} → statement M
trac_engine_printed_spec 𝓤 𝓛 𝓜 𝓡 wired =
    lays_by 𝓤 𝓛 𝓜 𝓡 _ _ _ _ _ _ (code.unfolded 𝓤 𝓛.H 𝓜 𝓡 wired)
    (met 𝓤 𝓛 𝓜 𝓡 (code.calls-trac_c::forms::lay_printed 𝓡.env wired))
