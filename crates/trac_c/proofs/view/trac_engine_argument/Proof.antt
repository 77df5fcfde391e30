-- `trac_engine_argument` looks at the machine, by a number, and lays what it sees into a buffer. Assumes `Logic`.
use Rattle.trac_c.proofs.KeptLooks.{lays_by}
use Rattle.trac_c.proofs.forms.lay_argument.Met.{met}
use Rattle.trac_c.proofs.view.trac_engine_argument.Statement.{statement}
use Rattle.trac_c.proofs.view.trac_engine_argument.Code as code

pub trac_engine_argument_spec : {M : Type 1} → statement M
trac_engine_argument_spec 𝓤 𝓛 𝓜 𝓡 wired =
    lays_by 𝓤 𝓛 𝓜 𝓡 _ _ _ _ _ _ (code.unfolded 𝓤 𝓛.H 𝓜 𝓡 wired)
    (met 𝓤 𝓛 𝓜 𝓡 (code.calls-trac_c::forms::lay_argument 𝓡.env wired))
