-- `trac_engine_calls` looks at the machine and lays what it sees into a buffer. Assumes `Logic`.
use Rattle.trac_c.proofs.KeptLooks.{lays}
use Rattle.trac_c.proofs.strings.lay_calls.Met.{met}
use Rattle.trac_c.proofs.view.trac_engine_calls.Statement.{statement}
use Rattle.trac_c.proofs.view.trac_engine_calls.Code as code

pub trac_engine_calls_spec : {M : Type 1} → statement M
trac_engine_calls_spec 𝓤 𝓛 𝓜 𝓡 wired =
    lays 𝓤 𝓛 𝓜 𝓡 _ _ _ _ _ _ (code.unfolded 𝓤 𝓛.H 𝓜 𝓡 wired)
    (met 𝓤 𝓛 𝓜 𝓡 (code.calls-trac_c::strings::lay_calls 𝓡.env wired))
