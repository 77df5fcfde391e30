-- `trac_engine_argument_count` looks at the machine. Assumes `Logic`.
use Rattle.trac_c.proofs.KeptLooks.{looks}
use Rattle.trac_c.proofs.strings.argument_count.Met.{met}
use Rattle.trac_c.proofs.view.trac_engine_argument_count.Statement.{statement}
use Rattle.trac_c.proofs.view.trac_engine_argument_count.Code as code

pub trac_engine_argument_count_spec : {M : Type 1} → statement M
trac_engine_argument_count_spec 𝓤 𝓛 𝓜 𝓡 wired =
    looks 𝓤 𝓛 𝓜 𝓡 _ _ _ _ _ _ (code.unfolded 𝓤 𝓛.H 𝓜 𝓡 wired)
    (met 𝓤 𝓛 𝓜 𝓡 (code.calls-trac_c::strings::argument_count 𝓡.env wired))
