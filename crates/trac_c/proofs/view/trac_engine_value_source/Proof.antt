-- `trac_engine_value_source` looks at the machine, by a number. Assumes `Logic`.
use Rattle.trac_c.proofs.KeptLooks.{looks_by}
use Rattle.trac_c.proofs.source.next_source.Met.{met}
use Rattle.trac_c.proofs.view.trac_engine_value_source.Statement.{statement}
use Rattle.trac_c.proofs.view.trac_engine_value_source.Code as code

pub trac_engine_value_source_spec : {M : Type 1} → statement M
trac_engine_value_source_spec 𝓤 𝓛 𝓜 𝓡 wired =
    looks_by 𝓤 𝓛 𝓜 𝓡 _ _ _ _ _ _ (code.unfolded 𝓤 𝓛.H 𝓜 𝓡 wired)
    (met 𝓤 𝓛 𝓜 𝓡 (code.calls-trac_c::source::next_source 𝓡.env wired))
