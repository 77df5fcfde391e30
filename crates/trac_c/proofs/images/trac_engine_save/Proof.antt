-- `trac_engine_save` looks at the machine and lays what it sees into a buffer. Assumes `Logic`.
use Rattle.trac_c.proofs.KeptLooks.{lays}
use Rattle.trac_c.proofs.images.lay_image.Met.{met}
use Rattle.trac_c.proofs.images.trac_engine_save.Statement.{statement}
use Rattle.trac_c.proofs.images.trac_engine_save.Code as code

pub trac_engine_save_spec : {M : Type 1} → statement M
trac_engine_save_spec 𝓤 𝓛 𝓜 𝓡 wired =
    lays 𝓤 𝓛 𝓜 𝓡 _ _ _ _ _ _ (code.unfolded 𝓤 𝓛.H 𝓜 𝓡 wired)
    (met 𝓤 𝓛 𝓜 𝓡 (code.calls-trac_c::images::lay_image 𝓡.env wired))
