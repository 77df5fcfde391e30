use Rattle.trac_devices.proofs.Imports.{take, refl, subst, sym, unread, IfTells}
use Rattle.trac_devices.proofs.Bytes.{taken_known}
use Rattle.trac_devices.proofs.input.InputSource.take_held.Goals as goal

pub returns-clause-reads : goal.returns-clause-reads
returns-clause-reads g c =
    let r = c.self.inside.reader in
    let count = c.push_before-count.result in (
      take count c.held.result.now,
      (
        record { pushed = c.push_before-count.ensures.last; no_meta = c.push_before-count.ensures.before },
        λ tells.
            let told = subst (λ v. IfTells (unread g.R.Read.remaining v.reader) v.ended) (sym c.self.view_is) tells in
            rw (← c.self.view_is, c.skip.ensures, c.held.ensures)
            (taken_known r.held count (g.R.Read.remaining r.device.reader) c.self.inside.ended told, refl),
      ),
    )
