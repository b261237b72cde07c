use Rattle.std.proofs.Common.{refl, subst, sym}
use Rattle.lock_store.specs.Devices.{IsDevice}
use Rattle.lock_store.specs.Views.{LocksView}
use Rattle.disk_locks.specs.Consistent.{Consistent}
use Rattle.disk_locks.proofs.OtherCalls.{new_law}
use Rattle.disk_locks.proofs.locks.Locks.new.Goals as goal

pub invariant_of-result : goal.invariant_of-result
invariant_of-result g c =
    let is = c.new-store.ensures in
    let device = subst (λ (v : LocksView). IsDevice v.disk.state) is c.known.ensures.device in
    subst Consistent (sym is) (new_law _ refl c.requires.geometry c.requires.long device c.requires.valid)
