-- What the world ends as, where its locks are lent.
use Rattle.std.specs.Borrow.{Fml, Lends, MutBor, RattleType}
use Rattle.shared_disk.specs.declared.device.Device.{Ghosts}
use Rattle.lock_store.specs.Views.{LocksView}
use Rattle.disk_locks.specs.contracts.locks.Locks as locks
use Rattle.host_facts.specs.Views.{WorldView, with_locks}
use Rattle.meta_world.specs.contracts.world.MetaWorld.{the_row}

-- once the loan ends, the locks are those that it shows last, and the rest is as before
abbrev pub LendsLocks : (D : RattleType) → Ghosts D.Denot → MutBor WorldView → MutBor LocksView → Fml
LendsLocks D device world lent = Lends (the_row D device) (locks.the_row D device) world lent (with_locks world.now)
