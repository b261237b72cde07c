use Rattle.std.proofs.Common.{◌≡◌, ◌<◌, ℕ, false}
use Rattle.vol_layout.specs.declared.kind.Resource.TheVariants.{File}
use Rattle.lock_store.specs.Memories.{holds}
use Rattle.lock_store.specs.Views.{host_at}
use Rattle.recover_plan.proofs.leave.held_file.Given as goal

abbrev pub invariant-loop-file : goal.invariant-loop-file
invariant-loop-file g l = (f : ℕ) → f < l.file → holds (host_at l.world.locks l.host) (File f) ≡ false
