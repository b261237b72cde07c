-- What a host knows.
use Rattle.std.specs.Prelude.{ℕ}
use Rattle.lock_store.specs.Views.{host_at}
use Rattle.disk_locks.specs.Sure.{Sure}
use Rattle.host_facts.specs.Facts.{Fact, IsGuarded, Tells}
use Rattle.host_facts.specs.Views.{WorldView, record_at}

-- the host has in memory what guards the fact, and while its key is registered, the image is as the fact says
pub record Knows (v : WorldView) (h : ℕ) (a : Fact) : Type 0 where
  pub guard : IsGuarded v.locks.geometry (host_at v.locks h) (record_at v h) a
  pub sure : Sure v.locks h (λ image. Tells v.locks h image a)
