-- What the write of one block owes.
use Rattle.std.specs.Prelude.{ℕ, List}
use Rattle.vol_layout.specs.declared.kind.Kind.{Kind}
use Rattle.image_view.specs.Images.{written}
use Rattle.image_view.specs.Valid.{IsValid}
use Rattle.lock_store.specs.Views.{LocksView, counter_of, host_at}
use Rattle.disk_locks.specs.MayWrite.{MayWrite}
use Rattle.disk_locks.specs.Sure.{Sure}

-- the host is sure that the written image is valid, and that no other host is wronged
abbrev pub MayPut : LocksView → ℕ → Kind → List ℕ → Type 0
MayPut v h kind block =
    Sure v h (λ image. IsValid v.geometry (counter_of v) (written v.geometry image kind block))
    × Sure v h (λ image. MayWrite v.geometry h (host_at v h) image kind block)
