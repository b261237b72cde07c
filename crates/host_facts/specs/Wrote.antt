-- What a call that writes one block leaves to the host that makes it, and what it does to the image.
use Rattle.std.specs.Prelude.{◌≡◌, ℕ, Contains, IfSome, List}
use Rattle.vol_layout.specs.declared.geometry.Geometry.{Geometry}
use Rattle.vol_layout.specs.declared.kind.Kind.{Kind}
use Rattle.vol_layout.specs.declared.field.Edit.{Edit}
use Rattle.image_view.specs.Images.{Image, written}
use Rattle.image_view.specs.Valid.{IsValid}
use Rattle.call_effects.specs.Changes.{Changes, Data}
use Rattle.call_effects.specs.Places.{KeepsFiles}
use Rattle.lock_store.specs.Views.{counter_of, host_at, key_at, keys_of, told_of}
use Rattle.disk_locks.specs.Sure.{BothTold}
use Rattle.host_facts.specs.Facts.{Fact}
use Rattle.host_facts.specs.Knows.{Knows}
use Rattle.host_facts.specs.Spares.{Spares}
use Rattle.host_facts.specs.Views.{WorldView}

-- the block of one kind is written and no other one, which makes exactly these edits of logical numbers
pub record Writing (g : Geometry) (kind : Kind) (block : List ℕ) (es : List Edit) (put : Data) (old new : Image) : Type 0 where
  pub only : new ≡ written g old kind block
  pub changes : Changes g es put old new

-- the key was registered and is; memory is as before, every fact that the write spares stays, and the image is that with the one
-- block written
pub record Wrote (h : ℕ) (kind : Kind) (block : List ℕ) (es : List Edit) (put : Data) (v w : WorldView) : Type 0 where
  pub memory : host_at w.locks h ≡ host_at v.locks h
  pub geometry : w.locks.geometry ≡ v.locks.geometry
  pub keys : keys_of w.locks ≡ keys_of v.locks
  pub registered : Contains (keys_of v.locks) (key_at v.locks h)
  pub facts : (a : Fact) → Spares h kind es a → Knows v h a → Knows w h a
  pub images : BothTold (told_of v.locks) (told_of w.locks) (Writing v.locks.geometry kind block es put)

-- where the device tells its content, no file changed
abbrev pub FilesStay : WorldView → WorldView → Type 0
FilesStay v w = BothTold (told_of v.locks) (told_of w.locks) KeepsFiles

-- where the device tells its content, the image is valid
abbrev pub HasValidImage : WorldView → Type 0
HasValidImage v = IfSome (told_of v.locks) (λ t. IsValid v.locks.geometry (counter_of v.locks) t.image)
