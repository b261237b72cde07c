-- What a write of one block owes, and does.
use Rattle.std.specs.Prelude.{◌≡◌, ℕ, List}
use Rattle.vol_layout.specs.declared.geometry.Geometry.{Geometry}
use Rattle.vol_layout.specs.declared.kind.Kind.{Kind}
use Rattle.vol_layout.specs.declared.kind.Kind.TheVariants as kinds
use Rattle.vol_layout.specs.declared.field.Edit.{Edit}
use Rattle.image_view.specs.Images.{Image, written}
use Rattle.image_view.specs.Numbers.{journal}
use Rattle.image_view.specs.Valid.{IsValid}
use Rattle.call_effects.specs.Changes.{Changes, Data}
use Rattle.lock_store.specs.declared.host.HostState.{HostState}
use Rattle.disk_locks.specs.MayWrite.{MayWrite}

-- the image stays valid, no other host is wronged, and the logical numbers get exactly these edits; where it is the own journal
-- that is written, it then has them
pub record IsStep (g : Geometry) (counter h : ℕ) (m : HostState) (kind : Kind) (block : List ℕ) (es : List Edit) (put : Data)
    (image : Image) : Type 0 where
  pub valid : IsValid g counter (written g image kind block)
  pub may : MayWrite g h m image kind block
  pub changes : Changes g es put image (written g image kind block)
  pub own : kind ≡ kinds.Journal h → journal g (written g image kind block) h ≡ es
