-- What each answer of a share says of the volume.
use Rattle.std.specs.Prelude.{◌≡◌, ◌≢◌, ◌<◌, ◌+◌, ℕ, List, [], None, Option, Some, slice_index}
use Rattle.vol_layout.specs.declared.field.Field.TheVariants.{Count, Slot}
use Rattle.vol_layout.specs.declared.geometry.Geometry.{Geometry}
use Rattle.vol_layout.specs.declared.kind.Kind.TheVariants as kinds
use Rattle.vol_layout.specs.Fields.{HasField}
use Rattle.image_view.specs.Images.{Image, block_at}
use Rattle.image_view.specs.Links.{IsLink}
use Rattle.image_view.specs.Numbers.{field}
use Rattle.call_effects.specs.Changes.{Changes}
use Rattle.lock_store.specs.Views.{key_at, told_of}
use Rattle.disk_locks.specs.Sure.{BothTold}
use Rattle.host_facts.specs.Views.{WorldView}
use Rattle.share_plans.specs.Closings.{ChangesNothing}
use Rattle.share_plans.specs.Places.{HasBlock, field_of, shown_at}
use Rattle.share_plans.specs.declared.sharing.Place.{Place}
use Rattle.share_plans.specs.declared.sharing.Place.TheVariants.{Arena, File}
use Rattle.share_plans.specs.declared.sharing.Shared.{Shared}
use Rattle.share_plans.specs.declared.sharing.Shared.TheVariants as answers
use Rattle.share_plans.specs.declared.stage.Core.{Core}
use Rattle.share_plans.specs.declared.stage.Pair.{Pair}
use Rattle.share_plans.specs.declared.stage.Stage.{Stage}
use Rattle.share_plans.specs.declared.stage.Stage.TheVariants as stages

-- the first place at which two blocks differ
pub record IsApartAt (xs ys : List ℕ) (at : ℕ) : Type 0 where
  pub below : at < 4096
  pub differ : slice_index xs at ≢ slice_index ys at
  pub before : (k : ℕ) → k < at → slice_index xs k ≡ slice_index ys k

-- the place has this data block
abbrev pub HasOwn : Geometry → Image → Core → ℕ → Type 0
HasOwn g image core d = shown_at g image core.file core.index ≡ Some d

-- the place and the source have these data blocks, which are two
pub record HavePair (g : Geometry) (image : Image) (core : Core) (pair : Pair) : Type 0 where
  pub own : HasOwn g image core pair.own
  pub from : HasBlock g image core.source pair.source
  pub other : pair.own ≢ pair.source

-- the place has a block and the source has none: a file at its index; a slot is empty in its table when it is read first, and has another
-- data block there when it is read again
abbrev pub HasNoSource : Geometry → Image → Core → Place → Stage → Type 0
HasNoSource g image core (File f i) stage = ((d : ℕ) × HasOwn g image core d) × (shown_at g image f i ≡ None)
HasNoSource g image core (Arena s) (stages.Peeks own) = HasOwn g image core own × (field g image (Slot s) ≡ 0)
HasNoSource g image core (Arena s) (stages.PeeksAgain pair) = HasOwn g image core pair.own × (field g image (Slot s) ≢ pair.source + 1)
HasNoSource g image core (Arena s) stage = ⊥

-- the bytes of the place's data block and of the source's differ there for the first time
abbrev pub Differ : Geometry → Image → Core → Stage → ℕ → Type 0
Differ g image core (stages.ReadsOwn pair block) at =
    HavePair g image core pair × IsApartAt (block_at g image (kinds.Number pair.own)) (block_at g image (kinds.Number pair.source)) at
Differ g image core stage at = ⊥

-- every data block keeps its bytes
abbrev pub KeepsBlocks : Geometry → Image → Image → Type 0
KeepsBlocks g old new = (d : ℕ) → HasField g (Count d) → block_at g new (kinds.Number d) ≡ block_at g old (kinds.Number d)

-- both were there with two data blocks of equal bytes, and the place is linked to the source; every data block stays
abbrev pub AreLinked : Geometry → Image → Image → Core → Stage → Type 0
AreLinked g old new core (stages.Commits pair group other) =
    HavePair g old core pair × IsLink g old new core.file core.index (field_of core.source) × KeepsBlocks g old new
AreLinked g old new core stage = ⊥

-- what an answer says of the image before the call at which it was found, and of that behind it; no logical number and no data block
-- changes but by a link
abbrev pub IsCause : Geometry → Core → Stage → Shared → Image → Image → Type 0
IsCause g core stage answers.Linked old new = AreLinked g old new core stage
IsCause g core stage answers.Already old new =
    ((d : ℕ) × HasOwn g old core d × HasBlock g old core.source d) × Changes g [] None old new
IsCause g core stage (answers.Differs at) old new = Differ g old core stage at × Changes g [] None old new
IsCause g core stage answers.Hole old new = (shown_at g old core.file core.index ≡ None) × Changes g [] None old new
IsCause g core stage answers.NoSource old new = HasNoSource g old core core.source stage × Changes g [] None old new
IsCause g core stage (answers.Busy key) old new = Changes g [] None old new

-- a key that was shown is another host's
abbrev pub IsOtherKey : WorldView → ℕ → Shared → Type 0
IsOtherKey v h (answers.Busy key) = key.0 ≢ key_at v.locks h
IsOtherKey v h answer = Unit {0}

-- what a step did about the answer, by the one that was known before and the one behind it: one that is known stays, and one that is
-- found has its cause; and no logical number changes but by a link
abbrev pub HasAnswered : WorldView → WorldView → Core → Stage → Option Shared → Option Shared → Type 0
HasAnswered v w core stage None None = ChangesNothing v w
HasAnswered v w core stage None (Some answer) =
    BothTold (told_of v.locks) (told_of w.locks) (IsCause v.locks.geometry core stage answer) × IsOtherKey v core.host answer
HasAnswered v w core stage (Some answer) None = ⊥
HasAnswered v w core stage (Some answer) (Some after) = (after ≡ answer) × ChangesNothing v w
