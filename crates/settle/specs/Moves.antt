-- What links leave of an image.
use Rattle.std.specs.Prelude.{◌≡◌, ◌≢◌, ◌<◌, ℕ}
use Rattle.vol_layout.specs.declared.field.Field.TheVariants.{Head, Pointer}
use Rattle.vol_layout.specs.declared.geometry.Geometry.{Geometry}
use Rattle.vol_layout.specs.Fields.{HasField}
use Rattle.image_view.specs.Images.{Image}
use Rattle.image_view.specs.Numbers.{logical}
use Rattle.share_plans.specs.Places.{shown_at}
use Rattle.settle.specs.Contents.{held}
use Rattle.settle.specs.Links.{Shares}
use Rattle.settle.specs.Sound.{IsSound}

-- each change was a link of equal blocks: every file keeps its length, and each place its bytes
pub record Stays (g : Geometry) (old new : Image) : Type 0 where
  pub shares : Shares g old new
  pub sound : IsSound g new
  pub heads : (f : ℕ) → f < g.files → logical g new (Head f) ≡ logical g old (Head f)
  pub kept : (f i : ℕ) → HasField g (Pointer f i) → held g new f i ≡ held g old f i

-- and every place but this one keeps its data block
pub record Moves (g : Geometry) (f i : ℕ) (old new : Image) : Type 0 where
  pub stays : Stays g old new
  pub others : (h j : ℕ) → HasField g (Pointer h j) → Pointer h j ≢ Pointer f i → shown_at g new h j ≡ shown_at g old h j
