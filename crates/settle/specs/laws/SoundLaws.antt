-- A valid volume can be settled.
use Rattle.std.proofs.Common.{ℕ}
use Rattle.vol_layout.specs.declared.field.Field.TheVariants.{Head, Pointer}
use Rattle.vol_layout.specs.declared.geometry.Geometry.{Geometry}
use Rattle.image_view.specs.Images.{Image}
use Rattle.image_view.specs.Numbers.{logical}
use Rattle.image_view.specs.Valid.{IsValid}
use Rattle.image_view.specs.laws.FileLaws.{logical_in_range, named_below}
use Rattle.settle.specs.Sound.{IsSound}

pub sound-valid : (g : Geometry) (counter : ℕ) (image : Image) → IsValid g counter image → IsSound g image
sound-valid g counter image valid = record {
  spelled = valid.geometry;
  heads = λ f below. logical_in_range g counter image (Head f) valid below;
  names = λ f i d has names. named_below g (logical g image (Pointer f i)) d (logical_in_range g counter image (Pointer f i) valid has) names;
}
