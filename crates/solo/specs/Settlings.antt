-- What a volume is that was settled.
use Rattle.std.specs.Prelude.{◌≡◌, Err, Ok, Result}
use Rattle.image_view.specs.Images.{Image, geometry_of}
use Rattle.image_view.specs.Settled.{IsSettled}
use Rattle.settle.specs.Distinct.{HasContents}
use Rattle.settle.specs.Totals.{live_places}
use Rattle.settle.specs.declared.lone.LoneNo.{LoneNo}
use Rattle.settle.specs.declared.settling.Settled.{Settled}

-- any two live places with equal bytes show one data block, so many places are live, and they hold so many different blocks
pub record HasSettled (counts : Settled) (image : Image) : Type 0 where
  pub settled : IsSettled image
  pub live : counts.live ≡ live_places (geometry_of image) image
  pub distinct : HasContents (geometry_of image) image counts.distinct

-- what is answered of the work and of the leave behind it: a refusal of the work comes first
abbrev pub both_of : Result Settled LoneNo → Result Unit LoneNo → Result Settled LoneNo
both_of (Ok counts) (Ok done) = Ok counts
both_of (Ok counts) (Err why) = Err why
both_of (Err why) left = Err why
