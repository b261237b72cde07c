-- The step of a call that has its hold: what is seen is what its stage wants.
use Rattle.std.proofs.Common.{◌≡◌, Option, subst}
use Rattle.vol_base.specs.Packing.{Packing}
use Rattle.vol_layout.specs.declared.geometry.Geometry.{Geometry}
use Rattle.vol_layout.specs.declared.kind.Table.{Table}
use Rattle.file_plans.specs.Sights.{IsSight}
use Rattle.file_plans.specs.declared.call.FileCall.{FileCall}
use Rattle.file_plans.specs.declared.sight.Sight.{Sight}

pub sight_as : (g k : Geometry) (known : Table → Option Packing) (call : FileCall) (s t : Sight) → g ≡ k → s ≡ t → IsSight g known call s
    → IsSight k known call t
sight_as g k known call s t geometry same is =
    subst (λ (u : Geometry). IsSight u known call t) geometry (subst (IsSight g known call) same is)
