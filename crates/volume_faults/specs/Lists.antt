-- Lists of the faults of some sites.
use Rattle.std.specs.Prelude.{◌≡◌, ◌⊎◌, ◌++◌, ℕ, List, All, Contains}
use Rattle.vol_layout.specs.declared.geometry.Geometry.{Geometry}
use Rattle.image_view.specs.Images.{Image}
use Rattle.volume_faults.specs.declared.fault.Fault.{Fault}
use Rattle.volume_faults.specs.Order.{AreInOrder}
use Rattle.volume_faults.specs.Sites.{IsRight, Site, fault_at}

-- the fault of a site that is not right
pub record IsFaultOf (Among : Site → Type 0) (g : Geometry) (counter : ℕ) (image : Image) (fault : Fault) : Type 0 where
  pub site : Site
  pub among : Among site
  pub wrong : IsRight g counter image site → ⊥
  pub is : fault ≡ fault_at g image site

-- all faults of these sites, in order: each is one of a site that is not right, and each site is right or
-- its fault is listed
pub record Lists (Among : Site → Type 0) (g : Geometry) (counter : ℕ) (image : Image) (faults : List Fault) : Type 0 where
  pub each : All (IsFaultOf Among g counter image) faults
  pub whole : (site : Site) → Among site → IsRight g counter image site ⊎ Contains faults (fault_at g image site)
  pub order : AreInOrder faults

-- the list grew by all faults of these sites
pub record Adds (Among : Site → Type 0) (g : Geometry) (counter : ℕ) (image : Image) (old new : List Fault) : Type 0 where
  pub more : List Fault
  pub added : new ≡ old ++ more
  pub lists : Lists Among g counter image more
