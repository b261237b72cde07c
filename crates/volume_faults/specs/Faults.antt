-- The faults that a check lists: all of the first stage that has any.
use Rattle.std.specs.Prelude.{◌≡◌, ◌≢◌, ◌⊎◌, ℕ, List, [], ◌∷◌}
use Rattle.vol_layout.specs.declared.geometry.Geometry.{Geometry}
use Rattle.image_view.specs.Images.{Image, geometry_of}
use Rattle.volume_faults.specs.declared.fault.Fault.{Fault}
use Rattle.volume_faults.specs.Lists.{Lists}
use Rattle.volume_faults.specs.Sites.{HasSite, IsRight, Site, stage_of}

-- the sites of a stage that the volume has
abbrev pub IsOfStage : Geometry → Image → ℕ → Site → Type 0
IsOfStage g image stage site = (stage_of site ≡ stage) × HasSite g image site

-- all that a stage asks holds
abbrev pub IsPassed : Geometry → ℕ → Image → ℕ → Type 0
IsPassed g counter image stage = (site : Site) → IsOfStage g image stage site → IsRight g counter image site

-- of these stages, in order: all faults of the first one that has any, and none where each is passed
abbrev pub AreOfFirst : List ℕ → Geometry → ℕ → Image → List Fault → Type 0
AreOfFirst [] g counter image faults = faults ≡ []
AreOfFirst (stage ∷ stages) g counter image faults =
    ((faults ≢ []) × Lists (IsOfStage g image stage) g counter image faults)
    ⊎ (IsPassed g counter image stage × AreOfFirst stages g counter image faults)

-- the faults of a volume, on a device whose counter is this
unfoldable pub AreFaults : ℕ → Image → List Fault → Type 0
AreFaults counter image faults = AreOfFirst (1 ∷ 2 ∷ 3 ∷ 4 ∷ []) (geometry_of image) counter image faults

-- the faults of a volume whose superblock is right and which is whole
unfoldable pub AreTableFaults : Geometry → ℕ → Image → List Fault → Type 0
AreTableFaults g counter image faults = AreOfFirst (2 ∷ 3 ∷ 4 ∷ []) g counter image faults
