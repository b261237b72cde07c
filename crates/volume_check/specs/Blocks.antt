-- Blocks that a check looks at.
use Rattle.std.specs.Prelude.{◌≡◌, ◌+◌, ◌<◌, ◌≤◌, ℕ}
use Rattle.vol_layout.specs.declared.geometry.Geometry.{Geometry}
use Rattle.vol_layout.specs.declared.kind.Kind.{Kind}
use Rattle.vol_layout.specs.Places.{place_of}
use Rattle.vol_layout.specs.Ranges.{HasKind}
use Rattle.volume_faults.specs.Sites.{Block, IsChecked, Site}

-- the site of a block that a check reads, at a place from one on to before another
pub record IsBlockIn (g : Geometry) (low high : ℕ) (site : Site) : Type 0 where
  pub kind : Kind
  pub is : site ≡ Block kind
  pub has : HasKind g kind
  pub checked : IsChecked kind
  pub from : low ≤ place_of g kind
  pub to : place_of g kind < high

-- the site of the block at a place
abbrev pub IsBlockAt : Geometry → ℕ → Site → Type 0
IsBlockAt g place = IsBlockIn g place (place + 1)
