-- The tables that three hosts keep.
use Rattle.std.specs.Prelude.{◌≡◌, ℕ, None}
use Rattle.vol_layout.specs.declared.geometry.Geometry.{Geometry}
use Rattle.vol_layout.specs.declared.kind.Table.{Table}
use Rattle.held_cache.specs.Kept.{Cache, kept_at}
use Rattle.host_facts.specs.Views.{WorldView}
use Rattle.file_plans.specs.Bases.{IsCached}

-- hosts 0, 1 and 2 know what they keep
abbrev pub AreCached : WorldView → Cache → Cache → Cache → Type 0
AreCached v zero one two = IsCached v zero 0 × IsCached v one 1 × IsCached v two 2

-- nothing is kept
abbrev pub IsEmpty : Geometry → Cache → Type 0
IsEmpty g c = (c.volume ≡ g) × ((h : ℕ) (t : Table) → kept_at c h t ≡ None)
