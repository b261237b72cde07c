use Rattle.std.specs.Prelude.{◌+◌, ◌-◌, ◌*◌, ◌/◌, ◌%◌, ℕ, zero, suc, List, [], ◌∷◌, length}
use Rattle.vol_layout.specs.declared.geometry.Geometry.{Geometry}
use Rattle.vol_layout.specs.declared.kind.Resource.TheVariants as resources
use Rattle.vol_layout.specs.declared.kind.Table.TheVariants as tables
use Rattle.vol_layout.specs.declared.kind.Kind.{Kind}
use Rattle.vol_layout.specs.declared.kind.Kind.TheVariants as kinds
use Rattle.vol_layout.specs.Ranges.{data_blocks}

-- a run of blocks of one sort: how many they are, and what each is
pub record Region : Type 0 where
  pub size : ℕ
  pub kind : ℕ → Kind

-- the regions of a volume, in the order of their places
unfoldable pub regions : Geometry → List Region
regions g =
    record { size = 1; kind = λ i. kinds.Super }
    ∷ record { size = g.hosts; kind = λ h. kinds.Slot h }
    ∷ record { size = g.hosts; kind = λ h. kinds.Journal h }
    ∷ record { size = g.files; kind = λ f. kinds.Lock (resources.File f) }
    ∷ record { size = g.parts; kind = λ p. kinds.Lock (resources.Part p) }
    ∷ record { size = g.groups; kind = λ r. kinds.Lock (resources.Group r) }
    ∷ record { size = g.files; kind = λ f. kinds.Table (tables.File f) }
    ∷ record { size = g.groups; kind = λ r. kinds.Table (tables.Group r) }
    ∷ record { size = g.parts; kind = λ p. kinds.Table (tables.Part p) }
    ∷ record { size = g.hosts * g.logs; kind = λ i. kinds.Log (i / g.logs) (i % g.logs) }
    ∷ record { size = g.shards; kind = λ s. kinds.Shard s }
    ∷ record { size = g.files; kind = λ f. kinds.Request f }
    ∷ record { size = data_blocks g; kind = λ d. kinds.Number d }
    ∷ record { size = g.files * (g.tables - 1); kind = λ i. kinds.Table (tables.More (i / (g.tables - 1)) (i % (g.tables - 1) + 1)) }
    ∷ []

-- how many blocks stand before a region
abbrev pub start : List Region → ℕ → ℕ
start [] r = 0
start (x ∷ xs) zero = 0
start (x ∷ xs) (suc r) = x.size + start xs r

-- how many blocks a volume has
unfoldable pub total : Geometry → ℕ
total g = start (regions g) (length (regions g))
