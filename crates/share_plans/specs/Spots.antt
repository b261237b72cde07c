-- What the tables that were read say of the places of a share, and what is to be done next.
use Rattle.std.specs.Prelude.{◌≡◌, ◌≢◌, ◌⊎◌, ◌<◌, ◌+◌, ◌==◌, ℕ, Bool, true, None, if◌then◌else◌}
use Rattle.vol_layout.specs.declared.field.Field.{Field}
use Rattle.vol_layout.specs.declared.field.Field.TheVariants.{Count, Head, Pointer}
use Rattle.vol_layout.specs.declared.geometry.Geometry.{Geometry}
use Rattle.vol_layout.specs.declared.kind.Resource.TheVariants as resources
use Rattle.vol_layout.specs.declared.kind.Table.{Table}
use Rattle.vol_layout.specs.declared.kind.Table.TheVariants as tables
use Rattle.vol_layout.specs.Fields.{HasField, table_of}
use Rattle.vol_layout.specs.Ranges.{HasTable}
use Rattle.image_view.specs.declared.pointer.Number.{Number}
use Rattle.image_view.specs.declared.pointer.Number.TheVariants.{At, Hole}
use Rattle.image_view.specs.Images.{Image}
use Rattle.image_view.specs.Numbers.{logical}
use Rattle.image_view.specs.Pointers.{pointer_number}
use Rattle.disk_locks.specs.Keys.{owner}
use Rattle.share_plans.specs.Places.{shown_at}
use Rattle.share_plans.specs.ReadTables.{Known, Says}
use Rattle.share_plans.specs.declared.sharing.Place.{Place}
use Rattle.share_plans.specs.declared.sharing.Place.TheVariants.{Arena, File}
use Rattle.share_plans.specs.declared.sharing.Shared.{Shared}
use Rattle.share_plans.specs.declared.sharing.Shared.TheVariants as answers
use Rattle.share_plans.specs.declared.sight.Sight.{Sight}
use Rattle.share_plans.specs.declared.sight.Sight.TheVariants as sights
use Rattle.share_plans.specs.declared.sight.Spot.{Spot}
use Rattle.share_plans.specs.declared.sight.Spot.TheVariants as spots
use Rattle.share_plans.specs.declared.stage.Pair.{Pair}

-- the image has the numbers that the known tables say
abbrev pub Reads : Geometry → Known → Image → Type 0
Reads g known image = (x : Field) (n : ℕ) → HasField g x → Says known x n → logical g image x ≡ n

-- a data block that a pointer names is one of the volume
abbrev pub IsInVolume : Geometry → Number → Type 0
IsInVolume g Hole = Unit {0}
IsInVolume g (At d shared) = HasField g (Count d)

-- a block below the length of a file that is there, with its pointer
pub record PointsTo (g : Geometry) (known : Known) (f i : ℕ) (p : Number) : Type 0 where
  pub head : ℕ
  pub length_is : Says known (Head f) head
  pub below : i + 1 < head
  pub has : HasField g (Pointer f i)
  pub pointer : Says known (Pointer f i) (pointer_number p)
  pub inside : IsInVolume g p

-- a table of a file that says whether it has a block at an index, or which one
abbrev pub IsTableFor : ℕ → ℕ → Table → Type 0
IsTableFor f i t = (t ≡ tables.File f) ⊎ (t ≡ table_of (Pointer f i))

-- such a table of the volume, which is not known
pub record IsUnread (g : Geometry) (known : Known) (f i : ℕ) (t : Table) : Type 0 where
  pub has : HasTable g t
  pub owned : owner t ≡ resources.File f
  pub is : IsTableFor f i t
  pub unread : known t ≡ None

-- what the known tables say of the block of a file at an index
abbrev pub IsSpot : Geometry → Known → ℕ → ℕ → Spot → Type 0
IsSpot g known f i (spots.Needs t) = IsUnread g known f i t
IsSpot g known f i spots.Nothing = (image : Image) → Reads g known image → shown_at g image f i ≡ None
IsSpot g known f i (spots.Shows d shared) = PointsTo g known f i (At d shared)

-- the file of a source is one of the volume
abbrev pub HasSourceFile : Geometry → Place → Type 0
HasSourceFile g (File f i) = f < g.files
HasSourceFile g (Arena s) = Unit {0}

-- what is to be done next for a source that is a file's block, once the place's data block is known
abbrev pub behind_source : ℕ → Spot → Sight
behind_source own (spots.Needs t) = sights.Needs t
behind_source own spots.Nothing = sights.Answers answers.NoSource
behind_source own (spots.Shows d shared) =
    if d == own then sights.Answers answers.Already else sights.Pairs (record { own = own; source = d; shared = shared })

-- the place has this data block, by the known tables
abbrev pub IsShown : Geometry → Known → ℕ → ℕ → ℕ → Type 0
IsShown g known f i d = (shared : Bool) × PointsTo g known f i (At d shared)

-- a table that is read next is one for the place, or for a source that is a file's block
abbrev pub IsUnreadOfSource : Geometry → Known → Place → Table → Type 0
IsUnreadOfSource g known (File f i) t = IsUnread g known f i t
IsUnreadOfSource g known (Arena s) t = ⊥

-- an answer that the tables give
abbrev pub IsAnswerBy : Geometry → Known → ℕ → ℕ → Place → Shared → Type 0
IsAnswerBy g known f i source answers.Hole = (image : Image) → Reads g known image → shown_at g image f i ≡ None
IsAnswerBy g known f i (File from at) answers.NoSource =
    (d : ℕ) × IsShown g known f i d × ((image : Image) → Reads g known image → shown_at g image from at ≡ None)
IsAnswerBy g known f i (File from at) answers.Already = (d : ℕ) × IsShown g known f i d × IsShown g known from at d
IsAnswerBy g known f i source answer = ⊥

-- the source has this data block, with the mark or without it, by the known tables where it is a file's block; of a slot, that the
-- volume has the block
abbrev pub IsSourceShown : Geometry → Known → Place → ℕ → Bool → Type 0
IsSourceShown g known (File f i) d shared = PointsTo g known f i (At d shared)
IsSourceShown g known (Arena s) d shared = HasField g (Count d) × (shared ≡ true)

-- the two data blocks are those of the place and of the source, as far as tables of files say it, and are two
pub record IsPair (g : Geometry) (known : Known) (f i : ℕ) (source : Place) (pair : Pair) : Type 0 where
  pub own : IsShown g known f i pair.own
  pub from : IsSourceShown g known source pair.source pair.shared
  pub other : pair.own ≢ pair.source

-- what is to be done next is right by the known tables
abbrev pub IsSight : Geometry → Known → ℕ → ℕ → Place → Sight → Type 0
IsSight g known f i source (sights.Needs t) = IsUnread g known f i t ⊎ IsUnreadOfSource g known source t
IsSight g known f i source (sights.Answers answer) = IsAnswerBy g known f i source answer
IsSight g known f i (Arena s) (sights.Peeks own) = IsShown g known f i own
IsSight g known f i (File from at) (sights.Peeks own) = ⊥
IsSight g known f i (File from at) (sights.Pairs pair) = IsPair g known f i (File from at) pair
IsSight g known f i (Arena s) (sights.Pairs pair) = ⊥
