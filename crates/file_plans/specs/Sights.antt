-- What a command is to do, by the tables that are known of its file.
use Rattle.std.specs.Prelude.{◌≡◌, ◌⊎◌, ◌<◌, ◌≤◌, ◌+◌, ◌-◌, ℕ, Bool, true, false, None, Option, Some}
use Rattle.vol_base.specs.declared.plain.PlainCall.TheVariants.{Create, Punch, Read, Remove, Size, Write}
use Rattle.vol_base.specs.declared.plain.PlainReply.{PlainReply}
use Rattle.vol_base.specs.declared.plain.PlainReply.TheVariants.{Done}
use Rattle.vol_layout.specs.declared.field.Field.TheVariants.{Head, Pointer}
use Rattle.vol_layout.specs.declared.geometry.Geometry.{Geometry}
use Rattle.vol_layout.specs.declared.kind.Resource.TheVariants.{File}
use Rattle.vol_layout.specs.declared.kind.Table.{Table}
use Rattle.vol_layout.specs.declared.kind.Table.TheVariants as tables
use Rattle.vol_layout.specs.Fields.{table_of}
use Rattle.vol_layout.specs.Ranges.{limit}
use Rattle.vol_layout.specs.Superblock.{SpellsGeometry}
use Rattle.image_view.specs.declared.pointer.Number.TheVariants.{At, Hole}
use Rattle.image_view.specs.Images.{Image, first_block}
use Rattle.call_effects.specs.laws.LookLaws.{IsLook}
use Rattle.disk_locks.specs.Keys.{owner}
use Rattle.held_cache.specs.Kept.{IsFileTable}
use Rattle.file_plans.specs.Calls.{file_of}
use Rattle.file_plans.specs.Says.{AreHoles, AreRemains, HasBlock, Known, Reads, Says}
use Rattle.file_plans.specs.declared.call.FileCall.{FileCall}
use Rattle.file_plans.specs.declared.call.FileCall.TheVariants.{Close, Plain}
use Rattle.file_plans.specs.declared.sight.Sight.{Sight}
use Rattle.file_plans.specs.declared.sight.Sight.TheVariants.{Clear, Drops, Fresh, Heads, Needs, Own, Purges, Settled, Shows}

-- the table block of a file's head, or of its pointer at an index
abbrev pub IsOfIndex : ℕ → ℕ → Table → Type 0
IsOfIndex f i t = (t ≡ tables.File f) ⊎ (t ≡ table_of (Pointer f i))

-- which tables of its file a call may want
abbrev pub MayWant : FileCall → Table → Type 0
MayWant (Plain (Create f)) t = t ≡ tables.File f
MayWant (Plain (Remove f)) t = t ≡ tables.File f
MayWant (Plain (Write f i block)) t = IsOfIndex f i t
MayWant (Plain (Read f i)) t = IsOfIndex f i t
MayWant (Plain (Punch f i)) t = IsOfIndex f i t
MayWant (Plain (Size f k)) t = Unit {0}
MayWant (Close f) t = Unit {0}

-- a write that is done is below the greatest length
abbrev pub MayReply : Geometry → PlainReply → FileCall → Type 0
MayReply g Done (Plain (Write f i block)) = i < limit g
MayReply g reply call = Unit {0}

abbrev pub MayPlace : Geometry → FileCall → Option PlainReply → Type 0
MayPlace g call None = Unit {0}
MayPlace g call (Some reply) = MayReply g reply call

-- what is to be done is right by what the known tables say
abbrev pub IsSight : Geometry → Known → FileCall → Sight → Type 0
IsSight g known call (Needs t) = IsFileTable g t × (owner t ≡ File (file_of call)) × (known t ≡ None) × MayWant call t
IsSight g known (Plain call) (Settled reply) =
    MayReply g reply (Plain call) × ((image : Image) → SpellsGeometry (first_block image) g → Reads g known image → IsLook g call reply image)
IsSight g known (Plain (Read f i)) (Shows d) = (shared : Bool) × HasBlock g known f i (At d shared)
IsSight g known (Plain (Write f i block)) (Own d) = HasBlock g known f i (At d false)
IsSight g known (Plain (Write f i block)) (Fresh None) = HasBlock g known f i Hole
IsSight g known (Plain (Write f i block)) (Fresh (Some d)) = HasBlock g known f i (At d true)
IsSight g known (Plain (Punch f i)) (Drops d) = (shared : Bool) × HasBlock g known f i (At d shared)
IsSight g known (Plain (Create f)) (Heads m) = Says known (Head f) 0 × (m ≡ 1)
IsSight g known (Plain (Remove f)) (Heads m) = (n : ℕ) × Says known (Head f) (n + 1) × (m ≡ 0)
IsSight g known (Plain (Size f k)) (Heads m) =
    (n : ℕ) × Says known (Head f) (n + 1) × (k ≤ limit g) × (m ≡ k + 1) × AreHoles g known f n k
IsSight g known (Plain (Size f k)) (Purges remains) =
    (n : ℕ) × Says known (Head f) (n + 1) × (k ≤ limit g) × AreRemains g known f n k remains
IsSight g known (Close f) (Purges remains) = (h : ℕ) × Says known (Head f) h × AreRemains g known f (h - 1) (limit g) remains
IsSight g known (Close f) Clear = (h : ℕ) × Says known (Head f) h × AreHoles g known f (h - 1) (limit g)
IsSight g known call sight = ⊥
