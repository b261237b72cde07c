-- The step by which two equal blocks come to be one.
use Rattle.std.specs.Prelude.{◌≡◌, ◌≢◌, ◌+◌, ℕ, Some, true}
use Rattle.vol_layout.specs.declared.geometry.Geometry.{Geometry}
use Rattle.vol_layout.specs.declared.kind.Kind.TheVariants as kinds
use Rattle.vol_layout.specs.declared.field.Field.{Field}
use Rattle.vol_layout.specs.declared.field.Field.TheVariants.{Head, Pointer, Slot, Count}
use Rattle.vol_layout.specs.Fields.{HasField}
use Rattle.image_view.specs.Images.{Image, block_at}
use Rattle.image_view.specs.Numbers.{logical}
use Rattle.image_view.specs.Pointers.{mark_of, named}

-- a pointer to a data block that has the mark
abbrev pub marked : ℕ → ℕ
marked d = d + 1 + mark_of true

-- what the source of a link is after it: a file's pointer gets the mark, and a slot stays
abbrev pub SourceAfter : Field → ℕ → ℕ → ℕ → Type 0
SourceAfter (Pointer f i) d before after = after ≡ marked d
SourceAfter (Slot s) d before after = after ≡ before
SourceAfter (Head f) d before after = ⊥
SourceAfter (Count n) d before after = ⊥

-- the pointer that named data block `from` is linked to the source, which names `to`: the two blocks have
-- the same bytes, the pointer names `to` with the mark, the count of `from` falls by one and that of `to`
-- rises by one, and no other number changes
pub record IsLink (g : Geometry) (old new : Image) (f i : ℕ) (source : Field) : Type 0 where
  pub from : ℕ
  pub to : ℕ
  pub pointer : HasField g (Pointer f i) × (named (logical g old (Pointer f i)) ≡ Some from)
  pub source_names : HasField g source × (named (logical g old source) ≡ Some to)
  pub other : from ≢ to
  pub same : block_at g old (kinds.Number from) ≡ block_at g old (kinds.Number to)
  pub linked : logical g new (Pointer f i) ≡ marked to
  pub source_after : SourceAfter source to (logical g old source) (logical g new source)
  pub lowered : logical g new (Count from) + 1 ≡ logical g old (Count from)
  pub raised : logical g new (Count to) ≡ logical g old (Count to) + 1
  pub others : (x : Field) → HasField g x → x ≢ Pointer f i → x ≢ source → x ≢ Count from → x ≢ Count to → logical g new x ≡ logical g old x
