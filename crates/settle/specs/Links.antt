-- What one host that is alone does to a volume as it compares and links places.
use Rattle.std.specs.Prelude.{◌≡◌, ◌≢◌, ◌⊎◌, ℕ, [], None, Some}
use Rattle.vol_layout.specs.declared.field.Field.{Field}
use Rattle.vol_layout.specs.declared.geometry.Geometry.{Geometry}
use Rattle.vol_layout.specs.declared.kind.Kind.TheVariants as kinds
use Rattle.image_view.specs.Images.{Image, block_at}
use Rattle.image_view.specs.Links.{IsLink}
use Rattle.image_view.specs.Records.{IsEdited}
use Rattle.call_effects.specs.Places.{KeepsFiles}
use Rattle.share_plans.specs.Places.{field_of, shown_at}
use Rattle.share_plans.specs.declared.sharing.Place.{Place}
use Rattle.share_plans.specs.declared.sharing.Place.TheVariants.{Arena, File}
use Rattle.share_plans.specs.declared.sharing.Shared.{Shared}
use Rattle.share_plans.specs.declared.sharing.Shared.TheVariants as answers
use Rattle.settle.specs.Sound.{IsSound}

-- a step that changes no logical number, and no file
pub record IsQuiet (g : Geometry) (old new : Image) : Type 0 where
  pub sound : IsSound g new
  pub numbers : IsEdited g old new []
  pub files : KeepsFiles old new

-- a step by which the place of a file is linked to the source; no file changes
pub record IsShare (g : Geometry) (old new : Image) (f i : ℕ) (source : Field) : Type 0 where
  pub sound : IsSound g new
  pub link : IsLink g old new f i source
  pub files : KeepsFiles old new

-- a chain of steps, each of which links two places whose bytes are equal, or changes no logical number; no file changes
pub data Shares (g : Geometry) (old : Image) : Image → Type 0 where
  started : Shares g old old
  rested : {m n : Image} → Shares g old m → IsQuiet g m n → Shares g old n
  linked : {m n : Image} (f i : ℕ) (source : Field) → Shares g old m → IsShare g m n f i source → Shares g old n

-- a file source has this data block; of a slot, which is read in its table alone, nothing is said
abbrev pub SourceHas : Geometry → Image → Place → ℕ → Type 0
SourceHas g image (File f i) d = shown_at g image f i ≡ Some d
SourceHas g image (Arena s) d = Unit {0}

-- a place and a source with these data blocks
pub record HaveBlocks (g : Geometry) (image : Image) (f i : ℕ) (source : Place) (d e : ℕ) : Type 0 where
  pub own : shown_at g image f i ≡ Some d
  pub from : SourceHas g image source e

-- both have a data block
abbrev pub HaveSome : Geometry → Image → ℕ → ℕ → Place → Type 0
HaveSome g image f i source = (d : ℕ) × (e : ℕ) × HaveBlocks g image f i source d e

-- both have one data block
abbrev pub HaveOne : Geometry → Image → ℕ → ℕ → Place → Type 0
HaveOne g image f i source = (d : ℕ) × HaveBlocks g image f i source d d

-- both have a data block, and the bytes differ
abbrev pub HaveApart : Geometry → Image → ℕ → ℕ → Place → Type 0
HaveApart g image f i source =
    (d : ℕ) × (e : ℕ) × HaveBlocks g image f i source d e
    × (block_at g image (kinds.Number d) ≢ block_at g image (kinds.Number e))

-- the place has a data block, and a file source has none; of a slot nothing is said
abbrev pub HasOwnAlone : Geometry → Image → ℕ → ℕ → Place → Type 0
HasOwnAlone g image f i (File h j) = ((d : ℕ) × (shown_at g image f i ≡ Some d)) × (shown_at g image h j ≡ None)
HasOwnAlone g image f i (Arena s) = (d : ℕ) × (shown_at g image f i ≡ Some d)

-- what a comparison of a place with a source came to: a link, or an answer that changes nothing
abbrev pub Comes : Geometry → ℕ → ℕ → Place → Shared → Image → Image → Type 0
Comes g f i source answers.Linked old new = HaveSome g old f i source × IsShare g old new f i (field_of source)
Comes g f i source answers.Already old new = HaveOne g old f i source × IsQuiet g old new
Comes g f i source (answers.Differs at) old new = HaveApart g old f i source × IsQuiet g old new
Comes g f i source answers.Hole old new = (shown_at g old f i ≡ None) × IsQuiet g old new
Comes g f i source answers.NoSource old new = HasOwnAlone g old f i source × IsQuiet g old new
Comes g f i source (answers.Busy key) old new = ⊥

-- a comparison that was refused changed nothing, or made the link
abbrev pub Halts : Geometry → ℕ → ℕ → Place → Image → Image → Type 0
Halts g f i source old new = IsQuiet g old new ⊎ IsShare g old new f i (field_of source)
