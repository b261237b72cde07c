-- What a read of a place and a comparison of two say of an image.
use Rattle.std.specs.Prelude.{◌≡◌, ◌≢◌, ◌+◌, ◌<◌, ◌≤◌, ℕ, None, Option, Some}
use Rattle.vol_base.specs.declared.block.Block.{Block}
use Rattle.vol_base.specs.declared.plain.PlainReply.{PlainReply}
use Rattle.vol_base.specs.declared.plain.PlainReply.TheVariants.{Holds}
use Rattle.vol_base.specs.declared.block.Digest.{Digest}
use Rattle.vol_layout.specs.declared.field.Field.TheVariants.{Head, Pointer}
use Rattle.vol_layout.specs.declared.geometry.Geometry.{Geometry}
use Rattle.image_view.specs.Files.{content}
use Rattle.image_view.specs.Images.{Image}
use Rattle.image_view.specs.Numbers.{logical}
use Rattle.share_plans.specs.Places.{shown_at}
use Rattle.share_plans.specs.declared.sharing.Shared.{Shared}
use Rattle.share_plans.specs.declared.sharing.Shared.TheVariants as answers
use Rattle.settle.specs.Contents.{held}
use Rattle.settle.specs.Gathered.{Found, IsNext}
use Rattle.settle.specs.declared.candidates.Spot.{Spot}
use Rattle.settle.specs.declared.comparing.Compared.{Compared}
use Rattle.settle.specs.declared.comparing.Compared.TheVariants as compared
use Rattle.settle.specs.declared.seeking.Sought.{Sought}
use Rattle.settle.specs.declared.seeking.Sought.TheVariants as sought

-- the block in a reply
abbrev pub block_in : PlainReply → Option Block
block_in (Holds block) = Some block
block_in reply = None

-- a read found the file's end, or what the place shows
abbrev pub ReadsAs : Geometry → Image → ℕ → ℕ → Option Block → Type 0
ReadsAs g image f i None = logical g image (Head f) ≤ i + 1
ReadsAs g image f i (Some block) = (i + 1 < logical g image (Head f)) × (content g image (logical g image (Pointer f i)) ≡ block)

-- what an answer says of two places of files; without a block in the source they are not the same
abbrev pub compared_of : Shared → Compared
compared_of answers.Linked = compared.Same
compared_of answers.Already = compared.Same
compared_of (answers.Differs at) = compared.Other
compared_of answers.Hole = compared.Hole
compared_of answers.NoSource = compared.Other
compared_of (answers.Busy key) = compared.Other

-- two places show one data block
pub record ShowOne (g : Geometry) (image : Image) (f i : ℕ) (s : Spot) : Type 0 where
  pub number : ℕ
  pub own : shown_at g image f i ≡ Some number
  pub from : shown_at g image s.file s.index ≡ Some number

-- what is known of a place behind its comparison with another one
abbrev pub IsCompared : Geometry → Image → ℕ → ℕ → Spot → Compared → Type 0
IsCompared g image f i s compared.Same = ShowOne g image f i s
IsCompared g image f i s compared.Hole = shown_at g image f i ≡ None
IsCompared g image f i s compared.Other = held g image f i ≢ held g image s.file s.index

-- a place shows the data block of a representative of the digest
pub record IsJoined (g : Geometry) (image : Image) (found : Found) (f i : ℕ) (x : Digest) : Type 0 where
  pub number : ℕ
  pub rep : Spot
  pub there : found x number ≡ Some rep
  pub show : ShowOne g image f i rep

-- no representative of the digest below a number holds what the place holds
abbrev pub IsApart : Geometry → Image → Found → ℕ → ℕ → Digest → ℕ → Type 0
IsApart g image found f i x n =
    (m : ℕ) (s : Spot) → m < n → found x m ≡ Some s → held g image f i ≢ held g image s.file s.index

-- what is known of a place once its representative was looked for
abbrev pub IsSought : Geometry → Image → Found → ℕ → ℕ → Digest → Sought → Type 0
IsSought g image found f i x sought.Joined = IsJoined g image found f i x
IsSought g image found f i x sought.Hole = shown_at g image f i ≡ None
IsSought g image found f i x (sought.Fresh n) = IsApart g image found f i x n

-- a number that is handed out is the least free one
abbrev pub IsNumbered : Found → Digest → Sought → Type 0
IsNumbered found x (sought.Fresh n) = IsNext found x n
IsNumbered found x answer = Unit {0}
