-- The representatives of the blocks that were met, and what is known of the places before one.
use Rattle.std.specs.Prelude.{◌≡◌, ◌≢◌, ◌⊎◌, ◌+◌, ◌<◌, ◌≤◌, ◌&&◌, ℕ, Bool, None, Option, Some, nat_eq}
use Rattle.std.specs.Str.{bytes_eq}
use Rattle.indexmap.specs.IndexMap.{IndexMap, get}
use Rattle.vol_base.specs.declared.block.Block.{Block}
use Rattle.vol_base.specs.declared.block.Digest.{Digest}
use Rattle.vol_layout.specs.declared.field.Field.TheVariants.{Head, Pointer}
use Rattle.vol_layout.specs.declared.geometry.Geometry.{Geometry}
use Rattle.vol_layout.specs.Fields.{HasField}
use Rattle.fingerprint.specs.DigestOf.{digest_of}
use Rattle.image_view.specs.Files.{content}
use Rattle.image_view.specs.Images.{Image}
use Rattle.image_view.specs.Numbers.{logical}
use Rattle.share_plans.specs.Places.{shown_at}
use Rattle.settle.specs.Contents.{held}
use Rattle.settle.specs.Sound.{IsSound}
use Rattle.settle.specs.declared.candidates.Candidate.{Candidate}
use Rattle.settle.specs.declared.candidates.Spot.{Spot}

-- the representatives of each digest, by their numbers from 0
abbrev pub Found : Type 0
Found = Digest → ℕ → Option Spot

abbrev pub same_candidate : Candidate → Candidate → Bool
same_candidate a b = bytes_eq a.digest.0 b.digest.0 && nat_eq a.number b.number

-- those that a map has
abbrev pub spot_at : {S : Type 0} → IndexMap Candidate Spot S → Found
spot_at spots x n = get same_candidate spots (record { digest = x; number = n })

-- the numbers of a digest are those below some number, and each representative is a place that a volume may have
pub record IsTable (g : Geometry) (found : Found) : Type 0 where
  pub dense : (x : Digest) (m n : ℕ) → m ≤ n → found x m ≡ None → found x n ≡ None
  pub fields : (x : Digest) (n : ℕ) (s : Spot) → found x n ≡ Some s → HasField g (Pointer s.file s.index)

-- the least number of the digest that is free
pub record IsNext (found : Found) (x : Digest) (n : ℕ) : Type 0 where
  pub free : found x n ≡ None
  pub below : (m : ℕ) → m < n → found x m ≢ None

-- a place comes before this one, in the order of files and indexes
abbrev pub Before : ℕ → ℕ → ℕ → ℕ → Type 0
Before f i f' i' = (f' < f) ⊎ ((f' ≡ f) × (i' < i))

-- a representative comes before this place, and holds a block of its digest
pub record IsRep (g : Geometry) (image : Image) (f i : ℕ) (x : Digest) (s : Spot) : Type 0 where
  pub has : HasField g (Pointer s.file s.index)
  pub before : Before f i s.file s.index
  pub block : Block
  pub holds : held g image s.file s.index ≡ Some block
  pub digest : digest_of block ≡ x

-- a place shows the data block of a representative of its digest
pub record IsNamed (g : Geometry) (image : Image) (found : Found) (f i : ℕ) (block : Block) : Type 0 where
  pub number : ℕ
  pub rep : Spot
  pub there : found (digest_of block) number ≡ Some rep
  pub same : shown_at g image f i ≡ shown_at g image rep.file rep.index

-- all places before this one are settled: each shows the data block of a representative, no two of which hold equal blocks
pub record IsGathered (g : Geometry) (image : Image) (found : Found) (f i : ℕ) : Type 0 where
  pub sound : IsSound g image
  pub reps : (x : Digest) (n : ℕ) (s : Spot) → found x n ≡ Some s → IsRep g image f i x s
  pub apart : (x : Digest) (n m : ℕ) (s t : Spot) → found x n ≡ Some s → found x m ≡ Some t
      → held g image s.file s.index ≡ held g image t.file t.index → n ≡ m
  pub named : (f' i' : ℕ) (block : Block) → HasField g (Pointer f' i') → Before f i f' i' → held g image f' i' ≡ Some block
      → IsNamed g image found f' i' block

-- the next place: it is below its file's length, and this is what it shows
pub record IsNextBlock (g : Geometry) (image : Image) (found : Found) (f i : ℕ) (block : Block) : Type 0 where
  pub gathered : IsGathered g image found f i
  pub below : i + 1 < logical g image (Head f)
  pub shows : content g image (logical g image (Pointer f i)) ≡ block
