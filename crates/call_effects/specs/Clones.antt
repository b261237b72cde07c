-- The records of a clone: pointers of a file that is not there come to share the blocks of another file; then its head.
use Rattle.std.specs.Prelude.{◌≡◌, ◌≢◌, ◌⊎◌, ◌≤◌, ◌+◌, ◌++◌, ℕ, All, List, Some, if◌then◌else◌, length, map, nat_lt, sum_by, true}
use Rattle.vol_layout.specs.declared.geometry.Geometry.{Geometry}
use Rattle.vol_layout.specs.declared.field.Edit.{Edit}
use Rattle.vol_layout.specs.declared.field.Field.TheVariants.{Count, Head, Pointer}
use Rattle.vol_layout.specs.Edits.{AreApart, touches}
use Rattle.vol_layout.specs.Fields.{HasField}
use Rattle.image_view.specs.Balances.{edit}
use Rattle.image_view.specs.Files.{image_file}
use Rattle.image_view.specs.Held.{HoldsField}
use Rattle.image_view.specs.Images.{Image}
use Rattle.image_view.specs.Links.{marked}
use Rattle.image_view.specs.Numbers.{logical}
use Rattle.image_view.specs.Pointers.{IsUnmarked, named}
use Rattle.image_view.specs.laws.BalanceLaws.{one}
use Rattle.call_effects.specs.Purges.{counted}

-- pointers of a file, each with its data block, that get the mark
abbrev pub marking : ℕ → List (ℕ × ℕ) → List Edit
marking f blocks = map (λ (p : ℕ × ℕ). edit (Pointer f p.0) (marked p.1)) blocks

-- the pointers of both files, those of the lower file first
abbrev pub shared_pointers : ℕ → ℕ → List (ℕ × ℕ) → List (ℕ × ℕ) → List Edit
shared_pointers from to blocks lone =
    if nat_lt from to then marking from lone ++ marking to blocks else marking to blocks ++ marking from lone

-- the edits: the clone's pointers, the marks that the source lacks, and the counts, one for each data block
abbrev pub cloned : ℕ → ℕ → List (ℕ × ℕ) → List (ℕ × ℕ) → List (ℕ × ℕ) → List Edit
cloned from to blocks lone counts = shared_pointers from to blocks lone ++ counted counts

-- how many of the clone's pointers come to name a data block
abbrev pub given_by : List (ℕ × ℕ) → ℕ → ℕ
given_by blocks d = sum_by (λ (p : ℕ × ℕ). one p.1 d) blocks

-- a pointer of the source that names the data block, of a held file
pub record IsSourceOf (g : Geometry) (image : Image) (key from : ℕ) (block : ℕ × ℕ) : Type 0 where
  pub held : HoldsField g image key (Pointer from block.0)
  pub names : named (logical g image (Pointer from block.0)) ≡ Some block.1
  pub there : HasField g (Count block.1)

-- a hole of a file that is not there, and the source's pointer of the same index, which has the mark or gets it
pub record IsCopied (g : Geometry) (image : Image) (key from to : ℕ) (lone counts : List (ℕ × ℕ)) (block : ℕ × ℕ) : Type 0 where
  pub source : IsSourceOf g image key from block
  pub held : HoldsField g image key (Pointer to block.0)
  pub hole : logical g image (Pointer to block.0) ≡ 0
  pub mark : (touches (marking from lone) (Pointer from block.0) ≡ true) ⊎ (IsUnmarked (logical g image (Pointer from block.0)) → ⊥)
  pub is_counted : touches (counted counts) (Count block.1) ≡ true

-- a data block of a held group, with its count and the pointers that come to name it
pub record IsRaised (g : Geometry) (image : Image) (key : ℕ) (blocks : List (ℕ × ℕ)) (count : ℕ × ℕ) : Type 0 where
  pub held : HoldsField g image key (Count count.0)
  pub raised : count.1 ≡ logical g image (Count count.0) + given_by blocks count.0

-- up to two blocks of a held source come to be shared by a held file that is not there
pub record IsClonable (g : Geometry) (image : Image) (key from to : ℕ) (blocks lone counts : List (ℕ × ℕ)) : Type 0 where
  pub other : from ≢ to
  pub absent : logical g image (Head to) ≡ 0
  pub few : length blocks ≤ 2
  pub few_lone : length lone ≤ 2
  pub as_many : length counts ≤ 2
  pub copied : All (IsCopied g image key from to lone counts) blocks
  pub sources : All (IsSourceOf g image key from) lone
  pub raised : All (IsRaised g image key blocks) counts
  pub blocks_apart : AreApart (marking to blocks)
  pub lone_apart : AreApart (marking from lone)
  pub counts_apart : AreApart (counted counts)

-- a file is there, equal to its source, and every other file is as before
pub record IsCloned (old new : Image) (from to : ℕ) : Type 0 where
  pub clone : image_file new to ≡ image_file old from
  pub others : (f : ℕ) → f ≢ to → image_file new f ≡ image_file old f
