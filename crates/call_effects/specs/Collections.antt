-- The record of a collection: slots of the arena whose blocks nothing else names are emptied.
use Rattle.std.specs.Prelude.{◌≡◌, ◌≤◌, ◌+◌, ◌++◌, ℕ, All, List, length, map}
use Rattle.vol_layout.specs.declared.geometry.Geometry.{Geometry}
use Rattle.vol_layout.specs.declared.field.Edit.{Edit}
use Rattle.vol_layout.specs.declared.field.Field.TheVariants.{Count, Slot}
use Rattle.vol_layout.specs.Edits.{AreApart, touches}
use Rattle.image_view.specs.Balances.{edit}
use Rattle.image_view.specs.Held.{HoldsField}
use Rattle.image_view.specs.Images.{Image}
use Rattle.image_view.specs.Numbers.{field, logical}
use Rattle.image_view.specs.laws.BalanceLaws.{emptied_slots, freed_counts}

-- counts that fall to 0
abbrev pub freed : List ℕ → List Edit
freed numbers = map (λ d. edit (Count d) 0) numbers

-- the edits: each slot is emptied, and the counts of their data blocks, in an order of their own, come to be 0
abbrev pub collected : List (ℕ × ℕ) → List ℕ → List Edit
collected slots numbers = emptied_slots slots ++ freed numbers

-- a slot of a held part names a data block of a held group, in its table too, and the block's count is 1
pub record IsSpent (g : Geometry) (image : Image) (key : ℕ) (slot : ℕ × ℕ) : Type 0 where
  pub held : HoldsField g image key (Slot slot.0)
  pub names : logical g image (Slot slot.0) ≡ slot.1 + 1
  pub table : field g image (Slot slot.0) ≡ slot.1 + 1
  pub count : HoldsField g image key (Count slot.1)
  pub once : logical g image (Count slot.1) ≡ 1

-- up to four different slots, each with its data block, and the numbers of the same data blocks
pub record IsCollectable (g : Geometry) (image : Image) (key : ℕ) (slots : List (ℕ × ℕ)) (numbers : List ℕ) : Type 0 where
  pub few : length slots ≤ 4
  pub as_many : length numbers ≤ 4
  pub spent : All (IsSpent g image key) slots
  pub slots_apart : AreApart (emptied_slots slots)
  pub numbers_apart : AreApart (freed numbers)
  pub same : (d : ℕ) → touches (freed numbers) (Count d) ≡ touches (freed_counts slots) (Count d)
