use Rattle.std.specs.Prelude.{◌≡◌, ℕ, All, List, Option, IfSome, None, Some, slice_get, length}
use Rattle.vol_base.specs.Bytes.{IsBlock}

-- what a device tells of its content: each block as its bytes, and the writes so far as place and block, the oldest first
pub record Told : Type 0 where
  pub image : List (List ℕ)
  pub writes : List (ℕ × List ℕ)

-- what the calls of a device change: its registered keys, its counter, and its content where the device tells it
pub record State : Type 0 where
  pub blocks : ℕ
  pub keys : List ℕ
  pub counter : ℕ
  pub told : Option Told

-- where the device tells its content, this block stands at the place
abbrev pub Stands : State → ℕ → List ℕ → Type 0
Stands s place block = IfSome s.told (λ told. slice_get told.image place ≡ Some block)

-- where the device tells its content, the image has as many blocks as the device
abbrev pub HasWholeImage : State → Type 0
HasWholeImage s = IfSome s.told (λ told. length told.image ≡ s.blocks)

-- where the device tells its content, its image is made of blocks
abbrev pub HasBlocks : State → Type 0
HasBlocks s = IfSome s.told (λ told. All IsBlock told.image)

-- the content became another one, and no more
abbrev pub with_told : Option Told → State → State
with_told told s = record s { told = told }

-- a relation of the images before and after; nothing is said where the device tells nothing
abbrev pub OnImages : (List (List ℕ) → List (List ℕ) → Type 0) → Option Told → Option Told → Type 0
OnImages R (Some old) (Some new) = R old.image new.image
OnImages R (Some old) None = ⊥
OnImages R None (Some new) = ⊥
OnImages R None None = Unit {0}
