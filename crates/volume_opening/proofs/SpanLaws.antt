-- The blocks that formatting writes, at the volume's front and at its end.
use Rattle.std.proofs.Common.{◌≡◌, ◌<◌, ◌≤◌, ℕ, [], Option, Some, None, length, ap, ◌∙◌, inl, inr}
use Rattle.std.specs.Prelude.{IfSome, slice_get}
use Rattle.std.specs.Option.{option_map_or}
use Rattle.std.proofs.lemmas.Option.{get_or_from_slice_get}
use Rattle.vol_base.specs.Bytes.{zeros}
use Rattle.vol_layout.specs.declared.geometry.Geometry.{Geometry}
use Rattle.vol_layout.specs.declared.kind.Kind.{Kind}
use Rattle.vol_layout.specs.declared.kind.Kind.TheVariants as kinds
use Rattle.vol_layout.specs.declared.kind.Table.{Table}
use Rattle.vol_layout.specs.Blank.{blank_at, blank_bytes}
use Rattle.vol_layout.specs.laws.SpanLaws.{journal_at_front, lock_at_front, slot_at_front, table_at_front_or_end}
use Rattle.vol_layout.specs.Places.{IsAtFront, front_end, further_start, place_of}
use Rattle.vol_layout.specs.Ranges.{HasKind, HasTable, IsGeometry}
use Rattle.vol_layout.specs.Regions.{total}
use Rattle.vol_layout.specs.laws.PlaceLaws.{kind_at-place}
use Rattle.image_view.specs.Formatted.{IsFormatted}
use Rattle.image_view.specs.Images.{Image, block_at}
use Rattle.shared_disk.specs.State.{Told}

-- what is blank at each place of the head and of the end, and at block 0
pub record HasBlanks (g : Geometry) (told : Option Told) : Type 0 where
  pub first : IfSome told (λ t. slice_get t.image 0 ≡ Some (blank_bytes g kinds.Super))
  pub head : (place : ℕ) → 1 ≤ place → place < front_end g → IfSome told (λ t. slice_get t.image place ≡ Some (blank_at g place))
  pub further : (place : ℕ) → further_start g ≤ place → place < total g → IfSome told (λ t. slice_get t.image place ≡ Some (blank_at g place))

-- a blank block of its kind
of_kind : (g : Geometry) (image : Image) (kind : Kind) → HasKind g kind → slice_get image (place_of g kind) ≡ Some (blank_at g (place_of g kind))
    → block_at g image kind ≡ blank_bytes g kind
unfolding block_at
of_kind g image kind has stands =
    get_or_from_slice_get image (place_of g kind) (blank_at g (place_of g kind)) [] stands
    ∙ ap (λ (k : Option Kind). option_map_or (blank_bytes g) k (zeros 4096)) (kind_at-place g kind has)

at_front : (g : Geometry) (t : Told) (place : ℕ) → HasBlanks g (Some t) → IsAtFront g place → slice_get t.image place ≡ Some (blank_at g place)
at_front g t place blanks at = blanks.head place at.0 at.1

blank_in_table : (g : Geometry) (t : Told) (table : Table) → HasTable g table → HasBlanks g (Some t)
    → slice_get t.image (place_of g (kinds.Table table)) ≡ Some (blank_at g (place_of g (kinds.Table table)))
blank_in_table g t table has blanks = elim (table_at_front_or_end g table has) [
  | inl at ↦ at_front g t (place_of g (kinds.Table table)) blanks at
  | inr at ↦ blanks.further (place_of g (kinds.Table table)) at.0 at.1
]

-- such an image is formatted
pub formatted : (g : Geometry) (told : Option Told) → IsGeometry g → IfSome told (λ t. total g ≤ length t.image) → HasBlanks g told → IfSome told (λ t. IsFormatted g t.image)
formatted g None range long blanks = tt
formatted g (Some t) range long blanks = record {
  geometry = range;
  long = long;
  superblock = get_or_from_slice_get t.image 0 (blank_bytes g kinds.Super) [] blanks.first;
  slots = λ h below. of_kind g t.image (kinds.Slot h) below (at_front g t _ blanks (slot_at_front g h below));
  journals = λ h below. of_kind g t.image (kinds.Journal h) below (at_front g t _ blanks (journal_at_front g h below));
  locks = λ r has. of_kind g t.image (kinds.Lock r) has (at_front g t _ blanks (lock_at_front g r has));
  tables = λ table has. of_kind g t.image (kinds.Table table) has (blank_in_table g t table has blanks);
}
