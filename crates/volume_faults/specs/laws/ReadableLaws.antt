-- What keeps an image readable.
use Rattle.std.proofs.Common.{◌≡◌, ◌<◌, ◌≤◌, ℕ, get_or, length, List, [], refl, sym, subst, arith, inl, inr}
use Rattle.vol_layout.specs.declared.geometry.Geometry.{Geometry}
use Rattle.vol_layout.specs.declared.kind.Kind.{Kind}
use Rattle.vol_layout.specs.declared.kind.Kind.TheVariants as kinds
use Rattle.image_view.specs.laws.GeometryLaws.{geometry_of-spelled}
use Rattle.image_view.specs.Images.{Image}
use Rattle.image_view.specs.Valid.{IsValid}
use Rattle.volume_faults.specs.declared.fault.Fault.{Fault}
use Rattle.volume_faults.specs.ReadPlaces.{IsCheckedPlace}
use Rattle.volume_faults.specs.Lists.{IsFaultOf, Lists}
use Rattle.volume_faults.specs.Faults.{AreTableFaults, IsOfStage, IsPassed}
use Rattle.volume_faults.specs.Sites.{fault_at, Block, CountOf, IsOfKind, IsRight, LockKey, PointerOf, RecordEdit, RecordKey, Site, Size, Superblock}
use Rattle.volume_faults.specs.laws.ValidityLaws.{valid_has_faultless_tables}
use Rattle.volume_faults.specs.Readable.{IsReadable, IsReadableVolume}

blocks_passed : (g : Geometry) (counter : ℕ) (image : Image) → AreTableFaults g counter image [] → IsPassed g counter image 2
unfolding AreTableFaults
blocks_passed g counter image are = elim are as (λ _. IsPassed g counter image 2) [ inl some ↦ absurd (some.0 refl) | inr none ↦ none.0 ]

-- a valid volume is readable
pub IsReadable-valid : (g : Geometry) (counter : ℕ) (image : Image) → IsValid g counter image → IsReadable g counter image
IsReadable-valid g counter image valid = record {
  superblock = valid.geometry;
  long = valid.long;
  blocks = blocks_passed g counter image (valid_has_faultless_tables g counter image valid);
}

-- the geometry under which an image is readable is the one that its block 0 says
pub IsReadableVolume-readable : (g : Geometry) (counter : ℕ) (image : Image) → IsReadable g counter image → IsReadableVolume counter image
IsReadableVolume-readable g counter image is =
    let P : Geometry → Type 0 = λ k. IsReadable k counter image in subst P (sym (geometry_of-spelled g image is.superblock)) is

-- a block of a kind stays one while the device's counter rises
IsOfKind-later : (g : Geometry) (counter later : ℕ) (kind : Kind) (block : List ℕ) → counter ≤ later → IsOfKind g counter kind block
    → IsOfKind g later kind block
IsOfKind-later g counter later kinds.Super block le is = absurd is
IsOfKind-later g counter later (kinds.Slot h) block le is =
    record { slot = is.slot; spelled = is.spelled; host = is.host; given = λ k d lt. let was = is.given k d lt in omega arith }
IsOfKind-later g counter later (kinds.Journal h) block le is = record { spelled = is.spelled; given = λ k d lt. let was = is.given k d lt in omega arith }
IsOfKind-later g counter later (kinds.Lock r) block le is =
    record { word = is.word; spelled = is.spelled; resource = is.resource; given = λ k d lt. let was = is.given k d lt in omega arith }
IsOfKind-later g counter later (kinds.Table t) block le is = is
IsOfKind-later g counter later (kinds.Log h l) block le is = absurd is
IsOfKind-later g counter later (kinds.Shard s) block le is = absurd is
IsOfKind-later g counter later (kinds.Request f) block le is = absurd is
IsOfKind-later g counter later (kinds.Number d) block le is = absurd is

passed_later : (g : Geometry) (counter later : ℕ) (image : Image) → counter ≤ later → IsPassed g counter image 2 → (site : Site)
    → IsOfStage g image 2 site → IsRight g later image site
passed_later g counter later image le passed Superblock is = absurd (omega (arith, is.0))
passed_later g counter later image le passed Size is = absurd (omega (arith, is.0))
passed_later g counter later image le passed (Block kind) is = IsOfKind-later g counter later kind _ le (passed (Block kind) is)
passed_later g counter later image le passed (LockKey r) is = absurd (omega (arith, is.0))
passed_later g counter later image le passed (RecordKey h) is = absurd (omega (arith, is.0))
passed_later g counter later image le passed (RecordEdit h e) is = absurd (omega (arith, is.0))
passed_later g counter later image le passed (CountOf d) is = absurd (omega (arith, is.0))
passed_later g counter later image le passed (PointerOf f i) is = absurd (omega (arith, is.0))

-- a readable volume stays readable while the device's counter rises
pub IsReadable-later : (g : Geometry) (counter later : ℕ) (image : Image) → counter ≤ later → IsReadable g counter image
    → IsReadable g later image
IsReadable-later g counter later image le is = record {
  superblock = is.superblock;
  long = is.long;
  blocks = passed_later g counter later image le is.blocks;
}

-- a block that the second stage looks at is a slot, journal, lock or table
second_place : (g : Geometry) (image : Image) (site : Site) → IsOfStage g image 2 site → IsCheckedPlace g (fault_at g image site).place
second_place g image Superblock is = absurd (omega (arith, is.0))
second_place g image Size is = absurd (omega (arith, is.0))
second_place g image (Block kind) is = record { kind = kind; has = is.1.0; checked = is.1.1; here = refl }
second_place g image (LockKey r) is = absurd (omega (arith, is.0))
second_place g image (RecordKey h) is = absurd (omega (arith, is.0))
second_place g image (RecordEdit h e) is = absurd (omega (arith, is.0))
second_place g image (CountOf d) is = absurd (omega (arith, is.0))
second_place g image (PointerOf f i) is = absurd (omega (arith, is.0))

-- and so is that of each fault that the stage lists
pub listed_place : (g : Geometry) (counter : ℕ) (image : Image) (faults : List Fault) (k : ℕ) (fault : Fault)
    → Lists (IsOfStage g image 2) g counter image faults → k < length faults → fault ≡ get_or faults k fault → IsCheckedPlace g fault.place
listed_place g counter image faults k fault lists below at =
    let of : IsFaultOf (IsOfStage g image 2) g counter image fault =
    subst (IsFaultOf (IsOfStage g image 2) g counter image) (sym at) (lists.each k fault below) in
    rw of.is (second_place g image of.site of.among)
