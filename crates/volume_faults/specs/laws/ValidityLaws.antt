-- A volume has no fault exactly where it is valid.
use Rattle.std.proofs.Common.{◌≡◌, ◌⊎◌, ◌<◌, ◌≤◌, ◌-◌, ◌*◌, ◌==◌, ℕ, zero, suc, Bool, true, false, List, [], ◌∷◌, ◌++◌, if◌then◌else◌, length, append_assoc, refl, sym, ◌∙◌, subst, inl, inr, arith}
use Rattle.std.specs.Prelude.{◌↔◌, Contains, Some, codes, slice_get}
use Rattle.std.specs.List.{flat_map}
use Rattle.std.proofs.lemmas.Bool.{cases_Bool}
use Rattle.std.proofs.lemmas.List.Elements.{All-cons, All-head, All-nil, Contains-push}
use Rattle.vol_base.specs.Bytes.{bytes_of, u32_at, zeros}
use Rattle.vol_layout.specs.declared.geometry.Geometry.{Geometry}
use Rattle.vol_layout.specs.declared.kind.Kind.{Kind}
use Rattle.vol_layout.specs.declared.kind.Kind.TheVariants as kinds
use Rattle.vol_layout.specs.declared.kind.Table.{Table}
use Rattle.vol_layout.specs.declared.field.Field.{Field}
use Rattle.vol_layout.specs.declared.field.Field.TheVariants.{Slot}
use Rattle.vol_layout.specs.declared.field.Edit.{Edit}
use Rattle.vol_layout.specs.Edits.{AreApart, edited, same_field, touches}
use Rattle.vol_layout.specs.laws.EditLaws.{same_field-is, same_field-refl}
use Rattle.vol_layout.specs.Fields.{IsInRange, byte_of, table_of}
use Rattle.vol_layout.specs.Ranges.{HasKind}
use Rattle.vol_layout.specs.Regions.{total}
use Rattle.vol_layout.specs.Superblock.{SpellsGeometry, superblock_bytes, volume_magic, written_numbers}
use Rattle.image_view.specs.laws.FrameLaws.{HasTable-table_of}
use Rattle.image_view.specs.laws.GeometryLaws.{geometry_of-spelled}
use Rattle.image_view.specs.Held.{HoldsField, IsHeld}
use Rattle.image_view.specs.HostKeys.{journal_key_at}
use Rattle.image_view.specs.Images.{Image, block_at, first_block, geometry_of}
use Rattle.image_view.specs.Numbers.{field, journal}
use Rattle.image_view.specs.Valid.{IsValid, IsVolume}
use Rattle.volume_faults.specs.declared.fault.Fault.{Fault}
use Rattle.volume_faults.specs.declared.fault.FaultKind.TheVariants as faults
use Rattle.volume_faults.specs.Order.{ComesBefore}
use Rattle.volume_faults.specs.Sites.{HasNumbers, HasSite, IsChecked, IsOfKind, IsRight, Site, fault_at}
use Rattle.volume_faults.specs.Sites.Site.{Superblock, Size, Block, LockKey, RecordKey, RecordEdit, CountOf, PointerOf}
use Rattle.volume_faults.specs.Lists.{IsFaultOf, Lists}
use Rattle.volume_faults.specs.Faults.{AreFaults, AreOfFirst, AreTableFaults, IsOfStage, IsPassed}
use Rattle.volume_faults.specs.laws.ListLaws.{Lists-wrong}

-- an edit that stands in a list touches its field
touches_at : (es : List Edit) (k : ℕ) (e : Edit) → slice_get es k ≡ Some e → touches es e.field ≡ true
touches_at [] k e at = cc
touches_at (f ∷ es) zero e at =
    let same : f ≡ e = cc in
    rw (same, same_field-refl e.field) refl
touches_at (f ∷ es) (suc k) e at =
    let later = touches_at es k e at in
    elim (cases_Bool (same_field f.field e.field)) [
      | inl here ↦ rw here refl
      | inr other ↦ rw (other, later) refl
    ]

-- and gives it its number, where no two edits are of one field
edited_at : (es : List Edit) (k : ℕ) (e : Edit) (n : ℕ) → AreApart es → slice_get es k ≡ Some e → edited es e.field n ≡ e.number
edited_at [] k e n apart at = cc
edited_at (f ∷ es) zero e n apart at =
    let same : f ≡ e = cc in
    rw (same, same_field-refl e.field) refl
edited_at (f ∷ es) (suc k) e n apart at =
    elim (cases_Bool (same_field f.field e.field)) [
      | inl here ↦
          let field_is : f.field ≡ e.field = same_field-is f.field e.field here in
          let touched = touches_at es k e at in
          let none : touches es e.field ≡ false = rw field_is at apart.0 in
          cc
      | inr other ↦ rw other (edited_at es k e n apart.1 at)
    ]

-- the first edit of a field that a list touches
record IsFirstOf (es : List Edit) (x : Field) : Type 0 where
  at : ℕ
  edit : Edit
  below : at < length es
  is : slice_get es at ≡ Some edit
  of : edit.field ≡ x
  gives : (n : ℕ) → edited es x n ≡ edit.number

first_of_field : (es : List Edit) (x : Field) → touches es x ≡ true → IsFirstOf es x
first_of_field [] x touched = cc
first_of_field (f ∷ es) x touched =
    elim (cases_Bool (same_field f.field x)) [
      | inl here ↦ record { at = 0; edit = f; below = omega arith; is = refl; of = same_field-is f.field x here; gives = λ n. rw here refl }
      | inr other ↦
          let rest : touches es x ≡ true = rw other at touched in
          let later = first_of_field es x rest in
          record { at = suc later.at; edit = later.edit; below = let below = later.below in omega arith; is = later.is; of = later.of; gives = λ n. rw other (later.gives n) }
    ]

-- each site of a valid volume is right
numbers_right : (g : Geometry) (counter : ℕ) (image : Image) (t : Table) → IsValid g counter image
    → HasNumbers g t (block_at g image (kinds.Table t))
unfolding field
numbers_right g counter image t valid x has at =
    subst (λ t. IsInRange g x (u32_at (block_at g image (kinds.Table t)) (byte_of x))) at (valid.numbers x has)

block_right : (g : Geometry) (counter : ℕ) (image : Image) (kind : Kind) → IsValid g counter image → HasKind g kind → IsChecked kind
    → IsOfKind g counter kind (block_at g image kind)
block_right g counter image kinds.Super valid has checked = absurd checked
block_right g counter image (kinds.Slot h) valid has checked = valid.slots h has
block_right g counter image (kinds.Journal h) valid has checked = valid.journals h has
block_right g counter image (kinds.Lock r) valid has checked = valid.locks r has
block_right g counter image (kinds.Table t) valid has checked = (valid.tables t has, numbers_right g counter image t valid)
block_right g counter image (kinds.Log h l) valid has checked = absurd checked
block_right g counter image (kinds.Shard s) valid has checked = absurd checked
block_right g counter image (kinds.Request f) valid has checked = absurd checked
block_right g counter image (kinds.Number d) valid has checked = absurd checked

apart_edits : (g : Geometry) (counter : ℕ) (image : Image) (h : ℕ) → IsValid g counter image → h < g.hosts → AreApart (journal g image h)
unfolding journal
apart_edits g counter image h valid below = (valid.journals h below).spelled.edits.apart

site_right : (g : Geometry) (counter : ℕ) (image : Image) → IsValid g counter image → (site : Site) → HasSite g image site
    → IsRight g counter image site
site_right g counter image valid Superblock has = valid.geometry
site_right g counter image valid Size has = valid.long
site_right g counter image valid (Block kind) has = block_right g counter image kind valid has.0 has.1
site_right g counter image valid (LockKey r) has = valid.held.locks r has.0 has.1
site_right g counter image valid (RecordKey h) has = valid.held.records h has.0 has.1
site_right g counter image valid (RecordEdit h k) has =
    λ e at.
    let es = journal g image h in
    let touched = touches_at es k e at in (
      valid.held.edits h e.field has.0 touched,
      λ s d is names.
          let gives = edited_at es k e (field g image (Slot s)) (apart_edits g counter image h valid has.0) at in
          valid.held.slots h has.0 s d (rw is at touched) (rw (sym (rw is at gives)) at names),
    )
site_right g counter image valid (CountOf d) has = valid.counted.counts d has
site_right g counter image valid (PointerOf f i) has = valid.counted.unmarked f i has

all_passed : (g : Geometry) (counter : ℕ) (image : Image) (stage : ℕ) → IsValid g counter image → IsPassed g counter image stage
all_passed g counter image stage valid site is = site_right g counter image valid site is.1

-- a list without a fault says of its first stage that it is passed
stage_passed : (stage : ℕ) (stages : List ℕ) (g : Geometry) (counter : ℕ) (image : Image) → AreOfFirst (stage ∷ stages) g counter image []
    → IsPassed g counter image stage × AreOfFirst stages g counter image []
stage_passed stage stages g counter image are =
    elim are [
      | inl here ↦ absurd (here.0 refl)
      | inr behind ↦ behind
    ]

held_where_passed : (g : Geometry) (counter : ℕ) (image : Image) → IsPassed g counter image 3 → IsHeld g image
held_where_passed g counter image passed = record {
  locks = λ r has is. passed (LockKey r) (refl, (has, is));
  records = λ h below some. passed (RecordKey h) (refl, (below, some));
  edits = λ h x below touched.
      let first = first_of_field (journal g image h) x touched in
      let right = passed (RecordEdit h first.at) (refl, (below, first.below)) first.edit first.is in
      subst (HoldsField g image (journal_key_at g image h)) first.of right.0;
  slots = λ h below s d touched names.
      let first = first_of_field (journal g image h) (Slot s) touched in
      let right = passed (RecordEdit h first.at) (refl, (below, first.below)) first.edit first.is in
      right.1 s d first.of (rw (first.gives (field g image (Slot s))) at names);
}

-- no fault in the stages behind the first: the volume is valid
pub faultless_tables_are_valid : (g : Geometry) (counter : ℕ) (image : Image) → SpellsGeometry (first_block image) g
    → total g ≤ length image → AreTableFaults g counter image []
    → IsValid g counter image
unfolding AreTableFaults field
faultless_tables_are_valid g counter image spelled long are =
    let spellings = stage_passed 2 (3 ∷ 4 ∷ []) g counter image are in
    let keys = stage_passed 3 (4 ∷ []) g counter image spellings.1 in
    let counts = stage_passed 4 [] g counter image keys.1 in
    record {
      geometry = spelled;
      long = long;
      slots = λ h below. spellings.0 (Block (kinds.Slot h)) (refl, (below, tt));
      journals = λ h below. spellings.0 (Block (kinds.Journal h)) (refl, (below, tt));
      locks = λ r has. spellings.0 (Block (kinds.Lock r)) (refl, (has, tt));
      tables = λ t has. (spellings.0 (Block (kinds.Table t)) (refl, (has, tt))).0;
      numbers = λ x has. (spellings.0 (Block (kinds.Table (table_of x))) (refl, (HasTable-table_of g x has, tt))).1 x has refl;
      held = held_where_passed g counter image keys.0;
      counted = record {
        counts = λ d has. counts.0 (CountOf d) (refl, has);
        unmarked = λ f i has. counts.0 (PointerOf f i) (refl, has);
      };
    }

-- no fault: the volume is valid
pub faultless_is_valid : (counter : ℕ) (image : Image) → AreFaults counter image [] → IsVolume counter image
unfolding AreFaults AreTableFaults
faultless_is_valid counter image are =
    let g = geometry_of image in
    let first = stage_passed 1 (2 ∷ 3 ∷ 4 ∷ []) g counter image are in
    let spelled = first.0 Superblock (refl, tt) in
    faultless_tables_are_valid g counter image spelled (first.0 Size (refl, spelled)) first.1

none_where_right : (stages : List ℕ) (g : Geometry) (counter : ℕ) (image : Image) (xs : List Fault)
    → ((site : Site) → HasSite g image site → IsRight g counter image site)
    → AreOfFirst stages g counter image xs → xs ≡ []
none_where_right [] g counter image xs right are = are
none_where_right (stage ∷ stages) g counter image [] right are = refl
none_where_right (stage ∷ stages) g counter image (x ∷ xs) right are =
    elim are [
      | inl here ↦
          let first = All-head (IsFaultOf (IsOfStage g image stage) g counter image) x xs here.1.each in
          absurd (first.wrong (right first.site first.among.1))
      | inr behind ↦ none_where_right stages g counter image (x ∷ xs) right behind.1
    ]

pub valid_has_no_fault : (counter : ℕ) (image : Image) (xs : List Fault) → IsVolume counter image → AreFaults counter image xs → xs ≡ []
unfolding AreFaults
valid_has_no_fault counter image xs valid are = none_where_right (1 ∷ 2 ∷ 3 ∷ 4 ∷ []) (geometry_of image) counter image xs (site_right (geometry_of image) counter image valid) are

pub valid_has_faultless_tables : (g : Geometry) (counter : ℕ) (image : Image) → IsValid g counter image → AreTableFaults g counter image []
unfolding AreTableFaults
valid_has_faultless_tables g counter image valid =
    let passed = λ (stage : ℕ). all_passed g counter image stage valid in
    inr (passed 2, inr (passed 3, inr (passed 4, refl)))

pub valid_has_no_table_fault : (g : Geometry) (counter : ℕ) (image : Image) (xs : List Fault) → IsValid g counter image
    → AreTableFaults g counter image xs → xs ≡ []
unfolding AreTableFaults
valid_has_no_table_fault g counter image xs valid are = none_where_right (2 ∷ 3 ∷ 4 ∷ []) g counter image xs (site_right g counter image valid) are

-- of the first stage are the superblock and the size
first_stage_passed : (g : Geometry) (counter : ℕ) (image : Image) → SpellsGeometry (first_block image) g → total g ≤ length image
    → IsPassed g counter image 1
first_stage_passed g counter image spelled long Superblock is = spelled
first_stage_passed g counter image spelled long Size is = long
first_stage_passed g counter image spelled long (Block kind) is = let same = is.0 in absurd (omega (arith, same))
first_stage_passed g counter image spelled long (LockKey r) is = let same = is.0 in absurd (omega (arith, same))
first_stage_passed g counter image spelled long (RecordKey h) is = let same = is.0 in absurd (omega (arith, same))
first_stage_passed g counter image spelled long (RecordEdit h e) is = let same = is.0 in absurd (omega (arith, same))
first_stage_passed g counter image spelled long (CountOf d) is = let same = is.0 in absurd (omega (arith, same))
first_stage_passed g counter image spelled long (PointerOf f i) is = let same = is.0 in absurd (omega (arith, same))

-- the faults of a volume whose superblock is right and which is whole are those of the stages behind the first
pub table_faults_are_faults : (g : Geometry) (counter : ℕ) (image : Image) (xs : List Fault) → SpellsGeometry (first_block image) g
    → total g ≤ length image → AreTableFaults g counter image xs
    → AreFaults counter image xs
unfolding AreFaults AreTableFaults
table_faults_are_faults g counter image xs spelled long are =
    let P : Geometry → Type 0 = λ k. AreOfFirst (1 ∷ 2 ∷ 3 ∷ 4 ∷ []) k counter image xs in
    subst P (sym (geometry_of-spelled g image spelled)) (inr (first_stage_passed g counter image spelled long, are))

only_superblock : (g : Geometry) (image : Image) → (SpellsGeometry (first_block image) g → ⊥) → (site : Site) → IsOfStage g image 1 site
    → site ≡ Superblock
only_superblock g image none Superblock is = refl
only_superblock g image none Size is = absurd (none is.1)
only_superblock g image none (Block kind) is = let same = is.0 in absurd (omega (arith, same))
only_superblock g image none (LockKey r) is = let same = is.0 in absurd (omega (arith, same))
only_superblock g image none (RecordKey h) is = let same = is.0 in absurd (omega (arith, same))
only_superblock g image none (RecordEdit h e) is = let same = is.0 in absurd (omega (arith, same))
only_superblock g image none (CountOf d) is = let same = is.0 in absurd (omega (arith, same))
only_superblock g image none (PointerOf f i) is = let same = is.0 in absurd (omega (arith, same))

-- where block 0 spells no geometry, or is not there, that is the one fault
pub no_superblock_is_the_fault : (counter : ℕ) (image : Image) → ((g : Geometry) → SpellsGeometry (first_block image) g → ⊥)
    → AreFaults counter image (record { place = 0; kind = faults.Superblock } ∷ [])
unfolding AreFaults
no_superblock_is_the_fault counter image none =
    let g = geometry_of image in
    inl (λ e. cc, Lists-wrong (IsOfStage g image 1) g counter image Superblock (refl, tt) (only_superblock g image (none g)) (none g))

begins : (one : Bool) (xs : List ℕ) → [] ≡ (if one then codes "DEDEVOL1" else codes "DEDEVOL2") ++ xs → ⊥
begins true xs e = cc
begins false xs e = cc

no_bytes_spell_none : (g : Geometry) → SpellsGeometry [] g → ⊥
unfolding superblock_bytes
no_bytes_spell_none g spelled =
    let rest = flat_map (bytes_of 4) (written_numbers g) ++ zeros (4088 - 4 * length (written_numbers g)) in
    begins (g.tables == 1) rest (spelled.1 ∙ append_assoc (volume_magic g) (flat_map (bytes_of 4) (written_numbers g)) (zeros (4088 - 4 * length (written_numbers g))))

-- so it is on a device of no block
pub no_block_is_the_fault : (counter : ℕ) → AreFaults counter [] (record { place = 0; kind = faults.Superblock } ∷ [])
no_block_is_the_fault counter = no_superblock_is_the_fault counter [] no_bytes_spell_none

-- where the image is too short for its geometry, that is the one fault
right_or_size : (g : Geometry) (counter : ℕ) (image : Image) → SpellsGeometry (first_block image) g → (site : Site)
    → IsOfStage g image 1 site
    → IsRight g counter image site ⊎ (site ≡ Size)
right_or_size g counter image spelled Superblock is = inl spelled
right_or_size g counter image spelled Size is = inr refl
right_or_size g counter image spelled (Block kind) is = let same = is.0 in absurd (omega (arith, same))
right_or_size g counter image spelled (LockKey r) is = let same = is.0 in absurd (omega (arith, same))
right_or_size g counter image spelled (RecordKey h) is = let same = is.0 in absurd (omega (arith, same))
right_or_size g counter image spelled (RecordEdit h e) is = let same = is.0 in absurd (omega (arith, same))
right_or_size g counter image spelled (CountOf d) is = let same = is.0 in absurd (omega (arith, same))
right_or_size g counter image spelled (PointerOf f i) is = let same = is.0 in absurd (omega (arith, same))

size_listed : (g : Geometry) (counter : ℕ) (image : Image) → SpellsGeometry (first_block image) g → length image < total g
    → Lists (IsOfStage g image 1) g counter image (fault_at g image Size ∷ [])
size_listed g counter image spelled short =
    let fault = fault_at g image Size in
    let Of = IsFaultOf (IsOfStage g image 1) g counter image in
    record {
      each = All-cons Of fault [] (record { site = Size; among = (refl, spelled); wrong = λ long. omega arith; is = refl }) (All-nil Of);
      whole = λ site is. elim (right_or_size g counter image spelled site is) as (λ _. IsRight g counter image site ⊎ Contains (fault ∷ []) (fault_at g image site)) [
        | inl right ↦ inl right
        | inr size ↦ inr (rw size (Contains-push [] fault))
      ];
      order = (All-nil (ComesBefore fault), tt);
    }

pub too_short_is_the_fault : (g : Geometry) (counter : ℕ) (image : Image) → SpellsGeometry (first_block image) g → length image < total g
    → AreFaults counter image (record { place = 0; kind = faults.Size (total g) (length image) } ∷ [])
unfolding AreFaults
too_short_is_the_fault g counter image spelled short =
    let xs : List Fault = record { place = 0; kind = faults.Size (total g) (length image) } ∷ [] in
    let P : Geometry → Type 0 = λ k. AreOfFirst (1 ∷ 2 ∷ 3 ∷ 4 ∷ []) k counter image xs in
    subst P (sym (geometry_of-spelled g image spelled)) (inl (λ e. cc, size_listed g counter image spelled short))

-- the list is empty exactly where the volume is valid
pub faultless_exactly_where_valid : (counter : ℕ) (image : Image) (xs : List Fault) → AreFaults counter image xs
    → (xs ≡ []) ↔ IsVolume counter image
faultless_exactly_where_valid counter image xs are =
    (λ none. faultless_is_valid counter image (rw none at are), λ valid. valid_has_no_fault counter image xs valid are)
