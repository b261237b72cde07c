-- The record of a head is right, and is the place of create, remove and size.
use Rattle.std.proofs.Common.{◌≡◌, ◌≢◌, ◌<◌, ◌≤◌, ◌+◌, ltb, false, ℕ, List, map, Option, None, Some, refl, sym, ap, ◌∙◌, arith}
use Rattle.std.specs.List.{range_with_len}
use Rattle.std.proofs.lemmas.Bool.{le-ltb}
use Rattle.vol_base.specs.declared.block.Block.{Block}
use Rattle.vol_base.specs.declared.plain.PlainCall.TheVariants.{Create, Remove, Size}
use Rattle.vol_base.specs.declared.plain.PlainReply.TheVariants.{Done}
use Rattle.vol_layout.specs.declared.geometry.Geometry.{Geometry}
use Rattle.vol_layout.specs.declared.field.Field.TheVariants.{Head, Pointer}
use Rattle.vol_layout.specs.declared.field.Edit.{Edit}
use Rattle.vol_layout.specs.Edits.{IsEdit}
use Rattle.vol_layout.specs.Fields.{HasField}
use Rattle.vol_layout.specs.Ranges.{limit}
use Rattle.vol_layout.specs.Superblock.{SpellsGeometry}
use Rattle.vol_layout.specs.laws.EditLaws.{other_field-is, same_field-refl}
use Rattle.plain_files.specs.Calls.{outcome, sized}
use Rattle.image_view.specs.Balances.{edit}
use Rattle.image_view.specs.Counted.{IsCounted}
use Rattle.image_view.specs.Files.{content}
use Rattle.image_view.specs.Held.{HoldsField}
use Rattle.image_view.specs.Images.{Image, first_block}
use Rattle.image_view.specs.Numbers.{logical}
use Rattle.image_view.specs.Records.{IsRecord}
use Rattle.image_view.specs.Valid.{IsValid}
use Rattle.image_view.specs.laws.BalanceLaws.{balances-head}
use Rattle.image_view.specs.laws.FileLaws.{logical_in_range, map_range_same, shown, volume_file_none, volume_file_sized, volume_file_some}
use Rattle.call_effects.specs.Changes.{Changes}
use Rattle.call_effects.specs.Clones.{IsCloned}
use Rattle.call_effects.specs.Heads.{HasNoRemain, headed}
use Rattle.call_effects.specs.Places.{IsPlaced}
use Rattle.call_effects.specs.Shares.{CountsSlot, MayName}
use Rattle.call_effects.specs.laws.EachEdit.{all-one}
use Rattle.call_effects.specs.laws.PlaceLaws.{LeavesOthers, after-call, file-absent, file-there, other-file}
use Rattle.call_effects.specs.laws.PointerLaws.{content-hole}
use Rattle.call_effects.specs.laws.RecordLaws.{record-of}
use Rattle.call_effects.specs.laws.StayLaws.{LeavesFile, content-changed}

-- a head in range, of a file that the key holds
pub record-head : (g : Geometry) (image : Image) (key f n : ℕ) → IsCounted g image → HoldsField g image key (Head f) → n ≤ limit g + 1
    → IsRecord g image key (headed f n)
record-head g image key f n counted held short =
    record-of g image key (headed f n) counted
    (record { few = omega arith; each = all-one (IsEdit g) (edit (Head f) n) (held.0, short); apart = (refl, tt) })
    (all-one (λ (e : Edit). HoldsField g image key e.field) (edit (Head f) n) held)
    (balances-head g (λ x. logical g image x) f n)
    (all-one (MayName g image (headed f n)) (edit (Head f) n) (λ d some. absurd (some refl)))
    (all-one (CountsSlot g image (headed f n)) (edit (Head f) n) (λ s d is names. absurd cc))

-- what the edit leaves
leaves_others : (g : Geometry) (image : Image) (f n : ℕ) → LeavesOthers g image f (headed f n)
leaves_others g image f n h other = all-one (LeavesFile g image h) (edit (Head f) n) (λ same. absurd (other (sym same)))

head_is : (g : Geometry) (old new : Image) (f n : ℕ) → Changes g (headed f n) None old new → f < g.files → logical g new (Head f) ≡ n
head_is g old new f n step has = step.numbers (Head f) has ∙ (let same = same_field-refl (Head f) in rw same refl)

pointer_kept : (g : Geometry) (old new : Image) (f n h i : ℕ) → Changes g (headed f n) None old new → HasField g (Pointer h i)
    → logical g new (Pointer h i) ≡ logical g old (Pointer h i)
pointer_kept g old new f n h i step has = step.numbers (Pointer h i) has ∙ (let other = other_field-is (Head f) (Pointer h i) (λ e. cc) in rw other refl)

-- a file of no blocks comes to be
pub placed-create : (g : Geometry) (counter : ℕ) (old new : Image) (f : ℕ) → IsValid g counter old → f < g.files
    → logical g old (Head f) ≡ 0 → Changes g (headed f 1) None old new → IsPlaced g (Create f) Done old new
placed-create g counter old new f valid below none step =
    let absent = file-absent g old f valid.geometry below none in (
      sym (ap (λ (file : Option (List Block)). (outcome (limit g) (Create f) file).0) absent),
      after-call g counter (headed f 1) None old new (Create f) None valid (all-one (IsEdit g) (edit (Head f) 1) (below, omega arith)) step below absent
          (volume_file_some g new f 0 (head_is g old new f 1 step below)) (leaves_others g old f 1) (λ h i there other inside d is. refl),
    )

-- a file goes
pub placed-remove : (g : Geometry) (counter : ℕ) (old new : Image) (f n : ℕ) → IsValid g counter old → f < g.files
    → logical g old (Head f) ≡ n + 1 → Changes g (headed f 0) None old new → IsPlaced g (Remove f) Done old new
placed-remove g counter old new f n valid below head step =
    let there = file-there g old f n valid.geometry below head in (
      sym (ap (λ (file : Option (List Block)). (outcome (limit g) (Remove f) file).0) there),
      after-call g counter (headed f 0) None old new (Remove f) (Some (map (shown g old f) (range_with_len 0 n))) valid (all-one (IsEdit g) (edit (Head f) 0) (below, omega arith)) step below there
          (volume_file_none g new f (head_is g old new f 0 step below)) (leaves_others g old f 0) (λ h i there other inside d is. refl),
    )

-- a file gets another length, and grows over holes alone
pub placed-size : (g : Geometry) (counter : ℕ) (old new : Image) (f n m : ℕ) → IsValid g counter old → f < g.files
    → logical g old (Head f) ≡ n + 1 → m ≤ limit g → HasNoRemain g old f n m → Changes g (headed f (m + 1)) None old new
    → IsPlaced g (Size f m) Done old new
placed-size g counter old new f n m valid below head short holes step =
    let range : logical g old (Head f) ≤ limit g + 1 = logical_in_range g counter old (Head f) valid below in
    let blocks = map (shown g old f) (range_with_len 0 n) in
    let there = file-there g old f n valid.geometry below head in
    let test : ltb (limit g) m ≡ false = le-ltb (limit g) m short in
    let out : outcome (limit g) (Size f m) (Some blocks) ≡ (Done, Some (sized m blocks)) = rw test refl in (
      sym (ap (λ (file : Option (List Block)). (outcome (limit g) (Size f m) file).0) there ∙ ap (λ o. o.0) out),
      after-call g counter (headed f (m + 1)) None old new (Size f m) (Some blocks) valid (all-one (IsEdit g) (edit (Head f) (m + 1)) (below, omega (arith, short))) step below there
          (volume_file_sized g old new f n m (head_is g old new f (m + 1) step below)
          (λ k lt.
          let has : HasField g (Pointer f k) = (below, omega (arith, lt, range, head)) in
          ap (content g new) (pointer_kept g old new f (m + 1) f k step has)
          ∙ content-changed g (headed f (m + 1)) None old new (logical g old (Pointer f k)) step (logical_in_range g counter old (Pointer f k) valid has) (λ d is. refl))
          (λ k ge lt.
          let has : HasField g (Pointer f k) = (below, omega (arith, lt, short)) in
          ap (content g new) (pointer_kept g old new f (m + 1) f k step has)
          ∙ content-hole g new (logical g old (Pointer f k)) (holes k ge lt))
          ∙ sym (ap (λ o. o.1) out)) (leaves_others g old f (m + 1)) (λ h i there other inside d is. refl),
    )

-- the head of a clone: the file is there, and shows what its source shows
pub cloned-head : (g : Geometry) (counter : ℕ) (old new : Image) (from to n : ℕ) → IsValid g counter old → from < g.files → to < g.files
    → from ≢ to → logical g old (Head from) ≡ n + 1 → ((i : ℕ) → i < n → shown g old to i ≡ shown g old from i)
    → Changes g (headed to (n + 1)) None old new → IsCloned old new from to
cloned-head g counter old new from to n valid source clone other head same step =
    let range : logical g old (Head from) ≤ limit g + 1 = logical_in_range g counter old (Head from) valid source in
    let is = valid.geometry in
    let is' : SpellsGeometry (first_block new) g = (is.0, step.super ∙ is.1) in
    record {
      clone =
          file-there g new to n is' clone (head_is g old new to (n + 1) step clone)
          ∙ ap (λ bs. Some bs) (map_range_same (shown g old from) (shown g new to) 0 n n (omega arith)
          (λ i lt.
          let has : HasField g (Pointer to i) = (clone, omega (arith, lt, range, head)) in
          ap (content g new) (pointer_kept g old new to (n + 1) to i step has)
          ∙ content-changed g (headed to (n + 1)) None old new (logical g old (Pointer to i)) step (logical_in_range g counter old (Pointer to i) valid has) (λ d e. refl)
          ∙ same i lt))
          ∙ sym (file-there g old from n is source head);
      others = λ f apart. other-file g counter (headed to (n + 1)) None old new f valid (all-one (IsEdit g) (edit (Head to) (n + 1)) (clone, omega (arith, range, head))) step
          (leaves_others g old to (n + 1) f apart) (λ i there inside d e. refl);
    }
