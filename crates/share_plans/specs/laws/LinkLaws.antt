-- The commit of a link: its record is right, it is the step by which two equal blocks become one, and no file changes.
use Rattle.std.proofs.Common.{◌≡◌, ◌≤◌, ◌<◌, ◌+◌, ◌/◌, ◌%◌, ◌^◌, ℕ, Bool, true, false, List}
use Rattle.std.proofs.Common.{[], None, Option, Some, refl, ap, sym, subst, ◌∙◌, arith, inl}
use Rattle.std.specs.Prelude.{if◌then◌else◌}
use Rattle.std.proofs.lemmas.Bool.{false_from_ne_true, ne_eqb}
use Rattle.vol_layout.specs.declared.field.Field.TheVariants.{Count, Pointer, Slot}
use Rattle.vol_layout.specs.declared.geometry.Geometry.{Geometry}
use Rattle.vol_layout.specs.declared.kind.Kind.TheVariants as kinds
use Rattle.vol_layout.specs.declared.kind.Resource.TheVariants as resources
use Rattle.vol_layout.specs.declared.kind.Table.{Table}
use Rattle.vol_layout.specs.declared.kind.Table.TheVariants as tables
use Rattle.vol_layout.specs.Edits.{touches}
use Rattle.vol_layout.specs.Fields.{HasField, greatest_count}
use Rattle.vol_layout.specs.Ranges.{HasTable, data_blocks, per_table}
use Rattle.image_view.specs.Balances.{share, share_of}
use Rattle.image_view.specs.Held.{HoldsField}
use Rattle.image_view.specs.HostKeys.{slot_key_at}
use Rattle.image_view.specs.Images.{Image, block_at}
use Rattle.image_view.specs.Links.{IsLink}
use Rattle.image_view.specs.Numbers.{field, journal, logical}
use Rattle.image_view.specs.Records.{IsRecord}
use Rattle.image_view.specs.Pointers.{IsUnmarked, pointer_number}
use Rattle.image_view.specs.declared.pointer.Number.TheVariants as numbers
use Rattle.image_view.specs.laws.BalanceLaws.{share_named}
use Rattle.image_view.specs.laws.EditLaws.{edited_untouched}
use Rattle.image_view.specs.laws.FrameLaws.{HasResource-resource_of}
use Rattle.image_view.specs.laws.JournalLaws.{logical_own, record_key, slot_key-host}
use Rattle.call_effects.specs.Changes.{Changes}
use Rattle.call_effects.specs.Places.{KeepsFiles}
use Rattle.call_effects.specs.Links.{IsLinkable, IsSource, linked}
use Rattle.call_effects.specs.laws.LinkLaws.{link-is, record-link, stays-link}
use Rattle.call_effects.specs.laws.PointerLaws.{fresh-unmarked, named-unmarked}
use Rattle.call_effects.specs.laws.RoomLaws.{room-for-one}
use Rattle.table_blocks.specs.Tables.{number_in}
use Rattle.lock_store.specs.Memories.{holds}
use Rattle.lock_store.specs.Views.{LocksView, counter_of, host_at, key_at}
use Rattle.disk_locks.specs.Consistent.{Consistent}
use Rattle.disk_locks.specs.Keys.{owner}
use Rattle.disk_locks.specs.Sure.{Sure}
use Rattle.host_facts.specs.Facts.{Tells}
use Rattle.host_facts.specs.Facts.Fact.{BlockIs, RecordIs}
use Rattle.host_facts.specs.Finds.{Finds}
use Rattle.host_facts.specs.Knows.{Knows}
use Rattle.host_facts.specs.Views.{WorldView}
use Rattle.host_facts.specs.laws.DoneLaws.{number_known}
use Rattle.host_facts.specs.laws.FindsLaws.{sure_found}
use Rattle.host_facts.specs.laws.FoundLaws.{held_found, host_found, key_found}
use Rattle.host_facts.specs.laws.ToldLaws.{sure_and}
use Rattle.plan_parts.specs.declared.kept.Kept.{Kept}
use Rattle.share_plans.specs.LinkRecords.{count_table, moved_by, room_in, unmarked_of}
use Rattle.share_plans.specs.Places.{field_of}
use Rattle.share_plans.specs.ReadTables.{Known}
use Rattle.share_plans.specs.Spots.{IsSourceShown, PointsTo, Reads}
use Rattle.share_plans.specs.Stands.{At, HasSource, IsGroupOf, IsOtherGroup, known_of}
use Rattle.share_plans.specs.declared.sharing.Place.{Place}
use Rattle.share_plans.specs.declared.sharing.Place.TheVariants.{Arena, File}
use Rattle.share_plans.specs.declared.stage.Core.{Core}
use Rattle.share_plans.specs.declared.stage.Pair.{Pair}
use Rattle.share_plans.specs.declared.stage.Stage.TheVariants as stages
use Rattle.share_plans.specs.laws.CompareStageLaws.{AreRead, both_read}
use Rattle.share_plans.specs.laws.KnownLaws.{once, pointer_names}
use Rattle.share_plans.specs.laws.LinkRecordLaws.{room_is}

-- a slot that names a data block of a held group, and that no own record edits, names it logically too: a record of another host that
-- edited the slot would edit the count as well
slot_logical : (v : LocksView) (h s d : ℕ) (image : Image) → Finds v h image → HasField v.geometry (Count d)
    → holds (host_at v h) (resources.Group (d / per_table)) ≡ true → field v.geometry image (Slot s) ≡ d + 1
    → touches (journal v.geometry image h) (Slot s) ≡ false → logical v.geometry image (Slot s) ≡ d + 1
slot_logical v h s d image found has held names untouched =
    let g = v.geometry in
    let valid = found.agrees.valid in
    let own = held_found v h image (resources.Group (d / per_table)) found (HasResource-resource_of g (Count d) has) held in
    logical_own g image h (Slot s) (host_found v h image found) (λ k below other.
    false_from_ne_true (touches (journal g image k) (Slot s)) (λ touched.
    let counts = valid.held.slots k below s d touched (inl names) in
    let record_is = record_key g (counter_of v) image k (Count d) valid below counts in
    let host = slot_key-host g (counter_of v) image k valid below record_is.0 in
    let same : slot_key_at g image k ≡ key_at v h = sym record_is.1.by ∙ own.by in
    other (sym host ∙ ap (λ n. n % 16) same ∙ (key_found v h image found).0)))
    ∙ edited_untouched (journal g image h) (Slot s) (field g image (Slot s)) untouched
    ∙ names

-- what the source of a link is on an image
record SourceIs (g : Geometry) (image : Image) (key : ℕ) (source : Place) (pair : Pair) : Type 0 where
  pub has : HasField g (field_of source)
  pub names : share_of (field_of source) (logical g image (field_of source)) pair.source ≡ 1
  pub is : IsSource g image key (field_of source) (unmarked_of source pair)

module _ (v : WorldView) (h : ℕ) (known : Known) (image : Image) (is : Consistent v.locks) (found : Finds v.locks h image)
    (reads : Reads v.locks.geometry known image) (pair : Pair) where
  abbrev g : Geometry
  g = v.locks.geometry

  pointer_source : (f i : ℕ) (b : Bool) → (f < g.files) × (holds (host_at v.locks h) (resources.File f) ≡ true)
      → PointsTo g known f i (numbers.At pair.source b)
      → IsSource g image (key_at v.locks h) (Pointer f i) (if◌then◌else◌ {A = Option (ℕ × ℕ)} b None (Some (f, i)))
  pointer_source f i false has points = (refl, (points.has, held_found v.locks h image (resources.File f) found has.0 has.1))
  pointer_source f i true has points = λ lone.
      let number : logical g image (Pointer f i) ≡ pointer_number (numbers.At pair.source true) =
      reads (Pointer f i) (pointer_number (numbers.At pair.source true)) points.has points.pointer in
      let small : logical g image (Pointer f i) < 2 ^ 31 = lone.1 in
      absurd (omega (arith, number, small))

  source_is : (source : Place) (bytes : List ℕ) → HasSource v h source → IsSourceShown g known source pair.source pair.shared
      → Tells v.locks h image (BlockIs (field_of source) pair.source bytes) → HasField g (Count pair.source)
      → holds (host_at v.locks h) (resources.Group (pair.source / per_table)) ≡ true → SourceIs g image (key_at v.locks h) source pair
  source_is (File f i) bytes has shown tells count held = record {
    has = shown.has;
    names = once (logical g image (Pointer f i)) pair.source (pointer_names g known image is.geometry reads f i pair.source pair.shared shown);
    is = pointer_source f i pair.shared has shown;
  }
  source_is (Arena s) bytes has shown tells count held =
      let number = slot_logical v.locks h s pair.source image found count held tells.0.0 tells.0.1 in record {
        has = has;
        names = once (logical g image (Slot s)) pair.source
            (named-unmarked (logical g image (Slot s)) pair.source number
            (subst IsUnmarked (sym number) (fresh-unmarked g pair.source is.geometry count)));
        is = λ lone. lone;
      }

-- a count that is kept
module _ (v : WorldView) (h d : ℕ) (kept : Kept) (is : Consistent v.locks) (group : IsGroupOf v h d kept) where
  pub count_has : HasField v.locks.geometry (Count d)
  unfolding data_blocks per_table
  count_has = let below : d / 1008 < v.locks.geometry.groups = subst (HasTable v.locks.geometry) group.1 group.0.table in omega (arith, below)

  pub count_known : Knows v h (RecordIs []) → Sure v.locks h (λ image. logical v.locks.geometry image (Count d) ≡ number_in kept.table (Count d))
  count_known empty = number_known v h kept.which kept.table (Count d) is group.0.known group.0.packing empty count_has (sym group.1)

  pub count_range : number_in kept.table (Count d) ≤ greatest_count v.locks.geometry
  count_range = group.0.packing.range (Count d) count_has (sym group.1)

  count_held : holds (host_at v.locks h) (resources.Group (d / per_table)) ≡ true
  count_held = ap (λ (t : Table). holds (host_at v.locks h) (owner t)) (sym group.1) ∙ group.0.held

  pub holds_count : (image : Image) → Finds v.locks h image → HoldsField v.locks.geometry image (key_at v.locks h) (Count d)
  holds_count image found = (
    count_has,
    held_found v.locks h image (resources.Group (d / per_table)) found (HasResource-resource_of v.locks.geometry (Count d) count_has)
        count_held,
  )

-- the group of the source's data block
pub source_group : (v : WorldView) (h : ℕ) (pair : Pair) (group : Kept) (other : Option Kept) → IsGroupOf v h pair.own group
    → IsOtherGroup v h pair other → IsGroupOf v h pair.source (count_table group other)
source_group v h pair group None own same = (own.0, own.1 ∙ ap tables.Group same)
source_group v h pair group (Some kept) own other = other.0

module _ (v : WorldView) (core : Core) (pair : Pair) (group : Kept) (other : Option Kept) (is : Consistent v.locks)
    (at : At v core (stages.Commits pair group other)) where
  abbrev geometry : Geometry
  geometry = v.locks.geometry

  abbrev key : ℕ
  key = key_at v.locks core.host

  abbrev own_count : ℕ
  own_count = number_in group.table (Count pair.own)

  abbrev source_count : ℕ
  source_count = number_in (count_table group other).table (Count pair.source)

  abbrev bytes : List ℕ
  bytes = at.1.0

  -- what the host is sure of before its commit
  pub record Seen (image : Image) : Type 0 where
    pub found : Finds v.locks core.host image
    pub are : AreRead v core pair bytes bytes image
    pub from : Tells v.locks core.host image (BlockIs (field_of core.source) pair.source bytes)
    pub own_is : logical geometry image (Count pair.own) ≡ own_count
    pub source_is : logical geometry image (Count pair.source) ≡ source_count

  pub from_group : IsGroupOf v core.host pair.source (count_table group other)
  from_group = source_group v core.host pair group other at.2 at.3

  pub seen_sure : Sure v.locks core.host Seen
  seen_sure =
      let From = λ (image : Image). Tells v.locks core.host image (BlockIs (field_of core.source) pair.source bytes) in
      let Own = λ (image : Image). logical geometry image (Count pair.own) ≡ own_count in
      let Source = λ (image : Image). logical geometry image (Count pair.source) ≡ source_count in
      let Read = AreRead v core pair bytes bytes in
      let empty = at.0.base.empty in
      sure_found v.locks core.host (λ image. Read image × (From image × (Own image × Source image))) Seen is
      (λ image found all. record { found = found; are = all.0; from = all.1.0; own_is = all.1.1.0; source_is = all.1.1.1 })
      (sure_and v.locks core.host Read (λ image. From image × (Own image × Source image))
      (both_read v core pair bytes bytes is at.0 at.1.1 at.1.2)
      (sure_and v.locks core.host From (λ image. Own image × Source image) at.1.2.sure
      (sure_and v.locks core.host Own Source (count_known v core.host pair.own group is at.2 empty)
      (count_known v core.host pair.source (count_table group other) is from_group empty))))

  -- the record of the link is right on each such image
  module _ (image : Image) (seen : Seen image) where
    room : room_in geometry source_count ≡ source_count
    room =
        let valid = seen.found.agrees.valid in
        let has = (count_has v core.host pair.source (count_table group other) is from_group) in
        let names = pointer_names geometry (known_of core) image is.geometry seen.are.reads core.file core.index pair.own at.0.are_pair.own.0
        at.0.are_pair.own.1 in
        let away : share (logical geometry image (Pointer core.file core.index)) pair.source ≡ 0 =
        share_named (logical geometry image (Pointer core.file core.index)) pair.own pair.source names
        ∙ (let apart = ne_eqb pair.own pair.source at.0.are_pair.other in rw apart refl) in
        let one = room-for-one geometry image core.file core.index pair.source is.geometry at.0.are_pair.own.1.has has away in
        let uses_is = valid.counted.counts pair.source has in
        room_is geometry source_count (omega (arith, one, uses_is, seen.source_is))

    pub linkable : IsLinkable geometry image key core.file core.index pair.own pair.source own_count (room_in geometry source_count)
        (field_of core.source) (unmarked_of core.source pair)
    linkable =
        let points = at.0.are_pair.own.1 in
        let source = source_is v core.host (known_of core) image is seen.found seen.are.reads pair core.source bytes at.0.base.places.from
        at.0.are_pair.from seen.from (count_has v core.host pair.source (count_table group other) is from_group) at.0.locked.from in
        record {
          pointer = (
            points.has,
            held_found v.locks core.host image (resources.File core.file) seen.found
                at.0.base.places.is_host.file at.0.base.places.is_host.held,
          );
          names = pointer_names geometry (known_of core) image is.geometry seen.are.reads core.file core.index pair.own at.0.are_pair.own.0 points;
          has = source.has;
          source_names = source.names;
          is_source = source.is;
          other = at.0.are_pair.other;
          left = holds_count v core.host pair.own group is at.2 image seen.found;
          left_is = seen.own_is;
          taken = holds_count v core.host pair.source (count_table group other) is from_group image seen.found;
          taken_is = seen.source_is ∙ sym room;
        }

    pub same_bytes : block_at geometry image (kinds.Number pair.own) ≡ block_at geometry image (kinds.Number pair.source)
    same_bytes = seen.are.own_is ∙ sym seen.are.from_is

    pub right_record : IsRecord geometry image key
        (linked core.file core.index pair.source (unmarked_of core.source pair) (moved_by geometry pair group other))
    right_record =
        record-link geometry (counter_of v.locks) image key core.file core.index pair.own pair.source own_count (room_in geometry source_count)
        (field_of core.source) (unmarked_of core.source pair) seen.found.agrees.valid linkable

    -- and what it makes of the image
    module _ (new : Image) (step : Changes geometry
        (linked core.file core.index pair.source (unmarked_of core.source pair) (moved_by geometry pair group other)) None image new) where
      pub files_stay : KeepsFiles image new
      files_stay =
          stays-link geometry (counter_of v.locks) image new key core.file core.index pair.own pair.source own_count
          (room_in geometry source_count) (field_of core.source) (unmarked_of core.source pair) seen.found.agrees.valid linkable same_bytes step

      pub link_made : IsLink geometry image new core.file core.index (field_of core.source)
      link_made =
          link-is geometry (counter_of v.locks) image new key core.file core.index pair.own pair.source own_count
          (room_in geometry source_count) (field_of core.source) (unmarked_of core.source pair) seen.found.agrees.valid linkable same_bytes step
