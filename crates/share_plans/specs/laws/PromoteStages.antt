-- What each step of a promotion did before its record.
use Rattle.std.proofs.Common.{◌≡◌, ◌≢◌, ◌<◌, ◌≤◌, ◌+◌, ◌*◌, ◌/◌, ◌%◌, ℕ, true, false, List, []}
use Rattle.std.proofs.Common.{◌∷◌, None, Option, Some, refl, ap, sym, subst, ◌∙◌, arith, length, slice_index}
use Rattle.std.specs.Prelude.{IfSome, IsNone}
use Rattle.vol_base.specs.Packing.{numbers}
use Rattle.vol_base.specs.declared.block.Key.{Key}
use Rattle.vol_layout.specs.declared.field.Field.TheVariants.{Count, Pointer, Slot}
use Rattle.vol_layout.specs.declared.geometry.Geometry.{Geometry}
use Rattle.vol_layout.specs.declared.kind.Resource.{Resource}
use Rattle.vol_layout.specs.declared.kind.Resource.TheVariants.{Group, Part}
use Rattle.vol_layout.specs.declared.kind.Table.{Table}
use Rattle.vol_layout.specs.declared.kind.Table.TheVariants as tables
use Rattle.vol_layout.specs.Fields.{HasField, table_of}
use Rattle.vol_layout.specs.Ranges.{HasTable, arena_slots, per_table}
use Rattle.image_view.specs.declared.pointer.Number.TheVariants as numbers'
use Rattle.image_view.specs.Images.{Image}
use Rattle.image_view.specs.Numbers.{logical}
use Rattle.image_view.specs.Pointers.{pointer_number}
use Rattle.image_view.specs.laws.FrameLaws.{HasResource-resource_of}
use Rattle.table_blocks.specs.Tables.{number_in}
use Rattle.disk_locks.specs.Consistent.{Consistent}
use Rattle.disk_locks.specs.Sure.{Sure}
use Rattle.host_facts.specs.Facts.Fact.{RecordIs}
use Rattle.host_facts.specs.Views.{WorldView}
use Rattle.host_facts.specs.laws.DoneLaws.{number_known}
use Rattle.host_facts.specs.laws.ToldLaws.{sure_all, sure_and, sure_each, sure_of}
use Rattle.plan_parts.specs.Fetched.{Fetched, LockBusy, LockTaken}
use Rattle.plan_parts.specs.Searches.{HasNoZero, IsLowestZero}
use Rattle.plan_parts.specs.TakenLocks.{AreHeld, IsTaking}
use Rattle.plan_parts.specs.declared.kept.Kept.{Kept}
use Rattle.plan_parts.specs.declared.outcome.Outcome.TheVariants as outcomes
use Rattle.plan_parts.specs.laws.TakenLaws.{taking_same}
use Rattle.share_plans.specs.Lefts.{missing_at}
use Rattle.share_plans.specs.Promotions.{At, HasOwn, IsBase, IsCause, IsEmptySlot, IsFilling, IsLoneBlock, IsSame}
use Rattle.share_plans.specs.Promotions.{Went, answer_at, behind_part, behind_spot, ended_by, known_of, left, own_part}
use Rattle.share_plans.specs.ReadTables.{ArePacked, IsInserted, kept_in}
use Rattle.share_plans.specs.Spots.{IsSpot, Reads}
use Rattle.share_plans.specs.declared.promotion.Doing.{Doing}
use Rattle.share_plans.specs.declared.promotion.Doing.TheVariants as doings
use Rattle.share_plans.specs.declared.promotion.Promoted.{Promoted}
use Rattle.share_plans.specs.declared.promotion.Promoted.TheVariants as answers
use Rattle.share_plans.specs.declared.promotion.Promotion.{Promotion}
use Rattle.share_plans.specs.declared.promotion.Reached.TheVariants.{Answered, More}
use Rattle.share_plans.specs.declared.sight.Spot.{Spot}
use Rattle.share_plans.specs.declared.sight.Spot.TheVariants as spots
use Rattle.share_plans.specs.laws.ClosingLaws.{keeps_relocked}
use Rattle.share_plans.specs.laws.KnownLaws.{are_packed, kept_more, place_shown, tables_read}
use Rattle.share_plans.specs.laws.LookStageLaws.{less_at, long_more, quiet_fetched, spares_fetched}
use Rattle.share_plans.specs.laws.PromoteSteps.{IsPlain, looked_ended, went_ended, went_on}
use Rattle.share_plans.specs.laws.SpareLaws.{spares_try}
use Rattle.share_plans.specs.laws.StepLaws.{looked_keeps, looked_nothing, looked_sure, same_image}
use Rattle.share_plans.specs.laws.StillLaws.{IsStill, all_kept, host_on, one_kept, still_locked, still_looks}
use Rattle.plan_parts.specs.MadeCalls.{ReadSo, TriedSo, reading_of, try_of}
use Rattle.vol_layout.specs.Ranges.{HasResource}

-- the promotion with other locks, and with other tables
abbrev pub with_taken : Promotion → List Resource → Promotion
with_taken core taken = record { host = core.host; file = core.file; index = core.index; taken = taken; tables = core.tables }

abbrev pub with_tables : Promotion → List Kept → Promotion
with_tables core more = record { host = core.host; file = core.file; index = core.index; taken = core.taken; tables = more }

pub same_promotion : (core : Promotion) (taken : List Resource) → IsSame core (with_taken core taken)
same_promotion core taken = record { host = refl; file = refl; index = refl }

-- what stands of it stands still
module _ (v w : WorldView) (core : Promotion) (still : IsStill core.host v w) where
  pub base_on : (taken : List Resource) → IsTaking w core.host taken → IsBase v core → IsBase w (with_taken core taken)
  base_on taken taking is = record {
    is_host = host_on core.host v w still core.file is.is_host;
    empty = still.facts (RecordIs []) is.empty;
    taking = taking;
    kept = all_kept core.host v w still core.tables is.kept;
  }

  pub lone_on : (d : ℕ) → IsLoneBlock v.locks.geometry core d → IsLoneBlock w.locks.geometry core d
  lone_on d is = subst (λ (g : Geometry). IsLoneBlock g core d) (sym still.geometry) is

  pub slot_on : (t : ℕ) (part : Kept) → IsEmptySlot v core.host t part → IsEmptySlot w core.host t part
  slot_on t part is = record {
    has = subst (λ (g : Geometry). HasField g (Slot t)) (sym still.geometry) is.has;
    own = is.own ∙ ap (λ (g : Geometry). own_part g core.host) (sym still.geometry);
    kept = one_kept core.host v w still part is.kept;
    which = is.which;
    empty = is.empty;
    lowest = is.lowest;
  }

-- a table of the file was read
module _ (v w : WorldView) (later : Consistent w.locks) (core : Promotion) (t : Table) (at : At v core (doings.Reads t)) (kept : Kept)
    (did : Fetched core.host v w t kept) (so : ReadSo core.host v w kept) (more : List Kept) (inserted : IsInserted kept core.tables more) where
  abbrev new : Promotion
  new = with_tables core more

  same_now : IsSame core new
  same_now = record { host = refl; file = refl; index = refl }

  base_now : IsBase w new
  base_now =
      let still = still_looks core.host v w did.looks in record {
        is_host = host_on core.host v w still core.file at.0.is_host;
        empty = did.looks.facts (RecordIs []) at.0.empty;
        taking = taking_same v w core.host core.taken did.looks.geometry did.looks.memory at.0.taking;
        kept = kept_more kept core.tables more inserted w core.host did.is_kept (all_kept core.host v w still core.tables at.0.kept);
      }

  pub spot_packed : ArePacked w.locks.geometry (kept_in more)
  spot_packed = let base = base_now in are_packed w core.host more base.kept

  less_now : missing_at (kept_in more) core.file core.index < missing_at (known_of core) core.file core.index
  less_now = less_at kept core.tables more inserted v.locks.geometry core.file core.index t did.which at.2

  room_now : length more + missing_at (kept_in more) core.file core.index ≤ 2
  room_now = let long = long_more kept core.tables more inserted in let less = less_now in omega (arith, long, less, at.3)

  answered : (answer : Promoted) → IsPlain answer
      → ((image : Image) → Reads w.locks.geometry (kept_in more) image → IsCause w.locks.geometry core answer image image)
      → Went v w core new (doings.Reads t) (Answered answer)
  answered answer plain cause =
      let less = less_now in
      let none = ap length at.1 in
      let base = base_now in
      subst (λ (ts : List Resource). Went v w core new (doings.Reads t) (ended_by ts answer)) at.1
      (looked_ended v w core new (doings.Reads t) answer plain refl same_now did.looks base.is_host base.taking base.empty
      (Reads w.locks.geometry (kept_in more)) (tables_read w core.host more later base.kept base.empty)
      (λ image reads. subst (λ (g : Geometry). IsCause g core answer image image) did.looks.geometry (cause image reads))
      (omega (arith, less, none)) (reading_of v core.host kept) (spares_fetched core.host v w t kept did)
      (λ command may. quiet_fetched core.host v w kept so command outcomes.Open may))

  goes : (after : Doing) → answer_at after ≡ None → At w new after → left new after < left core (doings.Reads t)
      → Went v w core new (doings.Reads t) (More after)
  goes after none stands less =
      went_on v w core new (doings.Reads t) after refl none same_now (looked_keeps core.host v w did.looks) stands
      (looked_nothing core.host v w did.looks) less (reading_of v core.host kept)
      (spares_fetched core.host v w t kept did) (λ command may. quiet_fetched core.host v w kept so command outcomes.Open may)

  pub file_read : (spot : Spot) → IsSpot w.locks.geometry (kept_in more) core.file core.index spot
      → Went v w core new (doings.Reads t) (behind_spot spot)
  file_read (spots.Needs u) is = let less = less_now in goes (doings.Reads u) refl (base_now, at.1, is, room_now) (omega (arith, less))
  file_read spots.Nothing is = answered answers.Hole tt (λ image reads. (is image reads, same_image w.locks.geometry image))
  file_read (spots.Shows d false) is = let less = less_now in goes (doings.LocksPart d) refl (base_now, at.1, is) (omega (arith, less))
  file_read (spots.Shows d true) is =
      answered answers.Marked tt (λ image reads. (
        (
          d,
          (
            place_shown w.locks.geometry (kept_in more) image later.geometry reads core.file core.index d (true, is),
            reads (Pointer core.file core.index) (pointer_number (numbers'.At d true)) is.has is.pointer,
          ),
        ),
        same_image w.locks.geometry image,
      ))

-- a lock was busy: what was locked before is freed
pub lock_busy : (v w : WorldView) (core : Promotion) (stage : Doing) (after : List Resource) (key : Key) (r : Resource) → answer_at stage ≡ None
    → IsBase v core → length core.taken < left core stage → HasResource v.locks.geometry r → LockBusy core.host v w core.taken after key
    → TriedSo core.host v w r (Some key)
    → Went v w core (with_taken core after) stage (ended_by after (answers.Busy key))
lock_busy v w core stage after key r fresh base less has did so =
    went_ended v w core (with_taken core after) stage (answers.Busy key) (record {
      fresh = fresh;
      same = same_promotion core after;
      keeps = looked_keeps core.host v w did.looks;
      is_host = host_on core.host v w (still_looks core.host v w did.looks) core.file base.is_host;
      slot = tt;
      taking = did.taking;
      empty = did.looks.facts (RecordIs []) base.empty;
      cause = looked_sure core.host v w (λ image. Unit {0}) (IsCause v.locks.geometry core (answers.Busy key)) did.looks
          (sure_all w.locks core.host (λ image. Unit {0}) (λ image. tt)) (λ image is. same_image v.locks.geometry image);
      other = did.other;
      less = subst (λ (ts : List Resource). length ts < left core stage) (sym did.same) less;
      event = try_of v core.host r (Some key);
      spares = spares_try v core.host r (Some key) has;
      quiet = λ command may. so command may.0;
    })

-- the own part was locked
pub part_locked : (v w : WorldView) (core : Promotion) (d : ℕ) (after : List Resource) → At v core (doings.LocksPart d)
    → HasResource v.locks.geometry (Part (own_part v.locks.geometry core.host))
    → LockTaken core.host v w (Part (own_part v.locks.geometry core.host)) core.taken after
    → TriedSo core.host v w (Part (own_part v.locks.geometry core.host)) None
    → Went v w core (with_taken core after) (doings.LocksPart d) (More (doings.ReadsPart d))
part_locked v w core d after at has did so =
    let still = still_locked core.host v w (Part (own_part v.locks.geometry core.host)) core.taken after did in
    went_on v w core (with_taken core after) (doings.LocksPart d) (doings.ReadsPart d) refl refl (same_promotion core after)
    (keeps_relocked core.host v w (Part (own_part v.locks.geometry core.host)) tt did.gains.relocks) (
      base_on v w core still after did.taking at.0,
      subst (λ (g : Geometry). after ≡ Part (own_part g core.host) ∷ []) (sym still.geometry)
          (did.pushed ∙ ap (λ (ts : List Resource). Part (own_part v.locks.geometry core.host) ∷ ts) at.1),
      lone_on v w core still d at.2,
    )
    did.gains.relocks.passes.images (omega arith) (try_of v core.host (Part (own_part v.locks.geometry core.host)) None)
    (spares_try v core.host (Part (own_part v.locks.geometry core.host)) None has) (λ command may. so command outcomes.Open)

-- the group was locked
pub group_locked : (v w : WorldView) (core : Promotion) (d t : ℕ) (part : Kept) (after : List Resource) → At v core (doings.LocksGroup d t part)
    → LockTaken core.host v w (Group (d / per_table)) core.taken after → TriedSo core.host v w (Group (d / per_table)) None
    → Went v w core (with_taken core after) (doings.LocksGroup d t part) (More (doings.ReadsGroup d t part))
group_locked v w core d t part after at did so =
    let still = still_locked core.host v w (Group (d / per_table)) core.taken after did in
    let long = ap length did.pushed in
    let one = ap length at.1 in
    went_on v w core (with_taken core after) (doings.LocksGroup d t part) (doings.ReadsGroup d t part) refl refl (same_promotion core after)
    (keeps_relocked core.host v w (Group (d / per_table)) tt did.gains.relocks) (record {
      base = base_on v w core still after did.taking at.0;
      block = lone_on v w core still d at.2;
      slot = slot_on v w core still t part at.3;
      held = (subst (AreHeld w core.host) did.pushed did.taking.each).2;
      few = omega (arith, long, one);
    }) did.gains.relocks.passes.images (omega arith) (try_of v core.host (Group (d / per_table)) None)
    (spares_try v core.host (Group (d / per_table)) None (HasResource-resource_of v.locks.geometry (Count d) at.2.inside))
    (λ command may. so command outcomes.Open)

pub filling_on : (v w : WorldView) (core : Promotion) (d t : ℕ) (part : Kept) → IsStill core.host v w → IsTaking w core.host core.taken
    → IsFilling v core d t part → IsFilling w core d t part
filling_on v w core d t part still taking is = record {
  base = base_on v w core still core.taken taking is.base;
  block = lone_on v w core still d is.block;
  slot = slot_on v w core still t part is.slot;
  held = still.held (Group (d / per_table)) (HasResource-resource_of v.locks.geometry (Count d) is.block.inside) is.held;
  few = is.few;
}

-- its table was read
pub group_read : (v w : WorldView) (core : Promotion) (d t : ℕ) (part group : Kept) → At v core (doings.ReadsGroup d t part)
    → Fetched core.host v w (table_of (Count d)) group → ReadSo core.host v w group
    → Went v w core core (doings.ReadsGroup d t part) (More (doings.Commits d t part group))
group_read v w core d t part group at did so =
    let still = still_looks core.host v w did.looks in
    went_on v w core core (doings.ReadsGroup d t part) (doings.Commits d t part group) refl refl (same_promotion core core.taken)
    (looked_keeps core.host v w did.looks) (
      filling_on v w core d t part still (taking_same v w core.host core.taken did.looks.geometry did.looks.memory at.base.taking)
          at,
      (did.is_kept, did.which),
    )
    (looked_nothing core.host v w did.looks) (omega arith) (reading_of v core.host group)
    (spares_fetched core.host v w (table_of (Count d)) group did) (λ command may. quiet_fetched core.host v w group so command outcomes.Open may)

-- the slot at an entry of a part
slot_at : (g : Geometry) (p entry t : ℕ) → p < g.parts → entry < per_table → t ≡ per_table * p + entry
    → (t < arena_slots g) × (t / per_table ≡ p) × (t % per_table ≡ entry)
unfolding per_table arena_slots
slot_at g p entry t has inside is = (omega (arith, has, inside, is), omega (arith, has, inside, is), omega (arith, has, inside, is))

entry_before : (p entry t s : ℕ) → entry < per_table → t ≡ per_table * p + entry → s / per_table ≡ p → s < t → s % per_table < entry
unfolding per_table
entry_before p entry t s inside is same before = omega (arith, inside, is, same, before)

entry_inside : (s : ℕ) → s % per_table < per_table
unfolding per_table
entry_inside s = omega arith

-- the own part's table was read
module _ (v w : WorldView) (later : Consistent w.locks) (core : Promotion) (d : ℕ) (at : At v core (doings.ReadsPart d)) (kept : Kept)
    (did : Fetched core.host v w (tables.Part (own_part v.locks.geometry core.host)) kept) (so : ReadSo core.host v w kept) where
  abbrev p : ℕ
  p = own_part v.locks.geometry core.host

  abbrev looked : IsStill core.host v w
  looked = still_looks core.host v w did.looks

  part_base : IsBase w core
  part_base =
      base_on v w core looked core.taken (taking_same v w core.host core.taken did.looks.geometry did.looks.memory at.0.taking) at.0

  part_below : p < v.locks.geometry.parts
  part_below = subst (λ (g : Geometry). p < g.parts) did.looks.geometry (subst (HasTable w.locks.geometry) did.which did.is_kept.table)

  empty_slot : (entry : ℕ) → IsLowestZero kept.table entry → IsEmptySlot w core.host (per_table * p + entry) kept
  empty_slot entry lowest =
      let here = slot_at v.locks.geometry p entry (per_table * p + entry) part_below lowest.inside refl in record {
        has = subst (λ (g : Geometry). HasField g (Slot (per_table * p + entry))) (sym did.looks.geometry) here.0;
        own = here.1 ∙ ap (λ (g : Geometry). own_part g core.host) (sym did.looks.geometry);
        kept = did.is_kept;
        which = did.which ∙ ap tables.Part (sym here.1);
        empty = ap (slice_index (numbers kept.table)) here.2 ∙ lowest.is_zero;
        lowest = λ s of before zero.
            let same : tables.Part (s / per_table) ≡ tables.Part p = of ∙ did.which in
            lowest.lowest (s % per_table)
            (entry_before p entry (per_table * p + entry) s lowest.inside refl (let q : s / per_table ≡ p = cc in q) before) zero;
      }

  -- what is sure of the place's block then
  lone_sure : Sure w.locks core.host (λ image. HasOwn w.locks.geometry image core d (d + 1))
  lone_sure =
      let base = part_base in
      let block = lone_on v w core looked d at.2 in
      sure_of w.locks core.host (Reads w.locks.geometry (known_of core)) (λ image. HasOwn w.locks.geometry image core d (d + 1))
      (λ image reads. (
        place_shown w.locks.geometry (known_of core) image later.geometry reads core.file core.index d (false, block),
        reads (Pointer core.file core.index) (pointer_number (numbers'.At d false)) block.has block.pointer ∙ omega arith,
      ))
      (tables_read w core.host core.tables later base.kept base.empty)

  -- no slot of the part is empty
  abbrev AllFull : Image → Type 0
  AllFull image = (s : ℕ) → HasField w.locks.geometry (Slot s) → s / per_table ≡ p → logical w.locks.geometry image (Slot s) ≢ 0

  full_sure : HasNoZero kept.table → Sure w.locks core.host AllFull
  full_sure none =
      sure_each w.locks core.host ℕ
      (λ s image. HasField w.locks.geometry (Slot s) → s / per_table ≡ p → logical w.locks.geometry image (Slot s) ≢ 0) (λ s.
      sure_each w.locks core.host (HasField w.locks.geometry (Slot s))
      (λ has image. s / per_table ≡ p → logical w.locks.geometry image (Slot s) ≢ 0) (λ has.
      sure_each w.locks core.host (s / per_table ≡ p) (λ same image. logical w.locks.geometry image (Slot s) ≢ 0) (λ same.
      sure_of w.locks core.host (λ image. logical w.locks.geometry image (Slot s) ≡ number_in kept.table (Slot s))
      (λ image. logical w.locks.geometry image (Slot s) ≢ 0)
      (λ image is zero. none (s % per_table) (entry_inside s) (sym is ∙ zero))
      (number_known w core.host kept.which kept.table (Slot s) later did.is_kept.known did.is_kept.packing part_base.empty has
      (ap tables.Part same ∙ sym did.which)))))

  pub part_read : (empty : Option ℕ) → IfSome empty (IsLowestZero kept.table) → (IsNone empty → HasNoZero kept.table)
      → Went v w core core (doings.ReadsPart d) (behind_part core.taken d p kept empty)
  part_read (Some entry) lowest none =
      went_on v w core core (doings.ReadsPart d) (doings.LocksGroup d (per_table * p + entry) kept) refl refl (same_promotion core core.taken)
      (looked_keeps core.host v w did.looks) (
        part_base,
        subst (λ (g : Geometry). core.taken ≡ Part (own_part g core.host) ∷ []) (sym did.looks.geometry) at.1,
        lone_on v w core looked d at.2,
        empty_slot entry lowest,
      )
      (looked_nothing core.host v w did.looks) (omega arith) (reading_of v core.host kept)
      (spares_fetched core.host v w (tables.Part p) kept did) (λ command may. quiet_fetched core.host v w kept so command outcomes.Open may)
  part_read None lowest none =
      let base = part_base in
      let one = ap length at.1 in
      looked_ended v w core core (doings.ReadsPart d) answers.PartFull tt refl (same_promotion core core.taken) did.looks base.is_host base.taking
      base.empty (λ image. HasOwn w.locks.geometry image core d (d + 1) × AllFull image)
      (sure_and w.locks core.host (λ image. HasOwn w.locks.geometry image core d (d + 1)) AllFull lone_sure (full_sure (none refl)))
      (λ image both.
      subst (λ (g : Geometry). IsCause g core answers.PartFull image image) did.looks.geometry (
        (d, both.0),
        subst (λ (q : ℕ). (s : ℕ) → HasField w.locks.geometry (Slot s) → s / per_table ≡ q → logical w.locks.geometry image (Slot s) ≢ 0)
            (ap (λ (g : Geometry). own_part g core.host) (sym did.looks.geometry)) both.1,
        same_image w.locks.geometry image,
      ))
      (omega (arith, one)) (reading_of v core.host kept) (spares_fetched core.host v w (tables.Part p) kept did)
      (λ command may. quiet_fetched core.host v w kept so command outcomes.Open may)
