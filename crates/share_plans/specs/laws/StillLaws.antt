-- What stands of a share stands still: over an own call that lets go of nothing and changes no fact, and over the calls of others.
use Rattle.std.proofs.Common.{◌≡◌, ◌≢◌, ◌<◌, ◌/◌, ℕ, true, List, [], ◌∷◌, None, Option, Some, ap, sym, subst, ◌∙◌, inl, inr}
use Rattle.vol_layout.specs.declared.field.Field.TheVariants.{Count, Pointer, Slot}
use Rattle.vol_layout.specs.declared.geometry.Geometry.{Geometry}
use Rattle.vol_layout.specs.declared.kind.Resource.{Resource}
use Rattle.vol_layout.specs.declared.kind.Resource.TheVariants as resources
use Rattle.vol_layout.specs.declared.kind.Resource.TheVariants.{Group}
use Rattle.vol_layout.specs.Fields.{HasField}
use Rattle.vol_layout.specs.Ranges.{HasResource, HasTable, per_table}
use Rattle.image_view.specs.laws.FrameLaws.{HasResource-resource_of}
use Rattle.table_blocks.specs.Tables.{IsPackingOf}
use Rattle.lock_store.specs.declared.host.HostState.{HostState}
use Rattle.lock_store.specs.Memories.{holds}
use Rattle.lock_store.specs.Views.{host_at, key_at}
use Rattle.disk_locks.specs.Keys.{owner}
use Rattle.host_facts.specs.Facts.{Fact}
use Rattle.host_facts.specs.Facts.Fact.{BlockIs, RecordIs, SlotIs, TableIs}
use Rattle.host_facts.specs.Knows.{Knows}
use Rattle.host_facts.specs.Looks.{Looks}
use Rattle.host_facts.specs.Others.{Others}
use Rattle.host_facts.specs.Views.{WorldView}
use Rattle.host_facts.specs.laws.KindLaws.{owner_has}
use Rattle.plan_parts.specs.Fetched.{LockTaken}
use Rattle.plan_parts.specs.KeptTables.{AreKept, IsKept}
use Rattle.plan_parts.specs.TakenLocks.{AreHeld, IsTaking}
use Rattle.plan_parts.specs.declared.kept.Kept.{Kept}
use Rattle.plan_parts.specs.laws.TakenLaws.{one_or_two}
use Rattle.share_plans.specs.Places.{field_of}
use Rattle.share_plans.specs.ReadTables.{Known}
use Rattle.share_plans.specs.Spots.{IsPair, IsShown, IsSourceShown}
use Rattle.share_plans.specs.Stands.{AreEqual, AreLocked, HasSource, IsBase, IsComparing, HasPlaces}
use Rattle.share_plans.specs.Stands.{IsGroupOf, IsHost, IsOtherGroup, IsSlotKnown, known_of}
use Rattle.share_plans.specs.declared.sharing.Place.{Place}
use Rattle.share_plans.specs.declared.sharing.Place.TheVariants.{Arena, File}
use Rattle.share_plans.specs.declared.stage.Core.{Core}
use Rattle.share_plans.specs.declared.stage.Pair.{Pair}

-- the share with other locks
abbrev pub with_taken : Core → List Resource → Core
with_taken core taken =
    record { host = core.host; file = core.file; index = core.index; source = core.source; taken = taken; tables = core.tables }

-- the host has all that it had, and knows all that it knew
pub record IsStill (h : ℕ) (v w : WorldView) : Type 0 where
  pub geometry : w.locks.geometry ≡ v.locks.geometry
  pub joined : (host_at w.locks h).joined ≡ (host_at v.locks h).joined
  pub held : (r : Resource) → HasResource v.locks.geometry r → holds (host_at v.locks h) r ≡ true → holds (host_at w.locks h) r ≡ true
  pub facts : (a : Fact) → Knows v h a → Knows w h a

-- so it is where its memory is as before
pub still_memory : (h : ℕ) (v w : WorldView) → w.locks.geometry ≡ v.locks.geometry → host_at w.locks h ≡ host_at v.locks h
    → ((a : Fact) → Knows v h a → Knows w h a) → IsStill h v w
still_memory h v w geometry memory facts = record {
  geometry = geometry;
  joined = ap (λ (m : HostState). m.joined) memory;
  held = λ r has held. ap (λ (m : HostState). holds m r) memory ∙ held;
  facts = facts;
}

pub still_looks : (h : ℕ) (v w : WorldView) → Looks h v w → IsStill h v w
still_looks h v w looks = still_memory h v w looks.geometry looks.memory looks.facts

-- where it took a lock
pub still_locked : (h : ℕ) (v w : WorldView) (r : Resource) (taken after : List Resource) → LockTaken h v w r taken after → IsStill h v w
still_locked h v w r taken after did = record {
  geometry = did.gains.relocks.passes.geometry;
  joined = did.gains.relocks.memory.joined;
  held = λ q has held.
      elim (one_or_two q r) [
        | inl same ↦
            subst (λ (s : Resource). holds (host_at w.locks h) s ≡ true) (sym same) (subst (AreHeld w h) did.pushed did.taking.each).2
        | inr other ↦ did.gains.relocks.memory.holds_same q has other ∙ held
      ];
  facts = did.gains.facts;
}

-- and over the calls of other hosts
pub still_others : (h x : ℕ) (v w : WorldView) → Others x v w → h ≢ x → key_at v.locks h ≢ 0 → IsStill h v w
still_others h x v w others apart some =
    still_memory h v w others.locks.lasts.geometry (others.locks.keeps h apart some).memory (λ a. others.facts h a apart)

module _ (h : ℕ) (v w : WorldView) (still : IsStill h v w) where
  abbrev same : w.locks.geometry ≡ v.locks.geometry
  same = still.geometry

  pub one_kept : (kept : Kept) → IsKept v h kept → IsKept w h kept
  one_kept kept is = record {
    table = subst (λ (g : Geometry). HasTable g kept.which) (sym same) is.table;
    held = still.held (owner kept.which) (owner_has v.locks.geometry kept.which is.table) is.held;
    packing = subst (λ (g : Geometry). IsPackingOf g kept.which kept.table) (sym same) is.packing;
    known = still.facts (TableIs kept.which kept.table) is.known;
  }

  pub all_kept : (tables : List Kept) → AreKept v h tables → AreKept w h tables
  all_kept [] are = tt
  all_kept (kept ∷ more) are = (one_kept kept are.0, all_kept more are.1)

  pub group_kept : (d : ℕ) (kept : Kept) → IsGroupOf v h d kept → IsGroupOf w h d kept
  group_kept d kept is = (one_kept kept is.0, is.1)

  pub other_kept : (pair : Pair) (other : Option Kept) → IsOtherGroup v h pair other → IsOtherGroup w h pair other
  other_kept pair None is = is
  other_kept pair (Some kept) is = (group_kept pair.source kept is.0, is.1)

  pub source_kept : (source : Place) → HasSource v h source → HasSource w h source
  source_kept (File f i) is = (
    subst (λ (g : Geometry). f < g.files) (sym same) is.0,
    still.held (resources.File f) is.0 is.1,
  )
  source_kept (Arena s) is = subst (λ (g : Geometry). HasField g (Slot s)) (sym same) is

  pub slot_kept : (source : Place) (d : ℕ) → IsSlotKnown v h source d → IsSlotKnown w h source d
  slot_kept (File f i) d is = tt
  slot_kept (Arena s) d is = still.facts (SlotIs s d) is

  pub host_on : (f : ℕ) → IsHost v h f → IsHost w h f
  host_on f is = record {
    host = subst (λ (g : Geometry). h < g.hosts) (sym same) is.host;
    file = subst (λ (g : Geometry). f < g.files) (sym same) is.file;
    joined = still.joined ∙ is.joined;
    held = still.held (resources.File f) is.file is.held;
  }

  pub places_on : (f : ℕ) (source : Place) → HasPlaces v h f source → HasPlaces w h f source
  places_on f source is = record { is_host = host_on f is.is_host; from = source_kept source is.from }

  pub locked_on : (taken : List Resource) (pair : Pair) → HasResource v.locks.geometry (Group (pair.own / per_table))
      → HasResource v.locks.geometry (Group (pair.source / per_table)) → AreLocked v h taken pair → AreLocked w h taken pair
  locked_on taken pair own from is = record {
    own = still.held (Group (pair.own / per_table)) own is.own;
    from = still.held (Group (pair.source / per_table)) from is.from;
    some = is.some;
    few = is.few;
  }

-- the data blocks of a pair are of the volume
pub pair_has : (g : Geometry) (known : Known) (f i : ℕ) (source : Place) (pair : Pair) → IsPair g known f i source pair
    → HasField g (Count pair.own) × HasField g (Count pair.source)
pair_has g known f i source pair is = (is.own.1.inside, from source is.from)
  where
    from : (source : Place) → IsSourceShown g known source pair.source pair.shared → HasField g (Count pair.source)
    from (File f i) shown = shown.inside
    from (Arena s) shown = shown.0

module _ (v w : WorldView) (core : Core) (still : IsStill core.host v w) where
  pub base_on : (taken : List Resource) → IsTaking w core.host taken → IsBase v core → IsBase w (with_taken core taken)
  base_on taken taking is = record {
    places = places_on core.host v w still core.file core.source is.places;
    empty = still.facts (RecordIs []) is.empty;
    taking = taking;
    kept = all_kept core.host v w still core.tables is.kept;
  }

  pub pair_on : (pair : Pair) → IsPair v.locks.geometry (known_of core) core.file core.index core.source pair
      → IsPair w.locks.geometry (known_of core) core.file core.index core.source pair
  pair_on pair is = subst (λ (g : Geometry). IsPair g (known_of core) core.file core.index core.source pair) (sym still.geometry) is

  pub shown_on : (d : ℕ) → IsShown v.locks.geometry (known_of core) core.file core.index d
      → IsShown w.locks.geometry (known_of core) core.file core.index d
  shown_on d is = subst (λ (g : Geometry). IsShown g (known_of core) core.file core.index d) (sym still.geometry) is

  pub comparing_on : (pair : Pair) → IsTaking w core.host core.taken → IsComparing v core pair → IsComparing w core pair
  comparing_on pair taking is =
      let has = pair_has v.locks.geometry (known_of core) core.file core.index core.source pair is.are_pair in record {
        base = base_on core.taken taking is.base;
        are_pair = pair_on pair is.are_pair;
        locked = locked_on core.host v w still core.taken pair (HasResource-resource_of v.locks.geometry (Count pair.own) has.0)
            (HasResource-resource_of v.locks.geometry (Count pair.source) has.1) is.locked;
      }

  pub equal_on : (pair : Pair) → AreEqual v core pair → AreEqual w core pair
  equal_on pair are = (
    are.0,
    still.facts (BlockIs (Pointer core.file core.index) pair.own are.0) are.1,
    still.facts (BlockIs (field_of core.source) pair.source are.0) are.2,
  )
