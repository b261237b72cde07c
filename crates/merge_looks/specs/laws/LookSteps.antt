-- What each step of a look did.
use Rattle.std.proofs.Common.{◌≡◌, ◌+◌, ◌<◌, ℕ, List, [], Some, None, Option, true, ap, arith, refl, subst, sym, length}
use Rattle.std.specs.Prelude.{Contains, IfSome}
use Rattle.vol_base.specs.Packing.{Packing, packed_bytes}
use Rattle.vol_base.specs.declared.block.Block.{Block}
use Rattle.vol_layout.specs.declared.field.Field.{Field}
use Rattle.vol_layout.specs.declared.field.Field.TheVariants.{Count, Pointer}
use Rattle.vol_layout.specs.declared.geometry.Geometry.{Geometry}
use Rattle.vol_layout.specs.declared.kind.Kind.TheVariants as kinds
use Rattle.vol_layout.specs.declared.kind.Resource.{Resource}
use Rattle.vol_layout.specs.declared.kind.Table.{Table}
use Rattle.vol_layout.specs.Fields.{HasField}
use Rattle.vol_layout.specs.Places.{place_of}
use Rattle.vol_layout.specs.Ranges.{HasTable}
use Rattle.vol_layout.specs.laws.PlaceLaws.{kind_at-place}
use Rattle.shared_disk.specs.Events.{Reads, Shows}
use Rattle.shared_disk.specs.State.{State}
use Rattle.image_view.specs.Images.{Image}
use Rattle.table_blocks.specs.Tables.{IsPackingOf}
use Rattle.lock_store.specs.declared.host.HostState.{HostState}
use Rattle.lock_store.specs.Memories.{holds, key_of, may_read}
use Rattle.lock_store.specs.Views.{host_at, key_at, keys_of, told_of}
use Rattle.disk_locks.specs.Consistent.{Consistent}
use Rattle.disk_locks.specs.Keys.{owner}
use Rattle.host_facts.specs.Facts.{Tells}
use Rattle.host_facts.specs.Facts.Fact.{BlockIs, RecordIs, TableIs}
use Rattle.host_facts.specs.Knows.{Knows}
use Rattle.host_facts.specs.OwnBlocks.{MayName}
use Rattle.host_facts.specs.Views.{WorldView}
use Rattle.host_facts.specs.laws.FactLaws.{held_readable}
use Rattle.host_facts.specs.laws.ToldLaws.{map_told, sure_and, sure_of}
use Rattle.plan_parts.specs.declared.kept.Kept.{Kept}
use Rattle.share_plans.specs.Lefts.{missing_at}
use Rattle.share_plans.specs.ReadTables.{ArePacked, IsInserted, kept_in}
use Rattle.share_plans.specs.Spots.{IsShown, IsSpot}
use Rattle.share_plans.specs.Spots as spot'
use Rattle.share_plans.specs.declared.sight.Spot.{Spot}
use Rattle.share_plans.specs.declared.sight.Spot.TheVariants as spots
use Rattle.share_plans.specs.laws.CompareStageLaws.{pointer_named}
use Rattle.share_plans.specs.laws.KnownLaws.{are_packed, kept_more, place_shown, tables_read}
use Rattle.share_plans.specs.laws.LookStageLaws.{less_at, long_more}
use Rattle.share_plans.specs.laws.StillLaws.{IsStill, all_kept, still_memory}
use Rattle.merge_steps.specs.Logs.{LogsRead, unread}
use Rattle.merge_steps.specs.Steps as steps'
use Rattle.merge_steps.specs.laws.CallLaws.{merging_on}
use Rattle.merge_looks.specs.Looks.{At, HasSeen, IsLooking, IsSeen, MayAsk, ReadsNext, Stands, StandsBehind}
use Rattle.merge_looks.specs.Looks.{Went, came_by, known_of, left, left_at, left_behind, stage_by}
use Rattle.merge_looks.specs.declared.look.Look.{Look}
use Rattle.merge_looks.specs.declared.look.Looking.{Looking}
use Rattle.merge_looks.specs.declared.look.Looking.TheVariants as looking
use Rattle.merge_looks.specs.declared.look.Seen.{Seen}
use Rattle.merge_looks.specs.declared.look.Seen.TheVariants as seens
use Rattle.merge_looks.specs.laws.LookLaws.{looking_on}

-- the look with other tables, at another step
abbrev pub looked : Look → List Kept → Looking → Look
looked l more stage = record { host = l.host; file = l.file; index = l.index; tables = more; stage = stage }

-- behind a read of a merge the device is as before, and the host's key is registered
module _ (v w : WorldView) (h place : ℕ) (block : List ℕ) (went : (r : LogsRead) → steps'.Went h v w (Reads place) (Shows block) r r) where
  read_state : w.locks.disk.state ≡ v.locks.disk.state
  read_state = ((went unread).quiet []).acts.changes.1

  read_here : Contains (keys_of w.locks) (key_at w.locks h)
  read_here =
      subst (λ (m : HostState). Contains (keys_of w.locks) (key_of m)) (sym (went unread).memory)
      (subst (λ (s : State). Contains s.keys (key_at v.locks h)) (sym read_state) ((went unread).quiet []).acts.admitted)

  read_still : IsStill h v w
  read_still = still_memory h v w (went unread).geometry (went unread).memory (went unread).facts

-- a table that is to be read may be read
pub table_may : (v : WorldView) (l : Look) (t : Table) → l.stage ≡ looking.Reads t → At v l
    → HasTable v.locks.geometry t × (may_read (host_at v.locks l.host) (owner t) ≡ true) × (length l.tables < 4)
table_may v l t stage at =
    let stands = subst (Stands v l) stage at in (
      stands.1.has,
      held_readable (host_at v.locks l.host) (owner t)
          (subst (λ (r : Resource). holds (host_at v.locks l.host) r ≡ true) (sym stands.1.owned) stands.0.held),
      omega (arith, stands.2),
    )

-- a table was read
module _ (v w : WorldView) (later : Consistent w.locks) (l : Look) (t : Table) (stage : l.stage ≡ looking.Reads t) (at : At v l) (table : Packing)
    (went : (r : LogsRead) → steps'.Went l.host v w (Reads (place_of v.locks.geometry (kinds.Table t))) (Shows (packed_bytes 4 table)) r r)
    (known : Knows w l.host (TableIs t table)) (packing : IsPackingOf v.locks.geometry t table) (more : List Kept)
    (inserted : IsInserted (record { which = t; table = table }) l.tables more) where
  stands : Stands v l (looking.Reads t)
  stands = subst (Stands v l) stage at

  abbrev kept : Kept
  kept = record { which = t; table = table }

  is_looking_now : (next : Looking) → IsLooking w (looked l more next)
  is_looking_now next =
      let still = read_still v w l.host _ _ went in
      let same = (went unread).geometry in
      let is = looking_on v w l still (merging_on l.host v w _ _ unread unread (went unread) stands.0.merging) stands.0 in record {
        merging = is.merging;
        file = is.file;
        held = is.held;
        kept = kept_more kept l.tables more inserted w l.host (record {
          table = subst (λ (g : Geometry). HasTable g t) (sym same) stands.1.has;
          held = subst (λ (r : Resource). holds (host_at w.locks l.host) r ≡ true) (sym stands.1.owned) is.held;
          packing = subst (λ (g : Geometry). IsPackingOf g t table) (sym same) packing;
          known = known;
        }) is.kept;
      }

  pub now_packed : ArePacked w.locks.geometry (kept_in more)
  now_packed = are_packed w l.host more (is_looking_now looking.Over).kept

  less_now : missing_at (kept_in more) l.file l.index < missing_at (known_of l) l.file l.index
  less_now = less_at kept l.tables more inserted v.locks.geometry l.file l.index t refl stands.1

  left_is : left l ≡ missing_at (known_of l) l.file l.index + 1
  left_is = ap (left_at l) stage

  -- the tables are those of every told image
  reads_now : IfSome (told_of w.locks) (λ told. spot'.Reads w.locks.geometry (kept_in more) told.image)
  reads_now =
      let is = is_looking_now looking.Over in
      tables_read w l.host more later is.kept is.merging.ready.empty (read_here v w l.host _ _ went)

  went_by : (next : Looking) (came : Option Seen) → StandsBehind w (looked l more next) came → HasSeen w (looked l more next) came
      → MayAsk v l.host (Reads (place_of v.locks.geometry (kinds.Table t))) (Shows (packed_bytes 4 table)) came
      → left_behind (looked l more next) came < left l → Went v w l (looked l more next) came
  went_by next came behind seen asks less = record {
    same = record { host = refl; file = refl; index = refl };
    call = Reads (place_of v.locks.geometry (kinds.Table t));
    reply = Shows (packed_bytes 4 table);
    reads = subst (λ (s : Looking). ReadsNext v.locks.geometry s (Reads (place_of v.locks.geometry (kinds.Table t)))) (sym stage) refl;
    went = went;
    state = read_state v w l.host _ _ went;
    stands = behind;
    seen = seen;
    asks = asks;
    less = less;
  }

  table_spot : (spot : Spot) → IsSpot w.locks.geometry (kept_in more) l.file l.index spot
      → Went v w l (looked l more (stage_by spot)) (came_by spot)
  table_spot (spots.Needs u) is =
      let less = less_now in
      let long = long_more kept l.tables more inserted in
      went_by (looking.Reads u) None (is_looking_now (looking.Reads u), is, omega (arith, less, long, stands.2)) tt tt
      (omega (arith, less, left_is))
  table_spot spots.Nothing is =
      went_by looking.Over (Some seens.Nothing) tt
      (map_told (told_of w.locks) (λ told. spot'.Reads w.locks.geometry (kept_in more) told.image)
      (λ told. IsSeen w.locks.geometry l.file l.index seens.Nothing told.image) reads_now (λ told. is told.image)) tt
      (omega (arith, left_is))
  table_spot (spots.Shows d shared) is =
      let less = less_now in
      went_by (looking.Shows d) None (is_looking_now (looking.Shows d), (shared, is)) tt tt (omega (arith, less, left_is))

  pub table_looked : (spot : Spot) (next : Look) (came : Option Seen) → IsSpot w.locks.geometry (kept_in more) l.file l.index spot
      → next ≡ looked l more (stage_by spot) → came ≡ came_by spot → Went v w l next came
  table_looked spot next came is next_is came_is =
      subst (λ (n : Look). Went v w l n came) (sym next_is)
      (subst (Went v w l (looked l more (stage_by spot))) (sym came_is) (table_spot spot is))

-- a data block that is to be read may be read
module _ (v : WorldView) (c : Consistent v.locks) (l : Look) (d : ℕ) (stage : l.stage ≡ looking.Shows d) (at : At v l) where
  shows : Stands v l (looking.Shows d)
  shows = subst (Stands v l) stage at

  pub block_has : HasField v.locks.geometry (Count d)
  block_has = shows.1.1.inside

  pub block_named : MayName v l.host (Pointer l.file l.index) d
  block_named = pointer_named v l.host l.tables c shows.0.kept shows.0.merging.ready.empty l.file l.index d shows.0.held shows.1

  -- and was read
  module _ (w : WorldView) (later : Consistent w.locks) (block : Block)
      (went : (r : LogsRead) → steps'.Went l.host v w (Reads (place_of v.locks.geometry (kinds.Number d))) (Shows block.0) r r)
      (known : (x : Field) → MayName v l.host x d → Knows w l.host (BlockIs x d block.0)) where
    block_seen : IfSome (told_of w.locks) (λ told. IsSeen w.locks.geometry l.file l.index (seens.Block block) told.image)
    block_seen =
        let g = w.locks.geometry in
        let still = read_still v w l.host _ _ went in
        let shown = subst (λ (x : Geometry). IsShown x (known_of l) l.file l.index d) (sym still.geometry) shows.1 in
        let P = λ (image : Image). Tells w.locks l.host image (BlockIs (Pointer l.file l.index) d block.0) in
        sure_of w.locks l.host (λ image. spot'.Reads g (known_of l) image × P image) (IsSeen g l.file l.index (seens.Block block))
        (λ image both. (d, place_shown g (known_of l) image later.geometry both.0 l.file l.index d shown, both.1.1))
        (sure_and w.locks l.host (spot'.Reads g (known_of l)) P
        (tables_read w l.host l.tables later (all_kept l.host v w still l.tables shows.0.kept) (still.facts (RecordIs []) shows.0.merging.ready.empty))
        (known (Pointer l.file l.index) block_named).sure) (read_here v w l.host _ _ went)

    pub block_looked : Went v w l (looked l l.tables looking.Over) (Some (seens.Block block))
    block_looked = record {
      same = record { host = refl; file = refl; index = refl };
      call = Reads (place_of v.locks.geometry (kinds.Number d));
      reply = Shows block.0;
      reads = subst (λ (s : Looking). ReadsNext v.locks.geometry s (Reads (place_of v.locks.geometry (kinds.Number d)))) (sym stage) refl;
      went = went;
      state = read_state v w l.host _ _ went;
      stands = tt;
      seen = block_seen;
      asks = (tt, d, place_of v.locks.geometry (kinds.Number d), kind_at-place v.locks.geometry (kinds.Number d) block_has, refl);
      less = subst (λ (n : ℕ). 0 < n) (sym (ap (left_at l) stage)) (omega arith);
    }
