-- Any other write, as a step: what a host may write spares all that others rely on.
use Rattle.std.proofs.Common.{◌≡◌, ◌≢◌, ◌<◌, ◌≤◌, ◌+◌, ◌/◌, ◌%◌, ◌==◌, ℕ, List, true, false, refl, sym, ap, ◌∙◌, subst, arith, inl, inr}
use Rattle.std.specs.Prelude.{Contains}
use Rattle.std.proofs.lemmas.Bool.{cases_Bool, false_from_ne_true}
use Rattle.vol_layout.specs.declared.geometry.Geometry.{Geometry}
use Rattle.vol_layout.specs.declared.kind.Kind.{Kind}
use Rattle.vol_layout.specs.declared.kind.Kind.TheVariants as kinds
use Rattle.vol_layout.specs.declared.kind.Resource.{Resource}
use Rattle.vol_layout.specs.declared.kind.Resource.TheVariants.{Group}
use Rattle.vol_layout.specs.declared.kind.Table.{Table}
use Rattle.vol_layout.specs.declared.kind.Table.TheVariants as tables
use Rattle.vol_layout.specs.declared.field.Field.{Field}
use Rattle.vol_layout.specs.declared.field.Field.TheVariants.{Count, Head, Pointer, Slot}
use Rattle.vol_layout.specs.Edits.{touches}
use Rattle.vol_layout.specs.Fields.{HasField, resource_of, table_of}
use Rattle.vol_layout.specs.Ranges.{HasKind, HasResource, HasTable, IsGeometry, data_blocks, per_table}
use Rattle.image_view.specs.HostKeys.{slot_key_at}
use Rattle.image_view.specs.Images.{Image, OnlyChanges, block_at, written}
use Rattle.image_view.specs.Numbers.{field, journal, logical}
use Rattle.image_view.specs.Valid.{IsValid}
use Rattle.image_view.specs.laws.EditLaws.{edited_untouched}
use Rattle.image_view.specs.laws.FrameLaws.{HasResource-resource_of, HasTable-table_of, slot_key_kept, write_only}
use Rattle.image_view.specs.laws.JournalLaws.{logical_own, record_key, slot_key-host}
use Rattle.lock_store.specs.declared.host.HostState.{HostState}
use Rattle.lock_store.specs.Memories.{claim_of, holds, may_read}
use Rattle.lock_store.specs.Views.{LocksView, counter_of, host_at, key_at, keys_of}
use Rattle.disk_locks.specs.Agreement.{BlockAgrees, by_in}
use Rattle.disk_locks.specs.KeepsImage.{KeepsImage}
use Rattle.disk_locks.specs.Keys.{owner}
use Rattle.disk_locks.specs.MayWrite.{IsOwnOrClaimed, IsWritable, MayWrite}
use Rattle.disk_locks.specs.laws.GivenLaws.{slot_places}
use Rattle.disk_locks.specs.laws.HeldLaws.{readable_alone}
use Rattle.disk_locks.proofs.Ground.{Ground, keys_apart}
use Rattle.disk_locks.proofs.SlotFrames.{live_alone}
use Rattle.disk_locks.proofs.Steps.{StepImage}
use Rattle.disk_locks.proofs.Written.{fades_kept, free_kept, written_step}

-- such a block says nothing of locks and slots
writable_agrees : (g : Geometry) (keys : List ℕ) (x : ℕ) (m : HostState) (kind : Kind) (block : List ℕ) → IsWritable g kind → BlockAgrees keys x m kind block
writable_agrees g keys x m kinds.Super block is = tt
writable_agrees g keys x m (kinds.Slot y) block is = absurd is
writable_agrees g keys x m (kinds.Journal y) block is = tt
writable_agrees g keys x m (kinds.Lock r) block is = absurd is
writable_agrees g keys x m (kinds.Table t) block is = tt
writable_agrees g keys x m (kinds.Log y l) block is = tt
writable_agrees g keys x m (kinds.Shard s) block is = tt
writable_agrees g keys x m (kinds.Request f) block is = tt
writable_agrees g keys x m (kinds.Number d) block is = tt

pub writable_has : (g : Geometry) (kind : Kind) → IsWritable g kind → HasKind g kind
writable_has g kinds.Super is = absurd is
writable_has g (kinds.Slot y) is = absurd is
writable_has g (kinds.Journal y) is = is
writable_has g (kinds.Lock r) is = absurd is
writable_has g (kinds.Table t) is = is
writable_has g (kinds.Log y l) is = is
writable_has g (kinds.Shard s) is = is
writable_has g (kinds.Request f) is = is
writable_has g (kinds.Number d) is = is

no_lock : (g : Geometry) (kind : Kind) → IsWritable g kind → (r : Resource) → kinds.Lock r ≢ kind
no_lock g kind is r e = subst (IsWritable g) (sym e) is

no_slot : (g : Geometry) (kind : Kind) → IsWritable g kind → (y : ℕ) → kinds.Slot y ≢ kind
no_slot g kind is y e = subst (IsWritable g) (sym e) is

-- the resource of a table is that of its fields, and one of the volume
owner_has : (g : Geometry) (t : Table) → HasTable g t → HasResource g (owner t)
owner_has g (tables.File f) has = has
owner_has g (tables.Group r) has = has
owner_has g (tables.Part p) has = has
owner_has g (tables.More f t) has = has.0

pub owner_table : (x : Field) → owner (table_of x) ≡ resource_of x
owner_table (Head f) = refl
owner_table (Pointer f i) = elim (cases_Bool (i / per_table == 0)) [ inl y ↦ rw y refl | inr n ↦ rw n refl ]
owner_table (Slot s) = refl
owner_table (Count d) = refl

module _ (v : LocksView) (h : ℕ) (kind : Kind) (block : List ℕ) (image : Image) (range : IsGeometry v.geometry) (ground : Ground v h image) (is : IsWritable v.geometry kind)
    (may : MayWrite v.geometry h (host_at v h) image kind block) where
  module _ (x : ℕ) (ne : x ≢ h) (named : key_at v x ≢ 0) (here : Contains (keys_of v) (key_at v x)) where
    below : x < v.geometry.hosts
    below = ((ground.memories x).named named).0

    apart : key_at v h ≢ key_at v x
    apart e = keys_apart v h x ground.memories ground.some named ne (sym e)

    -- what the slot of a claim, and that of a joined host, says
    claim_by : (z y : ℕ) → key_at v z ≢ 0 → Contains (keys_of v) (key_at v z) → y < v.geometry.hosts → claim_of (host_at v z) y ≢ 0
        → by_in (block_at v.geometry image (kinds.Slot y)) ≡ key_at v z
    claim_by z y some present lt claim = ((ground.agrees.agree z some (kinds.Slot y) lt).by present claim).0

    joined_alone : (z : ℕ) → key_at v z ≢ 0 → Contains (keys_of v) (key_at v z) → z < v.geometry.hosts → (host_at v z).joined ≡ true
        → by_in (block_at v.geometry image (kinds.Slot z)) ≡ 0
    joined_alone z some present lt joined =
        let l = ground.agrees.valid.slots z lt in
        let n = slot_places (block_at v.geometry image (kinds.Slot z)) l.slot l.spelled in
        let live = ((ground.agrees.agree z some (kinds.Slot z) lt).live present joined refl).0 in
        n.by ∙ live_alone l.slot (λ none. some (sym live ∙ n.live ∙ none))

    dead_off : (z y : ℕ) → key_at v z ≢ 0 → Contains (keys_of v) (key_at v z) → y < v.geometry.hosts → claim_of (host_at v z) y ≢ 0
        → Contains (keys_of v) (claim_of (host_at v z) y) → ⊥
    dead_off z y some present lt claim registered =
        let slot = ground.agrees.agree z some (kinds.Slot y) lt in
        slot.dead present claim (subst (λ k. Contains (keys_of v) k) (sym (slot.by present claim).1) registered)

    -- the resource is not held by the writer's key, nor by a dead one that the writer claimed
    not_written : (r : Resource) → HasResource v.geometry r → may_read (host_at v x) r ≡ true → IsOwnOrClaimed v.geometry (host_at v h) image r → ⊥
    not_written r has reads_it (inl own) =
        readable_alone v.geometry (counter_of v) (keys_of v) image x (host_at v x) r ground.agrees.valid has (omega (arith, below, range.hosts.1))
        (ground.agrees.agree x named (kinds.Lock r) has) here named reads_it (key_at v h) apart own
    not_written r has reads_it (inr claimed) =
        readable_alone v.geometry (counter_of v) (keys_of v) image x (host_at v x) r ground.agrees.valid has (omega (arith, below, range.hosts.1))
        (ground.agrees.agree x named (kinds.Lock r) has) here named reads_it (claim_of (host_at v h) claimed.0)
        (λ e. dead_off h claimed.0 ground.some ground.here claimed.1 claimed.2 (subst (λ k. Contains (keys_of v) k) (sym e) here)) claimed.3

    only : OnlyChanges v.geometry image (written v.geometry image kind block) kind
    only = write_only v.geometry image kind block (writable_has v.geometry kind is)

    same : (other : Kind) → HasKind v.geometry other → other ≢ kind → block_at v.geometry (written v.geometry image kind block) other ≡ block_at v.geometry image other
    same other has apart' = only other has apart'

    may_by_hold : (r : Resource) → holds (host_at v x) r ≡ true → may_read (host_at v x) r ≡ true
    may_by_hold r holds_it = rw holds_it refl

    -- no other host's record edits a slot of the arena that names a block of a held group
    slot_logical : (s d : ℕ) → HasField v.geometry (Slot s) → HasResource v.geometry (Group (d / per_table)) → holds (host_at v x) (Group (d / per_table)) ≡ true
        → field v.geometry image (Slot s) ≡ d + 1 → touches (journal v.geometry image x) (Slot s) ≡ false → logical v.geometry image (Slot s) ≡ d + 1
    unfolding slot_key_at
    slot_logical s d has group holds_it names untouched =
        let g = v.geometry in
        logical_own g image x (Slot s) below (λ k lt other. false_from_ne_true (touches (journal g image k) (Slot s)) (λ touched.
        let counts = ground.agrees.valid.held.slots k lt s d touched (inl names) in
        let owner_is = record_key g (counter_of v) image k (Count d) ground.agrees.valid lt counts in
        let host = slot_key-host g (counter_of v) image k ground.agrees.valid lt owner_is.0 in
        let its : slot_key_at g image k ≢ key_at v x = λ e. other (sym host ∙ ap (λ n. n % 16) e ∙ ((ground.memories x).named named).1) in
        readable_alone g (counter_of v) (keys_of v) image x (host_at v x) (Group (d / per_table)) ground.agrees.valid group (omega (arith, below, range.hosts.1))
        (ground.agrees.agree x named (kinds.Lock (Group (d / per_table))) group) here named (may_by_hold (Group (d / per_table)) holds_it) (slot_key_at g image k) its owner_is.1))
        ∙ edited_untouched (journal g image x) (Slot s) (field g image (Slot s)) untouched
        ∙ names

    -- what a record of a claimed host edits is held by the dead key, which no other host writes for
    replay_alone : (y : ℕ) (f : Field) → HasField v.geometry f → y < v.geometry.hosts → claim_of (host_at v x) y ≢ 0 → touches (journal v.geometry image y) f ≡ true
        → IsOwnOrClaimed v.geometry (host_at v h) image (resource_of f) → ⊥
    unfolding slot_key_at
    replay_alone y f has lt claim touched which =
        let g = v.geometry in
        let held = record_key g (counter_of v) image y f ground.agrees.valid lt touched in
        let shown : slot_key_at g image y ≡ claim_of (host_at v x) y = ((ground.agrees.agree x named (kinds.Slot y) lt).by here claim).1 in
        let dead = dead_off x y named here lt claim in
        elim which [
          | inl own ↦ dead (subst (λ k. Contains (keys_of v) k) (sym own.by ∙ held.1.by ∙ shown) ground.here)
          | inr z ↦
              let there : slot_key_at g image z.0 ≡ claim_of (host_at v h) z.0 = ((ground.agrees.agree h ground.some (kinds.Slot z.0) z.1).by ground.here z.2).1 in
              let one : slot_key_at g image z.0 ≡ slot_key_at g image y = there ∙ sym z.3.by ∙ held.1.by in
              let host_y = slot_key-host g (counter_of v) image y ground.agrees.valid lt held.0 in
              let host_z = slot_key-host g (counter_of v) image z.0 ground.agrees.valid z.1 (λ none. held.0 (sym one ∙ none)) in
              let z_is : z.0 ≡ y = sym host_z ∙ ap (λ n. n % 16) one ∙ host_y in
              let mine : by_in (block_at g image (kinds.Slot y)) ≡ key_at v h =
              ap (λ n. by_in (block_at g image (kinds.Slot n))) (sym z_is) ∙ claim_by h z.0 ground.some ground.here z.1 z.2 in
              apart (sym mine ∙ claim_by x y named here lt claim)
        ]

    pub keeps_plain : KeepsImage v.geometry x (host_at v x) image (written v.geometry image kind block)
    keeps_plain =
        let g = v.geometry in
        record {
          record_own = λ joined. same (kinds.Journal x) below (λ e. elim (may.journal x (sym e)) [
            | inl own ↦ ne own.0
            | inr claim ↦ ground.some (sym (claim_by h x ground.some ground.here below claim) ∙ joined_alone x named here below joined)
          ]);
          tables = λ t has reads_it. same (kinds.Table t) has (λ e. not_written (owner t) (owner_has g t has) reads_it (may.table t (sym e)));
          numbers = λ f has reads_it. may.numbers f has (λ own. not_written (resource_of f) (HasResource-resource_of g f has) reads_it (inl own));
          content = λ f d has count reads_it share. same (kinds.Number d) count
              (λ e. not_written (resource_of f) (HasResource-resource_of g f has) reads_it (inl (may.number d (sym e) f has share)));
          fresh = λ d count reads_it none. same (kinds.Number d) count
              (λ e. not_written (resource_of (Count d)) (HasResource-resource_of g (Count d) count) reads_it (inl (may.fresh d (sym e) none)));
          slots = λ s d has holds_it names.
              let range_is : d + 1 ≤ data_blocks g = rw names at (ground.agrees.valid.numbers (Slot s) has) in
              let count : d < data_blocks g = omega (arith, range_is) in
              let group : HasResource g (Group (d / per_table)) = HasResource-resource_of g (Count d) count in (
                elim (may.slots s d has names) [
                  | inl kept ↦ kept
                  | inr which ↦ absurd (not_written (Group (d / per_table)) group (may_by_hold (Group (d / per_table)) holds_it) which)
                ],
                λ untouched. same (kinds.Number d) count (λ e. may.no_slot d (sym e) s has (slot_logical s d has group holds_it names untouched)),
              );
          left = λ gone free. free_kept g image (written g image kind block) x (same (kinds.Slot x) below (no_slot g kind is x)) free;
          dead = λ y lt claim. slot_key_kept g image (written g image kind block) kind y only lt (no_slot g kind is y);
          standing = λ y lt claim. same (kinds.Journal y) lt (λ e. elim (may.journal y (sym e)) [
            | inl own ↦ named (sym (claim_by x y named here lt claim) ∙ ap (λ n. by_in (block_at g image (kinds.Slot n))) own.0
                ∙ joined_alone h ground.some ground.here ((ground.memories h).named ground.some).0 own.1)
            | inr other ↦ apart (sym (claim_by h y ground.some ground.here lt other) ∙ claim_by x y named here lt claim)
          ]);
          replayed = λ y f has lt claim touched. same (kinds.Table (table_of f)) (HasTable-table_of g f has)
              (λ e. replay_alone y f has lt claim touched (subst (λ (r : Resource). IsOwnOrClaimed g (host_at v h) image r) (owner_table f) (may.table (table_of f) (sym e))));
        }

  pub plain_step : IsValid v.geometry (counter_of v) (written v.geometry image kind block)
      → StepImage v.geometry v.disk.state (counter_of v) (keys_of v) v.hosts h (host_at v h) image (written v.geometry image kind block)
  plain_step valid = written_step v.geometry v.disk.state (counter_of v) (keys_of v) v.hosts h (host_at v h) kind block image (writable_has v.geometry kind is) ground.agrees ground.some (record {
    valid = valid;
    own = writable_agrees v.geometry (keys_of v) h (host_at v h) kind block is;
    frame = λ other has apart a. a;
    agree = λ x ne named. writable_agrees v.geometry (keys_of v) x (host_at v x) kind block is;
    keeps = keeps_plain;
    fades = fades_kept v.geometry v.disk.state image kind block (writable_has v.geometry kind is) (no_lock v.geometry kind is);
  })
