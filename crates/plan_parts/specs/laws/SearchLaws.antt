-- The steps of a search for a free data block, and that it stands over the calls of others.
use Rattle.std.proofs.Common.{◌≡◌, ◌≢◌, ◌+◌, ◌*◌, ◌/◌, ◌%◌, ◌<◌, ◌≤◌, ℕ, suc, List, [], ◌∷◌, false, true}
use Rattle.std.proofs.Common.{refl, ap, sym, subst, ◌∙◌, inl, inr, arith, length}
use Rattle.std.proofs.lemmas.Bool.{cases_lt, false_from_ne_true}
use Rattle.std.proofs.Math.Nat.{mod-lt}
use Rattle.std.specs.Prelude.{Contains, slice_index}
use Rattle.vol_base.specs.Packing.{numbers}
use Rattle.vol_layout.specs.declared.field.Field.TheVariants.{Count}
use Rattle.vol_layout.specs.declared.geometry.Geometry.{Geometry}
use Rattle.vol_layout.specs.declared.kind.Resource.{Resource}
use Rattle.vol_layout.specs.declared.kind.Resource.TheVariants.{File, Group}
use Rattle.vol_layout.specs.declared.kind.Table.TheVariants as tables
use Rattle.vol_layout.specs.Fields.{HasField, table_of}
use Rattle.vol_layout.specs.Ranges.{IsGeometry, data_blocks, per_table}
use Rattle.table_blocks.specs.Tables.{number_in}
use Rattle.table_blocks.specs.laws.NumberLaws.{entry_fits}
use Rattle.shared_disk.specs.State.{State}
use Rattle.image_view.specs.Numbers.{logical}
use Rattle.lock_store.specs.declared.host.HostState.{HostState}
use Rattle.lock_store.specs.Memories.{holds, key_of, reads}
use Rattle.lock_store.specs.Views.{LocksView, host_at, key_at, keys_of}
use Rattle.disk_locks.specs.Consistent.{Consistent}
use Rattle.disk_locks.specs.Sure.{Sure}
use Rattle.host_facts.specs.Facts.{Fact}
use Rattle.host_facts.specs.Facts.Fact.{NoneFree, RecordIs}
use Rattle.host_facts.specs.Knows.{Knows}
use Rattle.host_facts.specs.Others.{Others}
use Rattle.host_facts.specs.Views.{WorldView}
use Rattle.host_facts.specs.laws.FactLaws.{joined_key}
use Rattle.host_facts.specs.laws.ToldLaws.{sure_still}
use Rattle.host_runs.specs.DeviceCalls.{OnImage}
use Rattle.host_runs.specs.FullCauses.{IsFullUnder}
use Rattle.plan_parts.specs.Fetched.{Fetched, LockTaken}
use Rattle.plan_parts.specs.Searches.{HasFound, HasLocked, HasNoZero, HasPassed, IsCounted, IsExhausted, IsHunting, IsLowestZero}
use Rattle.plan_parts.specs.Searches.{IsSearching, SearchGoes, Searched, first_of, group_at, run}
use Rattle.plan_parts.specs.TakenLocks.{AreHeld, IsTaken, IsTaking}
use Rattle.plan_parts.specs.declared.kept.Kept.{Kept}
use Rattle.plan_parts.specs.declared.searching.Search.{Search}
use Rattle.plan_parts.specs.declared.searching.Search.TheVariants as searches
use Rattle.plan_parts.specs.declared.searching.Searching.{Searching}
use Rattle.plan_parts.specs.declared.searching.Searching.TheVariants as found
use Rattle.plan_parts.specs.laws.FetchLaws.{quiet_spared}
use Rattle.plan_parts.specs.laws.FullLaws.{free_spares, free_sure, full_under, none_free, unlocked_spares}
use Rattle.plan_parts.specs.laws.GroupOrderLaws.{group_below, group_met, run_later, run_long}
use Rattle.plan_parts.specs.laws.TakenLaws.{taking_same, taking_still}

-- the host's first group is one of the volume
first_below : (g : Geometry) (h : ℕ) → IsGeometry g → first_of g h < g.groups
first_below g h range = mod-lt h (omega (arith, range.groups.0))

-- the group that comes after k others, by the geometry that the locks show
pub group_shown : (locks shown : LocksView) (g : Geometry) (h k group : ℕ) → shown ≡ locks → g ≡ shown.geometry
    → group ≡ group_at (first_of g h) k g.groups → group ≡ group_at (first_of locks.geometry h) k locks.geometry.groups
group_shown locks shown g h k group same geometry is =
    is ∙ ap (λ (x : Geometry). group_at (first_of x h) k x.groups) (geometry ∙ ap (λ (l : LocksView). l.geometry) same)

pub groups_shown : (locks shown : LocksView) (g : Geometry) → shown ≡ locks → g ≡ shown.geometry → g.groups ≡ locks.geometry.groups
groups_shown locks shown g same geometry = ap (λ (x : Geometry). x.groups) (geometry ∙ ap (λ (l : LocksView). l.geometry) same)

-- what is taken is held
pub taken_held : (v : WorldView) (h : ℕ) (taken : List Resource) (r : Resource) → AreHeld v h taken → IsTaken taken r
    → holds (host_at v.locks h) r ≡ true
taken_held v h [] r are there = absurd there
taken_held v h (q ∷ more) r are (inl same) = subst (λ (s : Resource). holds (host_at v.locks h) s ≡ true) same are.2
taken_held v h (q ∷ more) r are (inr later) = taken_held v h more r are.4 later

-- a search begins where no part and no group is held, and no own record stands
pub search_begins : (v : WorldView) (h : ℕ) → IsGeometry v.locks.geometry → Knows v h (RecordIs []) → IsTaking v h []
    → IsSearching v h (searches.Lock 0) []
search_begins v h range empty taking = record {
  empty = empty;
  taking = taking;
  are = refl;
  below = omega (arith, range.groups.0);
  tried = λ j before. absurd (omega (arith, before));
}

-- what stands of a search stands still, where every fact and the geometry do
hunting_on : (v w : WorldView) (h k n m : ℕ) (taken after : List Resource) → w.locks.geometry ≡ v.locks.geometry
    → ((a : Fact) → Knows v h a → Knows w h a) → IsTaking w h after
    → after ≡ run (first_of v.locks.geometry h) m v.locks.geometry.groups → IsHunting v h taken k n → IsHunting w h after k m
hunting_on v w h k n m taken after geometry facts taking are is = record {
  empty = facts (RecordIs []) is.empty;
  taking = taking;
  are = subst (λ (g : Geometry). after ≡ run (first_of g h) m g.groups) (sym geometry) are;
  below = subst (λ (g : Geometry). k < g.groups) (sym geometry) is.below;
  tried = subst (λ (g : Geometry). (j : ℕ) → j < k → Knows w h (NoneFree (group_at (first_of g h) j g.groups))) (sym geometry)
      (λ j before. facts (NoneFree (group_at (first_of v.locks.geometry h) j v.locks.geometry.groups)) (is.tried j before));
}

module _ (v : WorldView) (h : ℕ) (taken : List Resource) (c : Consistent v.locks) where
  -- the group that comes after k others
  abbrev group_of : ℕ → ℕ
  group_of k = group_at (first_of v.locks.geometry h) k v.locks.geometry.groups

  pub group_has : (k : ℕ) → k < v.locks.geometry.groups → group_of k < v.locks.geometry.groups
  group_has k below = group_below (first_of v.locks.geometry h) k v.locks.geometry.groups (first_below v.locks.geometry h c.geometry) below

  -- a group that comes later is not held
  pub later_out : (k n : ℕ) → IsHunting v h taken k n → n < v.locks.geometry.groups → holds (host_at v.locks h) (Group (group_of n)) ≡ false
  later_out k n is below =
      false_from_ne_true (holds (host_at v.locks h) (Group (group_of n))) (λ held.
      run_later (first_of v.locks.geometry h) n v.locks.geometry.groups (first_below v.locks.geometry h c.geometry) below
      (subst (λ (ts : List Resource). IsTaken ts (Group (group_of n))) is.are
      (is.taking.only (Group (group_of n)) (group_has n below) tt held)))

  -- there is room for one lock more
  pub hunting_room : (k n : ℕ) → IsHunting v h taken k n → n < v.locks.geometry.groups → length taken < 66
  hunting_room k n is below =
      let long : length taken ≡ n = ap length is.are ∙ run_long (first_of v.locks.geometry h) n v.locks.geometry.groups in
      omega (arith, long, below, c.geometry.groups.1)

  -- the group that was locked last is held
  pub last_held : (k : ℕ) → IsHunting v h taken k (suc k) → holds (host_at v.locks h) (Group (group_of k)) ≡ true
  last_held k is =
      taken_held v h taken (Group (group_of k)) is.taking.each
      (subst (λ (ts : List Resource). IsTaken ts (Group (group_of k))) (sym is.are) (inl refl))

  hunter_key : (k n : ℕ) → IsHunting v h taken k n → key_at v.locks h ≢ 0
  hunter_key k n is = joined_key v.locks.geometry.hosts _ h (host_at v.locks h) (c.memories h) is.empty.guard.0

  -- over the calls of other hosts
  pub hunting_still : (w : WorldView) (x k n : ℕ) → Others x v w → h ≢ x → IsHunting v h taken k n → IsHunting w h taken k n
  hunting_still w x k n others apart is =
      hunting_on v w h k n n taken taken others.locks.lasts.geometry (λ a. others.facts h a apart)
      (taking_still v w h x taken others apart (hunter_key k n is) is.taking) is.are is

  pub searching_still : (w : WorldView) (x : ℕ) (search : Search) → Others x v w → h ≢ x → IsSearching v h search taken
      → IsSearching w h search taken
  searching_still w x (searches.Lock k) others apart is = hunting_still w x k k others apart is
  searching_still w x (searches.Count k) others apart is = hunting_still w x k (suc k) others apart is

-- a group was locked
pub group_locked : (v w : WorldView) (h k : ℕ) (taken after : List Resource) → IsHunting v h taken k k
    → LockTaken h v w (Group (group_at (first_of v.locks.geometry h) k v.locks.geometry.groups)) taken after
    → HasLocked h v w (searches.Lock k) after (searches.Count k)
group_locked v w h k taken after is locked =
    let relocks = locked.gains.relocks in record {
      goes = record {
        stands = hunting_on v w h k k (suc k) taken after relocks.passes.geometry locked.gains.facts locked.taking
            (locked.pushed
            ∙ ap (λ (ts : List Resource). Group (group_at (first_of v.locks.geometry h) k v.locks.geometry.groups) ∷ ts) is.are) is;
        geometry = relocks.passes.geometry;
        held = λ f below. relocks.memory.holds_same (File f) below (λ e. cc);
        read = λ f below. relocks.memory.reads_same (File f) below (λ e. cc);
        facts = locked.gains.facts;
        less = let below = is.below in omega (arith, below);
        event = locked.event;
        quiet = locked.quiet;
      };
      counts = refl;
    }

-- the entry of a data block in the table of its group
entry_at : (g : Geometry) (group entry d : ℕ) → group < g.groups → entry < per_table → d ≡ per_table * group + entry
    → (d < data_blocks g) × (d / per_table ≡ group) × (d % per_table ≡ entry)
unfolding per_table data_blocks
entry_at g group entry d has inside is =
    (omega (arith, has, inside, is), omega (arith, has, inside, is), omega (arith, has, inside, is))

-- an earlier block of the group has an earlier entry
entry_before : (group entry d e : ℕ) → entry < per_table → d ≡ per_table * group + entry → e / per_table ≡ group → e < d
    → e % per_table < entry
unfolding per_table
entry_before group entry d e inside is same before = omega (arith, inside, is, same, before)

module _ (v w : WorldView) (h k : ℕ) (taken : List Resource) (kept : Kept) (c : Consistent v.locks) (later : Consistent w.locks)
    (is : IsHunting v h taken k (suc k))
    (got : Fetched h v w (tables.Group (group_at (first_of v.locks.geometry h) k v.locks.geometry.groups)) kept) where
  -- the group that was read
  abbrev group : ℕ
  group = group_at (first_of v.locks.geometry h) k v.locks.geometry.groups

  empty : Knows w h (RecordIs [])
  empty = got.looks.facts (RecordIs []) is.empty

  taking : IsTaking w h taken
  taking = taking_same v w h taken got.looks.geometry got.looks.memory is.taking

  key_same : key_at w.locks h ≡ key_at v.locks h
  key_same = ap key_of got.looks.memory

  -- where no count is 0, no block of the group is free
  none_here : HasNoZero kept.table → Knows w h (NoneFree group)
  none_here none = none_free w h group kept later got.is_kept empty got.which
      (λ d at zero. none (d % per_table) (entry_fits d) zero)

  tried_more : HasNoZero kept.table → (j : ℕ) → j < suc k
      → Knows w h (NoneFree (group_at (first_of v.locks.geometry h) j v.locks.geometry.groups))
  tried_more none j before =
      elim (cases_lt j k) [
        | inl earlier ↦ got.looks.facts (NoneFree (group_at (first_of v.locks.geometry h) j v.locks.geometry.groups)) (is.tried j earlier)
        | inr last ↦
            let one : k ≡ j = omega (arith, before, last) in
            subst (λ (i : ℕ). Knows w h (NoneFree (group_at (first_of v.locks.geometry h) i v.locks.geometry.groups))) one (none_here none)
      ]

  -- and the search goes on, while there is a group more
  goes_on : suc k < v.locks.geometry.groups → HasNoZero kept.table
      → SearchGoes h v w (searches.Count k) taken (searches.Lock (suc k))
  goes_on more none = record {
    stands = record {
      empty = empty;
      taking = taking;
      are = subst (λ (g : Geometry). taken ≡ run (first_of g h) (suc k) g.groups) (sym got.looks.geometry) is.are;
      below = subst (λ (g : Geometry). suc k < g.groups) (sym got.looks.geometry) more;
      tried = subst (λ (g : Geometry). (j : ℕ) → j < suc k → Knows w h (NoneFree (group_at (first_of g h) j g.groups)))
          (sym got.looks.geometry) (tried_more none);
    };
    geometry = got.looks.geometry;
    held = λ f below. ap (λ (m : HostState). holds m (File f)) got.looks.memory;
    read = λ f below. ap (λ (m : HostState). reads m (File f)) got.looks.memory;
    facts = got.looks.facts;
    less = omega (arith, more);
    event = got.event;
    quiet = quiet_spared v w h (tables.Group group) kept got
        (unlocked_spares v h (group_of v h taken c (suc k)) c (hunter_key v h taken c k (suc k) is) (group_has v h taken c (suc k) more)
        (later_out v h taken c k (suc k) is more));
  }

  -- with the table of the group that was counted in vain
  passed : suc k < v.locks.geometry.groups → HasNoZero kept.table
      → HasPassed h v w (searches.Count k) taken (searches.Lock (suc k)) kept
  passed more none = record {
    goes = goes_on more none;
    counts = omega arith;
    is_kept = got.is_kept;
    which = got.which;
  }

  -- or the volume is full
  exhausted : v.locks.geometry.groups ≤ suc k → HasNoZero kept.table → IsExhausted h v w taken taken
  exhausted last none = record {
    looks = got.looks;
    same = refl;
    taking = taking;
    event = got.event;
    full = λ command. got.full command group refl full;
  }
    where
      each : (r : ℕ) → r < v.locks.geometry.groups → Knows w h (NoneFree r)
      each r below =
          let met = group_met (first_of v.locks.geometry h) r v.locks.geometry.groups (first_below v.locks.geometry h c.geometry) below in
          subst (λ (q : ℕ). Knows w h (NoneFree q)) met.2 (tried_more none met.0 (omega (arith, met.1, last)))

      registered : Contains (keys_of w.locks) (key_at w.locks h)
      registered =
          subst (λ (s : State). Contains s.keys (key_at w.locks h)) (sym got.looks.state)
          (subst (λ (n : ℕ). Contains (keys_of v.locks) n) (sym key_same) got.looks.registered)

      full : OnImage v.locks.disk.state (IsFullUnder v.locks.geometry (key_at v.locks h))
      full =
          subst (λ (s : State). OnImage s (IsFullUnder v.locks.geometry (key_at v.locks h))) got.looks.state
          (subst (λ (n : ℕ). OnImage w.locks.disk.state (IsFullUnder v.locks.geometry n)) key_same
          (subst (λ (g : Geometry). OnImage w.locks.disk.state (IsFullUnder g (key_at w.locks h))) got.looks.geometry
          (full_under w h later registered
          (subst (λ (g : Geometry). (r : ℕ) → r < g.groups → Knows w h (NoneFree r)) (sym got.looks.geometry) each))))

  -- a count is 0: the lowest is that of a free block
  found_here : (d entry : ℕ) → d ≡ per_table * group + entry → IsLowestZero kept.table entry
      → HasFound h v w (searches.Count k) taken taken d kept
  found_here d entry is_at lowest = record {
    tries = k;
    counting = refl;
    last = got.which;
    looks = got.looks;
    same = refl;
    taking = taking;
    is_kept = got.is_kept;
    has = has;
    which = which;
    free = free;
    sure = sure;
    lowest = λ e of before zero.
        let same : tables.Group (e / per_table) ≡ tables.Group group = of ∙ got.which in
        lowest.lowest (e % per_table)
        (entry_before group entry d e lowest.inside is_at (let q : e / per_table ≡ group = cc in q) before) zero;
    event = got.event;
    quiet = quiet_spared v w h (tables.Group group) kept got
        (free_spares v h d at.0 got.looks.registered
        (sure_still w.locks v.locks h (λ image. logical w.locks.geometry image (Count d) ≡ 0)
        (λ image. logical v.locks.geometry image (Count d) ≡ 0) (sym key_same) (sym got.looks.state)
        (λ image zero. subst (λ (g : Geometry). logical g image (Count d) ≡ 0) got.looks.geometry zero) sure));
  }
    where
      at : (d < data_blocks v.locks.geometry) × (d / per_table ≡ group) × (d % per_table ≡ entry)
      at = entry_at v.locks.geometry group entry d (group_has v h taken c k is.below) lowest.inside is_at

      has : HasField w.locks.geometry (Count d)
      has = subst (λ (g : Geometry). HasField g (Count d)) (sym got.looks.geometry) at.0

      which : kept.which ≡ table_of (Count d)
      which = got.which ∙ ap tables.Group (sym at.1)

      free : number_in kept.table (Count d) ≡ 0
      free = ap (slice_index (numbers kept.table)) at.2 ∙ lowest.is_zero

      sure : Sure w.locks h (λ image. logical w.locks.geometry image (Count d) ≡ 0)
      sure = free_sure w h d kept later got.is_kept empty has which free

  -- as it is said of the table
  counted_at : (result : Searching) → IsCounted kept group k v.locks.geometry.groups result
      → Searched h v w (searches.Count k) taken taken result
  counted_at (found.More next) says = absurd says
  counted_at (found.Next (searches.Lock next) out) says =
      let one : suc k ≡ next = omega (arith, says.1) in
      subst (λ (j : ℕ). HasPassed h v w (searches.Count k) taken (searches.Lock j) out) one
      (subst (HasPassed h v w (searches.Count k) taken (searches.Lock (suc k))) (sym says.0) (passed (omega (arith, says.2)) says.3))
  counted_at (found.Next (searches.Count next) out) says = absurd says
  counted_at (found.Found d out) says =
      subst (λ (x : Kept). HasFound h v w (searches.Count k) taken taken d x) (sym says.0) (found_here d says.1.0 says.1.1 says.1.2)
  counted_at (found.Busy key) says = absurd says
  counted_at found.Full says = exhausted (omega (arith, says.0)) says.1

-- the table of a group was read, and says this
pub group_counted : (v w : WorldView) (h k : ℕ) (taken : List Resource) (kept : Kept) → Consistent v.locks → Consistent w.locks
    → IsHunting v h taken k (suc k) → (at groups : ℕ)
    → at ≡ group_at (first_of v.locks.geometry h) k v.locks.geometry.groups → groups ≡ v.locks.geometry.groups
    → Fetched h v w (tables.Group at) kept → (result : Searching) → IsCounted kept at k groups result
    → Searched h v w (searches.Count k) taken taken result
group_counted v w h k taken kept c later is at groups here all got result says =
    counted_at v w h k taken kept c later is (subst (λ (r : ℕ). Fetched h v w (tables.Group r) kept) here got) result
    (subst (λ (r : ℕ). IsCounted kept r k v.locks.geometry.groups result) here
    (subst (λ (n : ℕ). IsCounted kept at k n result) all says))
