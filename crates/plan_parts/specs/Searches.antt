-- The search for a free data block, group by group.
use Rattle.std.specs.Prelude.{◌≡◌, ◌≢◌, ◌+◌, ◌-◌, ◌*◌, ◌%◌, ◌<◌, ◌≤◌, ℕ, zero, suc, List, [], ◌∷◌, if◌then◌else◌, nat_lt, slice_index}
use Rattle.vol_base.specs.Packing.{Packing, numbers}
use Rattle.vol_base.specs.declared.command.Command.{Command}
use Rattle.vol_layout.specs.declared.field.Field.TheVariants.{Count}
use Rattle.vol_layout.specs.declared.geometry.Geometry.{Geometry}
use Rattle.vol_layout.specs.declared.kind.Resource.{Resource}
use Rattle.vol_layout.specs.declared.kind.Resource.TheVariants.{File, Group}
use Rattle.vol_layout.specs.declared.kind.Table.TheVariants as tables
use Rattle.vol_layout.specs.Fields.{HasField, table_of}
use Rattle.vol_layout.specs.Ranges.{per_table}
use Rattle.table_blocks.specs.Tables.{number_in}
use Rattle.image_view.specs.Numbers.{logical}
use Rattle.shared_disk.specs.Events.{Event}
use Rattle.lock_store.specs.Memories.{holds, reads}
use Rattle.lock_store.specs.Views.{host_at}
use Rattle.disk_locks.specs.Sure.{Sure}
use Rattle.host_facts.specs.Facts.{Fact}
use Rattle.host_facts.specs.Facts.Fact.{NoneFree, RecordIs}
use Rattle.host_facts.specs.Knows.{Knows}
use Rattle.host_facts.specs.Looks.{Looks}
use Rattle.host_facts.specs.Views.{WorldView}
use Rattle.plan_parts.specs.Fetched.{LockBusy}
use Rattle.plan_parts.specs.KeptTables.{IsKept}
use Rattle.plan_parts.specs.QuietCalls.{Noted, Quiet, QuietCall}
use Rattle.plan_parts.specs.TakenLocks.{IsTaking}
use Rattle.plan_parts.specs.declared.kept.Kept.{Kept}
use Rattle.plan_parts.specs.declared.outcome.Outcome.TheVariants.{Full, Open}
use Rattle.plan_parts.specs.declared.searching.Search.{Search}
use Rattle.plan_parts.specs.declared.searching.Search.TheVariants as searches
use Rattle.plan_parts.specs.declared.searching.Searching.{Searching}
use Rattle.plan_parts.specs.declared.searching.Searching.TheVariants as found

-- the group that a host tries first
abbrev pub first_of : Geometry → ℕ → ℕ
first_of g h = h % g.groups

-- the group that is tried after k others, upwards and going round
abbrev pub group_at : ℕ → ℕ → ℕ → ℕ
group_at first k groups = if nat_lt (first + k) groups then first + k else first + k - groups

-- the first n groups that are tried, last first
abbrev pub run : ℕ → ℕ → ℕ → List Resource
run first zero groups = []
run first (suc n) groups = Group (group_at first n groups) ∷ run first n groups

-- of the groups, the first n are all that the host has locked, and the first k have no free block; its journal is empty
pub record IsHunting (v : WorldView) (h : ℕ) (taken : List Resource) (k n : ℕ) : Type 0 where
  pub empty : Knows v h (RecordIs [])
  pub taking : IsTaking v h taken
  pub are : taken ≡ run (first_of v.locks.geometry h) n v.locks.geometry.groups
  pub below : k < v.locks.geometry.groups
  pub tried : (j : ℕ) → j < k → Knows v h (NoneFree (group_at (first_of v.locks.geometry h) j v.locks.geometry.groups))

-- what stands before a step: the next group is to be locked, or its table to be read
abbrev pub IsSearching : WorldView → ℕ → Search → List Resource → Type 0
IsSearching v h (searches.Lock k) taken = IsHunting v h taken k k
IsSearching v h (searches.Count k) taken = IsHunting v h taken k (suc k)

-- how many steps may still come: two a group
abbrev pub rank : Geometry → Search → ℕ
rank g (searches.Lock k) = 2 * (g.groups - k)
rank g (searches.Count k) = 2 * (g.groups - k) - 1

-- how many groups a search has counted
abbrev pub counted_groups : Search → ℕ
counted_groups (searches.Lock k) = k
counted_groups (searches.Count k) = k

-- the search goes on: every fact and the holds of files stay
pub record SearchGoes (h : ℕ) (v w : WorldView) (search : Search) (after : List Resource) (next : Search) : Type 0 where
  pub stands : IsSearching w h next after
  pub geometry : w.locks.geometry ≡ v.locks.geometry
  pub held : (f : ℕ) → f < v.locks.geometry.files → holds (host_at w.locks h) (File f) ≡ holds (host_at v.locks h) (File f)
  pub read : (f : ℕ) → f < v.locks.geometry.files → reads (host_at w.locks h) (File f) ≡ reads (host_at v.locks h) (File f)
  pub facts : (a : Fact) → Knows v h a → Knows w h a
  pub less : rank v.locks.geometry next < rank v.locks.geometry search
  pub event : Event
  pub quiet : Quiet h v w event

-- a group was locked, which is not counted yet
pub record HasLocked (h : ℕ) (v w : WorldView) (search : Search) (after : List Resource) (next : Search) : Type 0 where
  pub goes : SearchGoes h v w search after next
  pub counts : counted_groups next ≡ counted_groups search

-- one group more was counted in vain, and its table is kept
pub record HasPassed (h : ℕ) (v w : WorldView) (search : Search) (after : List Resource) (next : Search) (kept : Kept) : Type 0 where
  pub goes : SearchGoes h v w search after next
  pub counts : counted_groups next ≡ counted_groups search + 1
  pub is_kept : IsKept w h kept
  pub which : kept.which ≡ tables.Group (group_at (first_of v.locks.geometry h) (counted_groups search) v.locks.geometry.groups)

-- a free data block was found, the lowest of its group, which was locked last and whose table is kept
pub record HasFound (h : ℕ) (v w : WorldView) (search : Search) (taken after : List Resource) (d : ℕ) (kept : Kept) : Type 0 where
  pub tries : ℕ
  pub counting : search ≡ searches.Count tries
  pub last : kept.which ≡ tables.Group (group_at (first_of v.locks.geometry h) tries v.locks.geometry.groups)
  pub looks : Looks h v w
  pub same : after ≡ taken
  pub taking : IsTaking w h after
  pub is_kept : IsKept w h kept
  pub has : HasField w.locks.geometry (Count d)
  pub which : kept.which ≡ table_of (Count d)
  pub free : number_in kept.table (Count d) ≡ 0
  pub sure : Sure w.locks h (λ image. logical w.locks.geometry image (Count d) ≡ 0)
  pub lowest : (e : ℕ) → table_of (Count e) ≡ kept.which → e < d → number_in kept.table (Count e) ≢ 0
  pub event : Event
  pub quiet : Quiet h v w event

-- all groups are locked, and none has a free block: a command that was open has come to `full`
pub record IsExhausted (h : ℕ) (v w : WorldView) (taken after : List Resource) : Type 0 where
  pub looks : Looks h v w
  pub same : after ≡ taken
  pub taking : IsTaking w h after
  pub event : Event
  pub full : (command : Command) → QuietCall command h v w event (Noted command h v Open) (Noted command h w Full)

-- what a step of the search did, by its answer
abbrev pub Searched : ℕ → WorldView → WorldView → Search → List Resource → List Resource → Searching → Type 0
Searched h v w search taken after (found.More next) = HasLocked h v w search after next
Searched h v w search taken after (found.Next next kept) = HasPassed h v w search after next kept
Searched h v w search taken after (found.Found d kept) = HasFound h v w search taken after d kept
Searched h v w search taken after (found.Busy key) = LockBusy h v w taken after key
Searched h v w search taken after found.Full = IsExhausted h v w taken after

-- no entry of a table is 0
abbrev pub HasNoZero : Packing → Type 0
HasNoZero p = (e : ℕ) → e < per_table → slice_index (numbers p) e ≢ 0

-- the lowest entry of a table that is 0
pub record IsLowestZero (p : Packing) (entry : ℕ) : Type 0 where
  pub inside : entry < per_table
  pub is_zero : slice_index (numbers p) entry ≡ 0
  pub lowest : (e : ℕ) → e < entry → slice_index (numbers p) e ≢ 0

-- what the table of a group says of the search, where that group is tried after k others
abbrev pub IsCounted : Kept → ℕ → ℕ → ℕ → Searching → Type 0
IsCounted kept group k groups (found.More next) = ⊥
IsCounted kept group k groups (found.Next (searches.Lock next) out) =
    (out ≡ kept) × (next ≡ k + 1) × (k + 1 < groups) × HasNoZero kept.table
IsCounted kept group k groups (found.Next (searches.Count next) out) = ⊥
IsCounted kept group k groups (found.Found d out) =
    (out ≡ kept) × ((entry : ℕ) × (d ≡ per_table * group + entry) × IsLowestZero kept.table entry)
IsCounted kept group k groups (found.Busy key) = ⊥
IsCounted kept group k groups found.Full = (groups ≤ k + 1) × HasNoZero kept.table
