-- What each step of a collection did but the commit of its records.
use Rattle.std.proofs.Common.{◌≡◌, ◌≢◌, ◌<◌, ◌≤◌, ◌+◌, ◌*◌, ◌==◌, ◌∷◌, ℕ, zero, suc, Bool, true, false, List, [], None, Option, Some, refl, ap, sym, subst, ◌∙◌, arith, inl, inr, length}
use Rattle.std.specs.Prelude.{All, IfSome, filter}
use Rattle.std.specs.List.{range_with_len}
use Rattle.std.proofs.lemmas.Bool.{cases_Bool, false_from_ne_true}
use Rattle.std.proofs.lemmas.List.Elements.{All-filter, All-from_get_or, All-head, All-tail}
use Rattle.std.proofs.lemmas.List.FromFn.{get_or-range_with_len, length-range_with_len}
use Rattle.std.proofs.lemmas.List.Sums.{count_by-le-length, length-filter}
use Rattle.vol_base.specs.Packing.{Packing}
use Rattle.vol_base.specs.declared.answer.Answer.TheVariants as answers
use Rattle.vol_base.specs.declared.block.Key.{Key}
use Rattle.vol_base.specs.declared.command.Command.TheVariants.{Collect}
use Rattle.vol_layout.specs.declared.geometry.Geometry.{Geometry}
use Rattle.vol_layout.specs.declared.kind.Resource.{Resource}
use Rattle.vol_layout.specs.declared.kind.Resource.TheVariants.{Group, Part}
use Rattle.vol_layout.specs.declared.kind.Table.TheVariants as tables
use Rattle.vol_layout.specs.Ranges.{HasTable, per_table}
use Rattle.shared_disk.specs.Events.{Event}
use Rattle.lock_store.specs.declared.host.HostState.{HostState}
use Rattle.lock_store.specs.Memories.{holds, key_of}
use Rattle.lock_store.specs.Views.{host_at, key_at, told_of}
use Rattle.disk_locks.specs.Consistent.{Consistent}
use Rattle.disk_locks.specs.Keys.{owner}
use Rattle.host_facts.specs.Facts.Fact.{RecordIs, TableIs}
use Rattle.host_facts.specs.Relocks.{Relocks}
use Rattle.host_facts.specs.Views.{WorldView}
use Rattle.host_facts.specs.laws.FactLaws.{joined_key}
use Rattle.host_facts.specs.laws.KindLaws.{owner_has}
use Rattle.host_runs.specs.lemmas.OrderlyPlaced.{some_same}
use Rattle.table_blocks.specs.Tables.{IsPackingOf}
use Rattle.host_runs.specs.Notes.{Notes}
use Rattle.plan_parts.specs.Fetched.{Fetched, LockBusy, LockTaken}
use Rattle.plan_parts.specs.KeptTables.{IsKept}
use Rattle.plan_parts.specs.MadeCalls.{FreedSo, ReadSo, TriedSo, freeing_of, reading_of, try_of}
use Rattle.plan_parts.specs.QuietCalls.{Noted, Quiet, QuietCall}
use Rattle.plan_parts.specs.Steps.{IsReady}
use Rattle.plan_parts.specs.TakenLocks.{Frees, IsTaken, IsTaking, LastFreed}
use Rattle.plan_parts.specs.declared.kept.Kept.{Kept}
use Rattle.plan_parts.specs.declared.outcome.Outcome.{Outcome}
use Rattle.plan_parts.specs.declared.outcome.Outcome.TheVariants as outcomes
use Rattle.plan_parts.specs.laws.TakenLaws.{last_has, taking_same}
use Rattle.share_plans.specs.Closings.{KeepsHolds}
use Rattle.share_plans.specs.GatheringSteps.{Empties, HasNoLoneSlot, KeepsList, KeepsTables, Went}
use Rattle.share_plans.specs.Gatherings.{At, HasPartAlone, IsFree, IsGroupTable, IsOn, IsPartTable, IsReadAt, IsVisiting, HasRead, answer_of, behind_group, behind_list, left, outcome_at, slot_steps}
use Rattle.share_plans.specs.Spents.{current, emptying_by, emptying_of, entry_at, names_group, named_groups, rest, used}
use Rattle.share_plans.specs.declared.collection.Collection.{Collection}
use Rattle.share_plans.specs.declared.collection.Emptying.{Emptying}
use Rattle.share_plans.specs.declared.collection.Gathered.TheVariants.{Answered, More}
use Rattle.share_plans.specs.declared.collection.Gathering.{Gathering}
use Rattle.share_plans.specs.declared.collection.Gathering.TheVariants as stages
use Rattle.share_plans.specs.laws.ClosingLaws.{keeps_relocked}
use Rattle.share_plans.specs.laws.GatheringCommits.{none_lone}
use Rattle.share_plans.specs.laws.GatheringNotes.{emptied_by, free_empties, noted_by, read_empties, read_now, read_still, try_empties, with_all}
use Rattle.share_plans.specs.laws.GatheringSteps.{tables_gained, tables_looked, tables_relocked, went_busy, went_collected, went_more}
use Rattle.share_plans.specs.laws.SpentLaws.{none_gathered}
use Rattle.share_plans.specs.laws.StepLaws.{looked_keeps, looked_nothing}
use Rattle.share_plans.specs.laws.StillLaws.{IsStill, one_kept, still_locked, still_looks}

-- what stands of a collection stands still
module _ (v w : WorldView) (core : Collection) (still : IsStill core.host v w) where
  pub on_still : (taken : List Resource) (count : ℕ) → IsTaking w core.host taken → IsOn v core → IsOn w (with_all core taken core.groups count)
  on_still taken count taking is = record {
    host = subst (λ (g : Geometry). core.host < g.hosts) (sym still.geometry) is.host;
    part = subst (λ (g : Geometry). core.part < g.parts) (sym still.geometry) is.part;
    groups = subst (λ (g : Geometry). All (λ r. r < g.groups) core.groups) (sym still.geometry) is.groups;
    joined = still.joined ∙ is.joined;
    taking = taking;
  }

  pub free_still : (taken : List Resource) → IsTaking w core.host taken → IsFree v core → IsFree w (with_all core taken core.groups core.count)
  free_still taken taking is = record { on = on_still taken core.count taking is.on; empty = still.facts (RecordIs []) is.empty }

  pub part_still : (taken : List Resource) (part : Kept) → IsPartTable v core part → IsPartTable w (with_all core taken core.groups core.count) part
  part_still taken part is = record { kept = one_kept core.host v w still part is.kept; which = is.which; room = is.room }

  pub group_still : (group : Kept) → IsGroupTable v core group → IsGroupTable w core group
  group_still group is = record { kept = one_kept core.host v w still group is.kept; which = is.which }

-- the host has a key
pub key_some : (v : WorldView) (core : Collection) → Consistent v.locks → IsOn v core → key_at v.locks core.host ≢ 0
key_some v core c on = joined_key v.locks.geometry.hosts _ core.host (host_at v.locks core.host) (c.memories core.host) on.joined

pub some_long : (groups : List ℕ) → groups ≢ [] → 1 ≤ length groups
some_long [] some = absurd (some refl)
some_long (r ∷ more) some = omega arith

-- the part was locked
pub part_locked : (v w : WorldView) (core : Collection) (after : List Resource) → Consistent v.locks → At v core stages.LocksPart
    → LockTaken core.host v w (Part core.part) core.taken after → TriedSo core.host v w (Part core.part) None
    → Went v w core (with_all core after core.groups core.count) stages.LocksPart (More stages.ReadsPart)
part_locked v w core after c at did so =
    let still = still_locked core.host v w (Part core.part) core.taken after did in
    went_more v w core after core.groups (key_some v core c at.0.on) (keeps_relocked core.host v w (Part core.part) tt did.gains.relocks)
    (tables_gained core.host v w (Part core.part) did.gains) (try_of v core.host (Part core.part) None) 0 core.count stages.LocksPart stages.ReadsPart
    (free_still v w core still after did.taking at.0, did.pushed ∙ ap (λ (ts : List Resource). Part core.part ∷ ts) at.1, record { groups = at.2.groups; count = at.2.count })
    (did.gains.relocks.passes.images, omega arith) refl (omega arith) (so (Collect core.part) outcomes.Open)
    (try_empties v core.host (Part core.part) None) (omega arith) (λ n read. tt)

-- it was busy
pub part_busy : (v w : WorldView) (core : Collection) (after : List Resource) (key : Key) → Consistent v.locks → Consistent w.locks
    → At v core stages.LocksPart → LockBusy core.host v w core.taken after key → TriedSo core.host v w (Part core.part) (Some key)
    → Went v w core (with_all core after core.groups core.count) stages.LocksPart (Answered (answers.Busy key))
part_busy v w core after key c later at did so =
    let still = still_looks core.host v w did.looks in
    went_busy v w core after core.groups (key_some v core c at.0.on) (looked_keeps core.host v w did.looks) (tables_looked core.host v w did.looks)
    (try_of v core.host (Part core.part) (Some key)) later
    (record {
      joined = still.joined ∙ at.0.on.joined;
      empty = still.facts (RecordIs []) at.0.empty;
      taking = subst (IsTaking w core.host) (did.same ∙ at.1) did.taking;
    })
    stages.LocksPart (looked_nothing core.host v w did.looks, omega arith) refl (omega arith) key tt (so (Collect core.part) refl)

-- groups of a volume that are named
named_below : (p : ℕ → Bool) (n : ℕ) → All (λ r. r < n) (filter p (range_with_len 0 n))
named_below p n =
    All-filter p (λ r. r < n) (range_with_len 0 n)
    (All-from_get_or (λ r. r < n) (range_with_len 0 n) 0 (λ i lt.
    let long = length-range_with_len 0 n in
    let at = get_or-range_with_len 0 n i 0 (omega (arith, lt, long)) in
    omega (arith, at, lt, long)))

named_few : (p : ℕ → Bool) (n : ℕ) → length (filter p (range_with_len 0 n)) ≤ n
named_few p n =
    let kept = length-filter p (range_with_len 0 n) in
    let few = count_by-le-length p (range_with_len 0 n) in
    let long = length-range_with_len 0 n in
    omega (arith, kept, few, long)

pub used_few : (p : Packing) (k : ℕ) → used p k ≤ k
used_few p zero = omega arith
used_few p (suc k) =
    let early = used_few p k in
    elim (cases_Bool (entry_at p k == 0)) [
      | inl none ↦ rw none (omega (arith, early))
      | inr some ↦ rw some (omega (arith, early))
    ]

-- a read of a table spares a full volume
spared : (p : ℕ) (h : ℕ) (v w : WorldView) (kept : Kept) (outcome : Outcome) → ReadSo h v w kept
    → QuietCall (Collect p) h v w (reading_of v h kept) (Noted (Collect p) h v outcome) (Noted (Collect p) h w outcome)
spared p h v w kept outcome so = so (Collect p) outcome (λ f i n r write. absurd cc)

-- its table was read
module _ (v w : WorldView) (core : Collection) (c : Consistent v.locks) (later : Consistent w.locks) (at : At v core stages.ReadsPart) (kept : Kept)
    (did : Fetched core.host v w (tables.Part core.part) kept) (so : ReadSo core.host v w kept) where
  part_table : (groups : List ℕ) → IsPartTable w (with_all core core.taken groups core.count) kept
  part_table groups = record {
    kept = did.is_kept;
    which = did.which;
    room = let none = at.2.count in let few = used_few kept.table per_table in omega (arith, none, few);
  }

  read_free : (groups : List ℕ) → All (λ r. r < v.locks.geometry.groups) groups → IsFree w (with_all core core.taken groups core.count)
  read_free groups below =
      let still = still_looks core.host v w did.looks in
      let taking = taking_same v w core.host core.taken did.looks.geometry did.looks.memory at.0.on.taking in
      let free = free_still v w core still core.taken taking at.0 in record {
        on = record {
          host = free.on.host;
          part = free.on.part;
          groups = subst (λ (g : Geometry). All (λ r. r < g.groups) groups) (sym did.looks.geometry) below;
          joined = free.on.joined;
          taking = taking;
        };
        empty = free.empty;
      }

  reads : (groups : List ℕ) (n : Notes) → HasRead w (with_all core core.taken groups core.count) (noted_by v core (reading_of v core.host kept) n)
  reads groups n =
      read_now v w core (with_all core core.taken groups core.count) kept n did.looks.geometry refl
      (subst (λ (g : Geometry). HasTable g kept.which) did.looks.geometry did.is_kept.table) did.which

  by_groups : (groups : List ℕ) → groups ≡ named_groups kept.table v.locks.geometry.groups → All (λ r. r < v.locks.geometry.groups) groups
      → length groups ≤ 64 → Went v w core (with_all core core.taken groups core.count) stages.ReadsPart (More (behind_list groups kept))
  by_groups [] are below few =
      went_more v w core core.taken [] (key_some v core c at.0.on) (looked_keeps core.host v w did.looks) (tables_looked core.host v w did.looks) (reading_of v core.host kept) 0 core.count
      stages.ReadsPart (stages.FreesPart None) (read_free [] below, at.1, refl) (looked_nothing core.host v w did.looks, omega arith)
      (kept, did.is_kept, did.which, are) (omega arith) (spared core.part core.host v w kept outcomes.Open so) (read_empties v core.host kept)
      (omega arith) (λ n read. reads [] n)
  by_groups (r ∷ more) are below few =
      let none = at.2.count in
      went_more v w core core.taken (r ∷ more) (key_some v core c at.0.on) (looked_keeps core.host v w did.looks) (tables_looked core.host v w did.looks) (reading_of v core.host kept) 0
      core.count stages.ReadsPart (stages.LocksGroup kept) (read_free (r ∷ more) below, at.1, part_table (r ∷ more), λ e. cc)
      (looked_nothing core.host v w did.looks, omega arith) (kept, did.is_kept, did.which, are) (omega (arith, few, none))
      (spared core.part core.host v w kept outcomes.Open so) (read_empties v core.host kept) (omega arith) (λ n read. reads (r ∷ more) n)

  pub part_read : (groups : List ℕ) → groups ≡ named_groups kept.table v.locks.geometry.groups
      → Went v w core (with_all core core.taken groups core.count) stages.ReadsPart (More (behind_list groups kept))
  part_read groups are =
      by_groups groups are
      (subst (λ (rs : List ℕ). All (λ r. r < v.locks.geometry.groups) rs) (sym are)
      (named_below (λ r. names_group kept.table r per_table) v.locks.geometry.groups))
      (let few = named_few (λ r. names_group kept.table r per_table) v.locks.geometry.groups in
      let long = ap length are in let most = c.geometry.groups in omega (arith, few, long, most))

-- no group is locked where the part alone is
pub group_out : (v : WorldView) (core : Collection) → IsOn v core → HasPartAlone core → core.groups ≢ []
    → holds (host_at v.locks core.host) (Group (current core.groups)) ≡ false
group_out v core on alone some =
    false_from_ne_true (holds (host_at v.locks core.host) (Group (current core.groups))) (λ held.
    elim (subst (λ (ts : List Resource). IsTaken ts (Group (current core.groups))) alone
    (on.taking.only (Group (current core.groups)) (first_below core.groups some on.groups) tt held)) [
      | inl same ↦ cc
      | inr none ↦ none
    ])
  where
    first_below : (groups : List ℕ) → groups ≢ [] → All (λ r. r < v.locks.geometry.groups) groups → current groups < v.locks.geometry.groups
    first_below [] some all = absurd (some refl)
    first_below (r ∷ more) some all = All-head (λ q. q < v.locks.geometry.groups) r more all

-- the first group was locked
pub group_locked : (v w : WorldView) (core : Collection) (part : Kept) (after : List Resource) → Consistent v.locks
    → At v core (stages.LocksGroup part) → LockTaken core.host v w (Group (current core.groups)) core.taken after
    → TriedSo core.host v w (Group (current core.groups)) None
    → Went v w core (with_all core after core.groups core.count) (stages.LocksGroup part) (More (stages.ReadsGroup part))
group_locked v w core part after c at did so =
    let r = current core.groups in
    let still = still_locked core.host v w (Group r) core.taken after did in
    went_more v w core after core.groups (key_some v core c at.0.on) (keeps_relocked core.host v w (Group r) tt did.gains.relocks)
    (tables_gained core.host v w (Group r) did.gains) (try_of v core.host (Group r) None) 0 core.count (stages.LocksGroup part) (stages.ReadsGroup part) (
      free_still v w core still after did.taking at.0,
      record { some = at.3; locked = did.pushed ∙ ap (λ (ts : List Resource). Group r ∷ ts) at.1 },
      part_still v w core still after part at.2,
    )
    (did.gains.relocks.passes.images, omega arith) refl (omega arith) (so (Collect core.part) outcomes.Open)
    (try_empties v core.host (Group r) None) (omega arith)
    (λ n read. read_still v w core (with_all core after core.groups core.count) (try_of v core.host (Group r) None) n still.geometry refl read)

-- it was busy: the part is freed
pub group_busy : (v w : WorldView) (core : Collection) (part : Kept) (after : List Resource) (key : Key) → Consistent v.locks
    → At v core (stages.LocksGroup part) → LockBusy core.host v w core.taken after key
    → TriedSo core.host v w (Group (current core.groups)) (Some key)
    → Went v w core (with_all core after core.groups core.count) (stages.LocksGroup part) (More (stages.FreesPart (Some key)))
group_busy v w core part after key c at did so =
    let r = current core.groups in
    let still = still_looks core.host v w did.looks in
    let long = some_long core.groups at.3 in
    went_more v w core after core.groups (key_some v core c at.0.on) (looked_keeps core.host v w did.looks) (tables_looked core.host v w did.looks)
    (try_of v core.host (Group r) (Some key)) 0 core.count (stages.LocksGroup part) (stages.FreesPart (Some key))
    (free_still v w core still after did.taking at.0, did.same ∙ at.1) (looked_nothing core.host v w did.looks, omega arith) refl
    (omega (arith, long)) (so (Collect core.part) refl) (try_empties v core.host (Group r) (Some key)) (omega arith)
    (λ n read. read_still v w core (with_all core after core.groups core.count) (try_of v core.host (Group r) (Some key)) n still.geometry refl
    read)

-- what comes next by the tables of the part and the group
gathered_of : (key : ℕ) (part : Packing) (r : ℕ) (slots : List (ℕ × ℕ)) → emptying_by key part r slots ≡ None → slots ≡ []
gathered_of key part r [] none = refl
gathered_of key part r (s ∷ slots) none = absurd cc

pub visit_at : (w : WorldView) (core : Collection) (part group : Kept) (o : Option Emptying) → IsFree w core → IsVisiting core
    → IsPartTable w core part → IsGroupTable w core group
    → emptying_of (key_at w.locks core.host) core.part part.table (current core.groups) group.table ≡ o → At w core (behind_group o part group)
visit_at w core part group None free visiting part_is group_is none = (
  free,
  visiting,
  part_is,
  (
    group,
    group_is,
    none_gathered core.part part.table (current core.groups) group.table
        (gathered_of (key_at w.locks core.host) part.table (current core.groups) _ none),
  ),
)
visit_at w core part group (Some emptying) free visiting part_is group_is is = (free, visiting, part_is, group_is, is)

visit_outcome : (o : Option Emptying) (part group : Kept) → outcome_at (behind_group o part group) ≡ outcomes.Open
visit_outcome None part group = refl
visit_outcome (Some emptying) part group = refl

visit_read : (w : WorldView) (core : Collection) (o : Option Emptying) (part group : Kept) (n : Notes) → HasRead w core n
    → IsReadAt w core (behind_group o part group) n
visit_read w core None part group n read = read
visit_read w core (Some emptying) part group n read = read

visit_left : (core : Collection) (o : Option Emptying) (part group : Kept) (k : ℕ) → slot_steps core + 3 * length core.groups ≤ k
    → core.groups ≢ [] → left core (behind_group o part group) < k
visit_left core None part group k most some = let long = some_long core.groups some in omega (arith, most, long)
visit_left core (Some emptying) part group k most some = let long = some_long core.groups some in omega (arith, most, long)

-- a call behind which slots are looked for
pub went_visit : (v w : WorldView) (core : Collection) (part group : Kept) (o : Option Emptying) (stage : Gathering) (e : Event)
    → key_at v.locks core.host ≢ 0 → outcome_at stage ≡ outcomes.Open → KeepsHolds core.host v w → KeepsTables core.host v w → IsFree w core → IsVisiting core
    → IsPartTable w core part → IsGroupTable w core group
    → emptying_of (key_at w.locks core.host) core.part part.table (current core.groups) group.table ≡ o
    → Empties v w core core stage → KeepsList v w core core stage → slot_steps core + 3 * length core.groups ≤ left core stage
    → QuietCall (Collect core.part) core.host v w e (Noted (Collect core.part) core.host v outcomes.Open)
    (Noted (Collect core.part) core.host w outcomes.Open)
    → emptied_by v.locks.geometry core.host e ≡ 0 → ((n : Notes) → IsReadAt v core stage n → HasRead v core n)
    → Went v w core core stage (More (behind_group o part group))
went_visit v w core part group o stage e some fresh keeps tables_stay free visiting part_is group_is o_is empties list most quiet emptied reads =
    went_more v w core core.taken core.groups some keeps tables_stay e 0 core.count stage (behind_group o part group)
    (visit_at w core part group o free visiting part_is group_is o_is) empties list
    (visit_left core o part group (left core stage) most visiting.some)
    (subst (λ (a : Outcome). QuietCall (Collect core.part) core.host v w e (Noted (Collect core.part) core.host v a)
    (Noted (Collect core.part) core.host w (outcome_at (behind_group o part group)))) (sym fresh)
    (subst (λ (a : Outcome). QuietCall (Collect core.part) core.host v w e (Noted (Collect core.part) core.host v outcomes.Open)
    (Noted (Collect core.part) core.host w a)) (sym (visit_outcome o part group)) quiet))
    emptied (omega arith)
    (λ n read. visit_read w core o part group (noted_by v core e n) (read_still v w core core e n keeps.geometry refl (reads n read)))

-- the group's table was read
pub group_read : (v w : WorldView) (core : Collection) (part group : Kept) (o : Option Emptying) → Consistent v.locks
    → At v core (stages.ReadsGroup part) → Fetched core.host v w (tables.Group (current core.groups)) group → ReadSo core.host v w group
    → emptying_of (key_at v.locks core.host) core.part part.table (current core.groups) group.table ≡ o
    → Went v w core core (stages.ReadsGroup part) (More (behind_group o part group))
group_read v w core part group o c at did so is =
    let still = still_looks core.host v w did.looks in
    let taking = taking_same v w core.host core.taken did.looks.geometry did.looks.memory at.0.on.taking in
    went_visit v w core part group o (stages.ReadsGroup part) (reading_of v core.host group) (key_some v core c at.0.on) refl
    (looked_keeps core.host v w did.looks) (tables_looked core.host v w did.looks) (free_still v w core still core.taken taking at.0) at.1
    (part_still v w core still core.taken part at.2) (record { kept = did.is_kept; which = did.which })
    (ap (λ (m : HostState). emptying_of (key_of m) core.part part.table (current core.groups) group.table) did.looks.memory ∙ is)
    (looked_nothing core.host v w did.looks, omega arith) refl (omega arith) (spared core.part core.host v w group outcomes.Open so)
    (read_empties v core.host group) (λ n read. read)

-- the lock that was taken last was freed
module _ (v w : WorldView) (core : Collection) (r : Resource) (more after : List Resource) (locked : core.taken ≡ r ∷ more)
    (did : LastFreed core.host v w core.taken after) where
  pub resource_is : did.resource ≡ r
  resource_is = first_of did.resource r after more (sym did.last ∙ locked)
    where
      first_of : (q s : Resource) (qs ss : List Resource) → q ∷ qs ≡ s ∷ ss → q ≡ s
      first_of q s qs ss same = cc

  pub after_is : after ≡ more
  after_is = others_of did.resource r after more (sym did.last ∙ locked)
    where
      others_of : (q s : Resource) (qs ss : List Resource) → q ∷ qs ≡ s ∷ ss → qs ≡ ss
      others_of q s qs ss same = cc

  pub relocks_is : Relocks core.host r v w
  relocks_is = subst (λ (q : Resource). Relocks core.host q v w) resource_is did.relocks

  pub freed_on : (groups : List ℕ) → All (λ q. q < v.locks.geometry.groups) groups → IsFree v core
      → IsFree w (with_all core after groups core.count)
  freed_on groups below free =
      let passes = relocks_is.passes in record {
        on = record {
          host = subst (λ (g : Geometry). core.host < g.hosts) (sym passes.geometry) free.on.host;
          part = subst (λ (g : Geometry). core.part < g.parts) (sym passes.geometry) free.on.part;
          groups = subst (λ (g : Geometry). All (λ q. q < g.groups) groups) (sym passes.geometry) below;
          joined = relocks_is.memory.joined ∙ free.on.joined;
          taking = did.taking;
        };
        empty = did.empty;
      }

  -- a table of another resource stays kept
  pub kept_on : (kept : Kept) → owner kept.which ≢ r → IsKept v core.host kept → IsKept w core.host kept
  kept_on kept other is =
      let passes = relocks_is.passes in record {
        table = subst (λ (g : Geometry). HasTable g kept.which) (sym passes.geometry) is.table;
        held = relocks_is.memory.holds_same (owner kept.which) (owner_has v.locks.geometry kept.which is.table) other ∙ is.held;
        packing = subst (λ (g : Geometry). IsPackingOf g kept.which kept.table) (sym passes.geometry) is.packing;
        known = relocks_is.facts (TableIs kept.which kept.table) (λ same. other (some_same (owner kept.which) r same)) is.known;
      }

  pub so_is : FreedSo core.host v w core.taken after true → Quiet core.host v w (freeing_of v core.host r)
  so_is so =
      subst (λ (q : Resource). Quiet core.host v w (freeing_of v core.host q)) (first_of so.0 r after more (sym so.1 ∙ locked)) so.2
    where
      first_of : (q s : Resource) (qs ss : List Resource) → q ∷ qs ≡ s ∷ ss → q ≡ s
      first_of q s qs ss same = cc

-- the first group and the others
pub list_parts : (groups : List ℕ) → groups ≢ [] → groups ≡ current groups ∷ rest groups
list_parts [] some = absurd (some refl)
list_parts (r ∷ more) some = refl

-- the group's lock was freed
module _ (v w : WorldView) (core : Collection) (part : Kept) (after : List Resource) (c : Consistent v.locks)
    (at : At v core (stages.FreesGroup part)) (did : LastFreed core.host v w core.taken after)
    (so : FreedSo core.host v w core.taken after true) where
  abbrev r : ℕ
  r = current core.groups

  abbrev behind : Collection
  behind = with_all core after (rest core.groups) core.count

  parts : core.groups ≡ r ∷ rest core.groups
  parts = list_parts core.groups at.1.some

  relocks : Relocks core.host (Group r) v w
  relocks = relocks_is v w core (Group r) (Part core.part ∷ []) after at.1.locked did

  others_below : All (λ q. q < v.locks.geometry.groups) (rest core.groups)
  others_below =
      All-tail (λ q. q < v.locks.geometry.groups) r (rest core.groups)
      (subst (λ (rs : List ℕ). All (λ q. q < v.locks.geometry.groups) rs) parts at.0.on.groups)

  free : IsFree w behind
  free = freed_on v w core (Group r) (Part core.part ∷ []) after at.1.locked did (rest core.groups) others_below at.0

  table : IsPartTable w behind part
  table = record {
    kept = kept_on v w core (Group r) (Part core.part ∷ []) after at.1.locked did part
        (λ same. let both : Part core.part ≡ Group r = sym (ap owner at.2.which) ∙ same in cc) at.2.kept;
    which = at.2.which;
    room = at.2.room;
  }

  lone : IfSome (told_of v.locks) (λ t. HasNoLoneSlot v.locks.geometry t.image core.part r)
  lone = none_lone v core part at.3.0 c at.0 at.2 at.3.1 at.3.2 relocks.registered

  quiet : QuietCall (Collect core.part) core.host v w (freeing_of v core.host (Group r)) (Noted (Collect core.part) core.host v outcomes.Open)
      (Noted (Collect core.part) core.host w outcomes.Open)
  quiet = so_is v w core (Group r) (Part core.part ∷ []) after at.1.locked did so (Collect core.part) outcomes.Open

  went : (next : Gathering) → At w behind next → outcome_at next ≡ outcomes.Open → left behind next < left core (stages.FreesGroup part)
      → ((n : Notes) → HasRead w behind n → IsReadAt w behind next n) → Went v w core behind (stages.FreesGroup part) (More next)
  went next stands fresh less reads =
      went_more v w core after (rest core.groups) (key_some v core c at.0.on) (keeps_relocked core.host v w (Group r) tt relocks)
      (tables_relocked core.host v w (Group r) tt relocks)
      (freeing_of v core.host (Group r)) 0 core.count (stages.FreesGroup part) next stands (relocks.passes.images, omega arith) (parts, lone) less
      (subst (λ (a : Outcome). QuietCall (Collect core.part) core.host v w (freeing_of v core.host (Group r))
      (Noted (Collect core.part) core.host v outcomes.Open) (Noted (Collect core.part) core.host w a)) (sym fresh) quiet)
      (free_empties v core.host (Group r) (last_has v core.host (Group r) core.taken (Part core.part ∷ []) at.1.locked at.0.on.taking))
      (omega arith)
      (λ n read. reads (noted_by v core (freeing_of v core.host (Group r)) n)
      (read_still v w core behind (freeing_of v core.host (Group r)) n relocks.passes.geometry refl read))

  locked_now : after ≡ Part core.part ∷ []
  locked_now = after_is v w core (Group r) (Part core.part ∷ []) after at.1.locked did

  by_rest : (groups : List ℕ) → rest core.groups ≡ groups → Went v w core behind (stages.FreesGroup part) (More (behind_list groups part))
  by_rest [] are =
      let long = some_long core.groups at.1.some in
      went (stages.FreesPart None) (free, locked_now, are) refl (omega (arith, long)) (λ n read. read)
  by_rest (q ∷ more) are =
      let one = ap length parts in
      let two = ap length are in
      went (stages.LocksGroup part) (free, locked_now, table, λ none. let both : q ∷ more ≡ [] = sym are ∙ none in cc) refl
      (omega (arith, one, two)) (λ n read. read)

  pub group_freed : Went v w core behind (stages.FreesGroup part) (More (behind_list (rest core.groups) part))
  group_freed = by_rest (rest core.groups) refl

-- the part's lock was freed, and the collection answered
module _ (v w : WorldView) (core : Collection) (after : List Resource) (c : Consistent v.locks) (later : Consistent w.locks)
    (did : LastFreed core.host v w core.taken after) (so : FreedSo core.host v w core.taken after true) (free : IsFree v core)
    (locked : HasPartAlone core) where
  part_relocks : Relocks core.host (Part core.part) v w
  part_relocks = relocks_is v w core (Part core.part) [] after locked did

  part_ready : IsReady w core.host
  part_ready = record {
    joined = part_relocks.memory.joined ∙ free.on.joined;
    empty = did.empty;
    taking = subst (IsTaking w core.host) (after_is v w core (Part core.part) [] after locked did) did.taking;
  }

  part_quiet : Quiet core.host v w (freeing_of v core.host (Part core.part))
  part_quiet = so_is v w core (Part core.part) [] after locked did so

  pub part_freed : (busy : Option Key) → At v core (stages.FreesPart busy)
      → Went v w core (with_all core after core.groups core.count) (stages.FreesPart busy) (Answered (answer_of busy core.count))
  part_freed None at =
      went_collected v w core after core.groups (key_some v core c free.on) (keeps_relocked core.host v w (Part core.part) tt part_relocks)
      (tables_relocked core.host v w (Part core.part) tt part_relocks)
      (freeing_of v core.host (Part core.part)) later part_ready (stages.FreesPart None) (part_relocks.passes.images, omega arith) refl (omega arith) refl
      at.2 (part_quiet (Collect core.part) outcomes.Open)
      (free_empties v core.host (Part core.part) (last_has v core.host (Part core.part) core.taken [] locked free.on.taking))
  part_freed (Some key) at =
      went_busy v w core after core.groups (key_some v core c free.on) (keeps_relocked core.host v w (Part core.part) tt part_relocks)
      (tables_relocked core.host v w (Part core.part) tt part_relocks)
      (freeing_of v core.host (Part core.part)) later part_ready (stages.FreesPart (Some key)) (part_relocks.passes.images, omega arith) refl (omega arith)
      key refl (part_quiet (Collect core.part) (outcomes.Busy key))

-- there was a lock to free
pub group_let_go : (v w : WorldView) (core : Collection) (part : Kept) (after : List Resource) (groups : List ℕ) (freed : Bool)
    → Consistent v.locks → At v core (stages.FreesGroup part) → Frees core.host v w core.taken after freed
    → FreedSo core.host v w core.taken after freed → groups ≡ rest core.groups
    → Went v w core (with_all core after groups core.count) (stages.FreesGroup part) (More (behind_list groups part))
group_let_go v w core part after groups true c at did so is =
    subst (λ (rs : List ℕ). Went v w core (with_all core after rs core.count) (stages.FreesGroup part) (More (behind_list rs part))) (sym is)
    (group_freed v w core part after c at did so)
group_let_go v w core part after groups false c at did so is =
    absurd (let both : [] ≡ Group (current core.groups) ∷ Part core.part ∷ [] = sym did.0 ∙ at.1.locked in cc)

part_alone : (v : WorldView) (core : Collection) (busy : Option Key) → At v core (stages.FreesPart busy) → IsFree v core × HasPartAlone core
part_alone v core None at = (at.0, at.1)
part_alone v core (Some key) at = (at.0, at.1)

pub part_let_go : (v w : WorldView) (core : Collection) (after : List Resource) (busy : Option Key) (freed : Bool) → Consistent v.locks
    → Consistent w.locks → At v core (stages.FreesPart busy) → Frees core.host v w core.taken after freed
    → FreedSo core.host v w core.taken after freed
    → Went v w core (with_all core after core.groups core.count) (stages.FreesPart busy) (Answered (answer_of busy core.count))
part_let_go v w core after busy true c later at did so =
    let alone = part_alone v core busy at in part_freed v w core after c later did so alone.0 alone.1 busy at
part_let_go v w core after busy false c later at did so =
    absurd (let alone = part_alone v core busy at in let both : [] ≡ Part core.part ∷ [] = sym did.0 ∙ alone.1 in cc)
