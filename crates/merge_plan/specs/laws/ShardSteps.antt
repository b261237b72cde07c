-- The steps by which the blocks of a shelf are read and swapped, and the own log blocks emptied.
use Rattle.std.proofs.Common.{◌≡◌, ◌+◌, ◌++◌, ◌∷◌, ◌*◌, ◌-◌, ◌<◌, ◌≤◌, ◌∙◌, ℕ, [], None, Option, Some, ap, arith, inl, inr, length, refl, subst, sym}
use Rattle.std.specs.Prelude.{slice_get}
use Rattle.std.proofs.lemmas.List.{length-append}
use Rattle.std.proofs.lemmas.Option.{slice_get_within}
use Rattle.vol_base.specs.declared.block.Block.{Block}
use Rattle.vol_layout.specs.declared.geometry.Geometry.{Geometry}
use Rattle.vol_layout.specs.declared.kind.Kind.TheVariants as kinds
use Rattle.vol_layout.specs.Places.{place_of}
use Rattle.shared_disk.specs.Events.{Call, Done, Reads, Reply, Shows, Tests, Writes, event}
use Rattle.hint_plans.specs.laws.HostLaws.{ready_key}
use Rattle.host_facts.specs.Views.{WorldView}
use Rattle.host_runs.specs.HintCauses.{empty_log}
use Rattle.lock_store.specs.Views.{key_at}
use Rattle.disk_locks.specs.Consistent.{Consistent}
use Rattle.merge_shelves.specs.Changes.{shard_bytes}
use Rattle.merge_shelves.specs.Parts.{blocks_of}
use Rattle.merge_steps.specs.Logs.{LogsRead, emptied_more}
use Rattle.merge_steps.specs.Steps.{IsMerging, Went as CallWent}
use Rattle.merge_steps.specs.laws.CallLaws.{merging_on}
use Rattle.merge_steps.specs.laws.EndLaws.{merge_ends, merge_goes_on}
use Rattle.plan_parts.specs.declared.outcome.Outcome.TheVariants.{Open}
use Rattle.share_plans.specs.Closings.{KeepsHolds}
use Rattle.share_plans.specs.laws.ClosingLaws.{keeps_memory}
use Rattle.sorted_shard.specs.Shelves.{ShelfList}
use Rattle.merge_plan.specs.Followings.{AreNotFilled, GoesOn, IsAfter, IsNextFilled, behind_emptied}
use Rattle.merge_plan.specs.Plans.{IsEmptying, IsFilling, IsSwapping, all_read, logs_of, shelf_left}
use Rattle.merge_plan.specs.Rooms.{IsOpen, IsSorted}
use Rattle.merge_plan.specs.Steps.{IsBehindShard, IsShelved, Went}
use Rattle.merge_plan.specs.declared.plan.Come.{Come}
use Rattle.merge_plan.specs.declared.plan.Come.TheVariants.{More}
use Rattle.merge_plan.specs.declared.plan.Doing.{Doing}
use Rattle.merge_plan.specs.declared.plan.Doing.TheVariants as doings
use Rattle.merge_plan.specs.declared.room.MergeRoom.{MergeRoom}
use Rattle.merge_plan.specs.laws.FollowLaws.{after_follows, few_blocks, few_shelves, goes_on_follows}
use Rattle.merge_plan.specs.laws.LogSteps.{went_skipped}
use Rattle.merge_plan.specs.laws.OnLaws.{emptying_on, filling_on, swapping_on}
use Rattle.merge_plan.specs.laws.StepLaws.{went_followed}

-- what is known of the own log blocks, on a volume of the same geometry
all_same : (g x : Geometry) (room : MergeRoom) → g ≡ x → all_read g room ≡ all_read x room
all_same g x room same =
    ap (λ (y : Geometry). let r : LogsRead = record { read = y.logs; hints = length room.logs; filled = room.filled; emptied = 0 } in r) same

-- the number of a shard block of a shelf is one of the volume
pub shard_in : (g : Geometry) (s k : ℕ) → k < blocks_of g s → 4 * s + k < g.shards
shard_in g s k below = omega (arith, below)

pub swap_in : (v : WorldView) (h s k : ℕ) (old : MergeRoom) → IsSwapping v h old s k
    → (k < 4) × (k < length old.read) × (k < blocks_of v.locks.geometry s)
swap_in v h s k old is =
    let inside = slice_get_within old.read k is.changed.1.2 is.changed.1.3 in
    let few = few_blocks v.locks.geometry.shards s _ is.opened.read in
    let many = is.opened.read in (omega (arith, few, inside), inside, omega (arith, inside, many))

-- a shelf that is made of all its blocks
pub filled_open : (v : WorldView) (h s k : ℕ) (room : MergeRoom) (block : Block) → IsFilling v h room s k → blocks_of v.locks.geometry s ≤ k + 1
    → (made : ShelfList) → made.blocks ≡ length (room.read ++ block ∷ [])
    → IsOpen v (record room { read = room.read ++ block ∷ []; sweep = record room.sweep { shelf = made } }) s
filled_open v h s k room block is last made blocks = record {
  below = is.below;
  read = all;
  blocks = blocks ∙ all;
  met = record { place = room.sweep.at; noted = is.next.0; before = omega arith; here = is.next.1 };
}
  where
    all : length (room.read ++ block ∷ []) ≡ blocks_of v.locks.geometry s
    all =
        let long = length-append room.read (block ∷ []) in
        let read = is.read in
        let inside = is.block in omega (arith, long, read, last, inside)

-- the blocks that are read of it are few
pub filling_few : (v : WorldView) (h s k : ℕ) (room : MergeRoom) → IsFilling v h room s k → k < 4
filling_few v h s k room is =
    let few = few_blocks v.locks.geometry.shards s _ refl in let inside = is.block in omega (arith, few, inside)

module _ (v w : WorldView) (h s k : ℕ) (c : Consistent v.locks) (later : Consistent w.locks) (old : MergeRoom) (merging : IsMerging v h) where
  abbrev g : Geometry
  g = v.locks.geometry

  -- a block of the shelf is read
  module _ (block : Block) (is : IsFilling v h old s k)
      (made : (r : LogsRead) → CallWent h v w (Reads (place_of v.locks.geometry (kinds.Shard (4 * s + k)))) (Shows block.0) r r) where
    abbrev call : Call
    call = Reads (place_of g (kinds.Shard (4 * s + k)))

    abbrev read : MergeRoom
    read = record old { read = old.read ++ block ∷ [] }

    went : CallWent h v w call (Shows block.0) (all_read g old) (all_read g old)
    went = made (all_read g old)

    same : w.locks.geometry ≡ g
    same = went.geometry

    keeps : KeepsHolds h v w
    keeps = keeps_memory h v w same went.memory

    merging_now : IsMerging w h
    merging_now = merging_on h v w call (Shows block.0) (all_read g old) (all_read g old) went merging

    went_now : CallWent h v w call (Shows block.0) (all_read g old) (all_read w.locks.geometry old)
    went_now = subst (CallWent h v w call (Shows block.0) (all_read g old)) (all_same g w.locks.geometry old (sym same)) went

    long : length read.read ≡ k + 1
    long = length-append old.read (block ∷ []) ∙ ap (λ (n : ℕ). n + 1) is.read

    small : k < 4
    small = filling_few v h s k old is

    there : IsFilling w h old s k
    there = filling_on v w h same old s k is

    sorted_now : IsSorted w h old
    sorted_now = there.sorted

    read_sorted : IsSorted w h read
    read_sorted = record {
      of = sorted_now.of;
      sorted = sorted_now.sorted;
      sweep = sorted_now.sweep;
      filled = sorted_now.filled;
      marks = sorted_now.marks;
    }

    shard_more : k + 1 < blocks_of w.locks.geometry s → Went h v w old read (doings.ReadsShard s k) (More (doings.ReadsShard s (k + 1)))
    shard_more more = record {
      owes = λ pending.
          merge_goes_on v w h call (Shows block.0) (all_read g old) (all_read w.locks.geometry old) pending c merging went_now;
      does = (block, (went.quiet []).acts, inl (more, refl, refl));
      stands = (
        merging_now.host,
        (
          merging_now,
          record {
            sorted = read_sorted;
            below = there.below;
            block = more;
            read = long;
            next = there.next;
          },
        ),
      );
      keeps = keeps;
      fewer = omega (arith, small);
      on = omega arith;
    }

    -- behind the last one its entries are handled
    shard_last : blocks_of w.locks.geometry s ≤ k + 1 → (between new : MergeRoom) (doing : Doing) → IsShelved w.locks.geometry s read between
        → GoesOn w h s between new doing → Went h v w old new (doings.ReadsShard s k) (More doing)
    shard_last last between new doing shelved on =
        went_followed v w h old new (doings.ReadsShard s k) (event (key_at v.locks h) call (Shows block.0)) (ready_key v h c merging.ready) Open refl
        (λ pending n came. came.noted) mid doing (shelf_left mid s 4) (20 * s + 5) went_now.quiet
        (goes_on_follows w h later merging_now mid new s doing mid_sorted mid_open (subst (λ (r : MergeRoom). GoesOn w h s r new doing) shelved.same on))
        (block, (went.quiet []).acts, inr (last, between, shelved, doing, on, refl)) keeps (omega (arith, small)) (omega (arith, small))
      where
        mid : MergeRoom
        mid = record read { sweep = record read.sweep { shelf = shelved.made } }

        mid_sorted : IsSorted w h mid
        mid_sorted = record {
          of = sorted_now.of;
          sorted = sorted_now.sorted;
          sweep = record { geometry = shelved.volume; done = sorted_now.sweep.done; within = sorted_now.sweep.within };
          filled = sorted_now.filled;
          marks = sorted_now.marks;
        }

        mid_open : IsOpen w mid s
        mid_open = filled_open w h s k old block there last shelved.made shelved.blocks

    pub shard_read : (new : MergeRoom) (come : Come) → IsBehindShard w h s k read new come → Went h v w old new (doings.ReadsShard s k) come
    shard_read new come (inl (more, new_is, come_is)) =
        subst (Went h v w old new (doings.ReadsShard s k)) (sym come_is)
        (subst (λ (r : MergeRoom). Went h v w old r (doings.ReadsShard s k) (More (doings.ReadsShard s (k + 1)))) (sym new_is) (shard_more more))
    shard_read new come (inr (last, between, shelved, doing, on, come_is)) =
        subst (Went h v w old new (doings.ReadsShard s k)) (sym come_is) (shard_last last between new doing shelved on)

    -- what stands behind the call
    pub shard_there : IsFilling w h old s k
    shard_there = there

  -- one is swapped
  module _ (read : Block) (at : slice_get old.read k ≡ Some read) (is : IsSwapping v h old s k) (reply : Reply)
      (made : (r : LogsRead) → CallWent h v w (Tests (place_of v.locks.geometry (kinds.Shard (4 * s + k))) read.0 (shard_bytes k old.sweep.shelf.entries))
      reply r r) where
    abbrev swap : Call
    swap = Tests (place_of g (kinds.Shard (4 * s + k))) read.0 (shard_bytes k old.sweep.shelf.entries)

    swap_went : CallWent h v w swap reply (all_read g old) (all_read g old)
    swap_went = made (all_read g old)

    swap_now : CallWent h v w swap reply (all_read g old) (all_read w.locks.geometry old)
    swap_now = subst (CallWent h v w swap reply (all_read g old)) (all_same g w.locks.geometry old (sym swap_went.geometry)) swap_went

    pub shard_swapped : (new : MergeRoom) (doing : Doing) → IsAfter w.locks.geometry s (k + 1) old new doing
        → Went h v w old new (doings.Swaps s k) (More doing)
    shard_swapped new doing after =
        let there = swapping_on v w h swap_went.geometry old s k is in
        let small = (swap_in v h s k old is).0 in
        let merging_now = merging_on h v w swap reply (all_read g old) (all_read g old) swap_went merging in
        went_followed v w h old new (doings.Swaps s k) (event (key_at v.locks h) swap reply) (ready_key v h c merging.ready) Open refl
        (λ pending n came. came.noted) old doing (shelf_left old s 4 - (k + 1)) (20 * s + 6 + (k + 1)) swap_now.quiet
        (after_follows w h later merging_now old there.sorted s (few_shelves w h later merging_now s there.opened.below) new doing (k + 1)
        (omega (arith, small)) there.opened there.ends after)
        (read, at, reply, (swap_went.quiet []).acts, doing, after, refl) (keeps_memory h v w swap_went.geometry swap_went.memory)
        (omega (arith, small)) (omega arith)

-- an own log block is written empty
module _ (v w : WorldView) (h l : ℕ) (c : Consistent v.locks) (later : Consistent w.locks) (old : MergeRoom) (merging : IsMerging v h)
    (is : IsEmptying v h old l)
    (made : (r : LogsRead) → r.emptied ≡ l
    → CallWent h v w (Writes (place_of v.locks.geometry (kinds.Log h l)) empty_log) Done r (emptied_more r)) where
  abbrev write : Call
  write = Writes (place_of v.locks.geometry (kinds.Log h l)) empty_log

  abbrev was : LogsRead
  was = logs_of v.locks.geometry old (doings.EmptiesLog l)

  emptied : CallWent h v w write Done was (emptied_more was)
  emptied = made was refl

  emptied_now : (k : ℕ) → AreNotFilled old.filled (l + 1) k → CallWent h v w write Done was (logs_of w.locks.geometry old (doings.EmptiesLog k))
  emptied_now k none =
      subst (CallWent h v w write Done was)
      (ap (λ (x : Geometry). let r : LogsRead = record { read = x.logs; hints = length old.logs; filled = old.filled; emptied = k } in r)
      (sym emptied.geometry)) (went_skipped h v w write Done was (emptied_more was) k emptied none)

  pub emptied_same : w.locks.geometry ≡ v.locks.geometry
  emptied_same = emptied.geometry

  keeps_on : KeepsHolds h v w
  keeps_on = keeps_memory h v w emptied.geometry emptied.memory

  pub log_emptied : (next : Option ℕ) → IsNextFilled old.filled w.locks.geometry.logs (l + 1) next
      → Went h v w old old (doings.EmptiesLog l) (behind_emptied old.sweep.counts next)
  log_emptied (Some k) filled =
      let there = emptying_on v w h emptied.geometry old l is in
      let now = merging_on h v w write Done was (emptied_more was) emptied merging in record {
        owes = λ pending.
            merge_goes_on v w h write Done was (logs_of w.locks.geometry old (doings.EmptiesLog k)) pending c merging (emptied_now k filled.3);
        does = (refl, (emptied.quiet []).acts, Some k, filled, refl);
        stands = (now.host, (now, record { sorted = there.sorted; done = there.done; below = filled.1; filled = filled.2 }));
        keeps = keeps_on;
        fewer = let after = filled.0 in let below = filled.1 in let logs = later.geometry.logs.1 in omega (arith, after, below, logs);
        on = omega arith;
      }
  log_emptied None none =
      let there = emptying_on v w h emptied.geometry old l is in
      let now = merging_on h v w write Done was (emptied_more was) emptied merging in
      let same = ap (λ (x : Geometry). x.logs) emptied.geometry in
      let below = is.below in
      let logs = c.geometry.logs.1 in
      let counted = is.sorted.sweep.done in
      let within = is.sorted.sweep.within in
      let all = is.done in record {
        owes = λ pending.
            merge_ends v w h write Done was (logs_of w.locks.geometry old (doings.EmptiesLog w.locks.geometry.logs)) pending c merging
            (emptied_now w.locks.geometry.logs none) old.sweep.counts later (omega (arith, same)) (omega (arith, same))
            (omega (arith, counted, within, all));
        does = (refl, (emptied.quiet []).acts, None, none, refl);
        stands = now.ready;
        keeps = keeps_on;
        fewer = omega (arith, below, logs);
        on = omega arith;
      }
