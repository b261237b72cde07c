use Rattle.std.proofs.Common.{◌≡◌, ◌+◌, ◌*◌, ◌∙◌, List, ap, arith, subst, sym, ℕ}
use Rattle.vol_layout.specs.declared.geometry.Geometry.{Geometry}
use Rattle.vol_layout.specs.declared.kind.Kind.TheVariants.{Shard}
use Rattle.vol_layout.specs.Places.{place_of}
use Rattle.vol_layout.specs.Ranges.{IsGeometry}
use Rattle.shared_disk.specs.Events.{Tests}
use Rattle.disk_locks.specs.Consistent.{Consistent}
use Rattle.lock_store.specs.Views.{LocksView}
use Rattle.merge_steps.specs.Logs.{LogsRead}
use Rattle.merge_steps.specs.Steps.{Went}
use Rattle.merge_plan.specs.Followings.{IsAfter}
use Rattle.merge_plan.specs.Rooms.{HasFilled}
use Rattle.merge_plan.specs.laws.ShardSteps.{shard_in, shard_swapped, swap_in}
use Rattle.merge_plan.proofs.shards.swaps.Goals as goal

pub overflow_mul-kind : goal.overflow_mul-kind
overflow_mul-kind g c =
    let most = (subst Consistent c.locks.ensures c.geometry.ensures.consistent).geometry.shards.1 in
    let block = (swap_in c.args.world.now c.args.host c.args.shelf c.args.k c.args.room.now c.requires.stands.1.1).2 in
    let below = shard_in c.args.world.now.locks.geometry c.args.shelf c.args.k block in omega (arith, most, below)

pub overflow_add-kind : goal.overflow_add-kind
overflow_add-kind g c =
    let most = (subst Consistent c.locks.ensures c.geometry.ensures.consistent).geometry.shards.1 in
    let block = (swap_in c.args.world.now c.args.host c.args.shelf c.args.k c.args.room.now c.requires.stands.1.1).2 in
    let below = shard_in c.args.world.now.locks.geometry c.args.shelf c.args.k block in omega (arith, most, below)

pub block_of-new-requires : goal.block_of-new-requires
block_of-new-requires g c =
    let block = (swap_in c.args.world.now c.args.host c.args.shelf c.args.k c.args.room.now c.requires.stands.1.1).2 in
    let blocks = c.requires.stands.1.1.opened.blocks in omega (arith, block, blocks)

pub get-requires : goal.get-requires
get-requires g c = (swap_in c.args.world.now c.args.host c.args.shelf c.args.k c.args.room.now c.requires.stands.1.1).1

pub swaps_index-swapped-requires-clause-stands : goal.swaps_index-swapped-requires-clause-stands
swaps_index-swapped-requires-clause-stands g c = c.requires.stands.1.0

pub swaps_index-swapped-requires-clause-kind : goal.swaps_index-swapped-requires-clause-kind
swaps_index-swapped-requires-clause-kind g c = tt

pub swaps_index-swapped-requires-clause-has : goal.swaps_index-swapped-requires-clause-has
swaps_index-swapped-requires-clause-has g c =
    shard_in c.args.world.now.locks.geometry c.args.shelf c.args.k
    (swap_in c.args.world.now c.args.host c.args.shelf c.args.k c.args.room.now c.requires.stands.1.1).2

pub overflow_add-k : goal.overflow_add-k
overflow_add-k g c =
    let small = (swap_in c.args.world.now c.args.host c.args.shelf c.args.k c.args.room.now c.requires.stands.1.1).0 in omega (arith, small)

pub after_entries-requires-clause-geometry : goal.after_entries-requires-clause-geometry
after_entries-requires-clause-geometry g c =
    subst IsGeometry (sym c.geometry.ensures.geometry) c.geometry.ensures.consistent.geometry

pub after_entries-requires-clause-volume : goal.after_entries-requires-clause-volume
after_entries-requires-clause-volume g c =
    c.requires.stands.1.1.sorted.sweep.geometry
    ∙ sym (c.geometry.ensures.geometry ∙ ap (λ (l : LocksView). l.geometry) c.locks.ensures)

pub after_entries-requires-clause-blocks : goal.after_entries-requires-clause-blocks
after_entries-requires-clause-blocks g c = c.requires.stands.1.1.opened.read ∙ sym c.requires.stands.1.1.opened.blocks

pub after_entries-requires-clause-filled : goal.after_entries-requires-clause-filled
after_entries-requires-clause-filled g c =
    let same : c.geometry.result.now ≡ c.args.world.now.locks.geometry =
    c.geometry.ensures.geometry ∙ ap (λ (l : LocksView). l.geometry) c.locks.ensures in
    subst (λ (x : Geometry). HasFilled x c.args.room.now) (sym same) c.requires.stands.1.1.sorted.filled

pub after_entries-requires-clause-within : goal.after_entries-requires-clause-within
after_entries-requires-clause-within g c = c.requires.stands.1.1.sorted.sweep.within

pub returns-in-Ok-clause-went : goal.returns-in-Ok-clause-went
returns-in-Ok-clause-went g c =
    let v = c.args.world.now in
    let w = c.swaps_index-swapped.new.world in
    let h = c.args.host in
    let old = c.args.room.now in
    let (reply, swap, went) = c.in-Ok.ensures.went in
    let same : c.geometry.result.now ≡ v.locks.geometry = c.geometry.ensures.geometry ∙ ap (λ (l : LocksView). l.geometry) c.locks.ensures in
    let made = subst (λ (b : List ℕ). (r : LogsRead)
    → Went h v w (Tests (place_of v.locks.geometry (Shard (4 * c.args.shelf + c.args.k))) c.get.result.now.0 b) reply r r) c.block_of-new.ensures went in
    shard_swapped v w h c.args.shelf c.args.k (subst Consistent c.locks.ensures c.geometry.ensures.consistent)
    (subst Consistent c.locks-2.ensures c.geometry-geometry.ensures.consistent) old c.requires.stands.1.0 c.get.result.now c.get.ensures
    c.requires.stands.1.1 reply made c.after_entries.new.room c.after_entries.result
    (subst (λ (x : Geometry). IsAfter x c.args.shelf (c.args.k + 1) old c.after_entries.new.room c.after_entries.result)
    (same ∙ sym (made (record { read = 0; hints = 0; filled = old.filled; emptied = 0 })).geometry) c.after_entries.ensures)

pub returns-in-Ok-clause-others : goal.returns-in-Ok-clause-others
returns-in-Ok-clause-others g c = c.in-Ok.ensures.others

pub returns-in-Err-clause-cut : goal.returns-in-Err-clause-cut
returns-in-Err-clause-cut g c = c.in-Err.ensures.cut

pub returns-in-Err-clause-others : goal.returns-in-Err-clause-others
returns-in-Err-clause-others g c = c.in-Err.ensures.others
