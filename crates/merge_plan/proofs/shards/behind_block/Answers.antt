use Rattle.std.proofs.Common.{◌≡◌, ◌+◌, ◌++◌, ◌∷◌, ◌<◌, ◌≤◌, ◌∙◌, List, [], ap, arith, inl, inr, length, refl, subst, sym}
use Rattle.std.proofs.lemmas.List.{length-append}
use Rattle.vol_base.specs.declared.block.Block.{Block}
use Rattle.vol_layout.specs.declared.geometry.Geometry.{Geometry}
use Rattle.vol_layout.specs.Ranges.{IsGeometry}
use Rattle.lock_store.specs.Views.{LocksView}
use Rattle.merge_shelves.specs.Parts.{blocks_of, shelves}
use Rattle.sorted_shard.specs.Shelves.{IsSortedFrom, entries_in}
use Rattle.merge_plan.specs.Followings.{GoesOn}
use Rattle.merge_plan.specs.Rooms.{IsOpen}
use Rattle.merge_plan.specs.declared.room.MergeRoom.{MergeRoom}
use Rattle.merge_plan.specs.laws.ShardSteps.{filled_open, filling_few}
use Rattle.merge_plan.proofs.shards.behind_block.Goals as goal

pub push-requires : goal.push-requires
push-requires g c =
    let few = filling_few c.args.world.now c.args.host c.args.shelf c.args.k c.args.room.now c.requires in
    let read = c.requires.read in omega (arith, few, read)

pub overflow_add-k : goal.overflow_add-k
overflow_add-k g c =
    let few = filling_few c.args.world.now c.args.host c.args.shelf c.args.k c.args.room.now c.requires in omega (arith, few)

pub overflow_add-result : goal.overflow_add-result
overflow_add-result g c =
    let few = filling_few c.args.world.now c.args.host c.args.shelf c.args.k c.args.room.now c.requires in omega (arith, few)

pub blocks_of-requires-clause-geometry : goal.blocks_of-requires-clause-geometry
blocks_of-requires-clause-geometry g c = subst IsGeometry (sym c.geometry.ensures.geometry) c.geometry.ensures.consistent.geometry

pub blocks_of-requires-clause-shelf : goal.blocks_of-requires-clause-shelf
blocks_of-requires-clause-shelf g c =
    let same : c.geometry.result.now ≡ c.args.world.now.locks.geometry =
    c.geometry.ensures.geometry ∙ ap (λ (l : LocksView). l.geometry) c.locks.ensures in
    subst (λ (x : Geometry). c.args.shelf < shelves x) (sym same) c.requires.below

pub returns-then-k-blocks_of : goal.returns-then-k-blocks_of
returns-then-k-blocks_of g c =
    let same : c.geometry.result.now ≡ c.args.world.now.locks.geometry =
    c.geometry.ensures.geometry ∙ ap (λ (l : LocksView). l.geometry) c.locks.ensures in
    let room = c.args.room.now in
    let number = c.blocks_of.ensures.number in
    inl (
      subst (λ (x : Geometry). c.args.k + 1 < blocks_of x c.args.shelf) same (let more = c.if-k-blocks_of.true in omega (arith, more, number)),
      ap (λ (bs : List Block). let r : MergeRoom = record room { read = bs } in r) c.push.ensures,
      refl,
    )

pub of-room-requires-clause-geometry : goal.of-room-requires-clause-geometry
of-room-requires-clause-geometry g c = subst IsGeometry (sym c.geometry.ensures.geometry) c.geometry.ensures.consistent.geometry

pub of-room-requires-clause-some : goal.of-room-requires-clause-some
of-room-requires-clause-some g c =
    let all = ap length c.all.ensures.blocks in
    let pushed = ap length c.push.ensures in
    let long = length-append c.args.room.now.read (c.args.block ∷ []) in omega (arith, all, pushed, long)

pub of-room-requires-clause-few : goal.of-room-requires-clause-few
of-room-requires-clause-few g c =
    let all = ap length c.all.ensures.blocks in
    let pushed = ap length c.push.ensures in
    let few = c.all.ensures.few in omega (arith, all, few)

pub goes_on-requires-clause-host : goal.goes_on-requires-clause-host
goes_on-requires-clause-host g c = c.requires.sorted.of

pub goes_on-requires-clause-sweep : goal.goes_on-requires-clause-sweep
goes_on-requires-clause-sweep g c =
    let same : c.geometry.result.now ≡ c.args.world.now.locks.geometry =
    c.geometry.ensures.geometry ∙ ap (λ (l : LocksView). l.geometry) c.locks.ensures in
    record { geometry = c.of-room.ensures.geometry ∙ same; done = c.requires.sorted.sweep.done; within = c.requires.sorted.sweep.within }

pub goes_on-requires-clause-open : goal.goes_on-requires-clause-open
goes_on-requires-clause-open g c =
    let v = c.args.world.now in
    let room = c.args.room.now in
    let same : c.geometry.result.now ≡ v.locks.geometry = c.geometry.ensures.geometry ∙ ap (λ (l : LocksView). l.geometry) c.locks.ensures in
    let number = c.blocks_of.ensures.number in
    let last = subst (λ (x : Geometry). blocks_of x c.args.shelf ≤ c.args.k + 1) same (let most = c.if-k-blocks_of.false in omega (arith, most, number)) in
    subst (λ (bs : List Block). IsOpen v (record room { read = bs; sweep = record room.sweep { shelf = c.of-room.result } }) c.args.shelf)
    (sym c.push.ensures)
    (filled_open v c.args.host c.args.shelf c.args.k room c.args.block c.requires last c.of-room.result
    (c.of-room.ensures.blocks ∙ ap length (c.all.ensures.blocks ∙ c.push.ensures)))

pub goes_on-requires-clause-filled : goal.goes_on-requires-clause-filled
goes_on-requires-clause-filled g c = c.requires.sorted.filled

pub returns : goal.returns
returns g c =
    let v = c.args.world.now in
    let room = c.args.room.now in
    let same : c.geometry.result.now ≡ v.locks.geometry = c.geometry.ensures.geometry ∙ ap (λ (l : LocksView). l.geometry) c.locks.ensures in
    let number = c.blocks_of.ensures.number in
    let last = subst (λ (x : Geometry). blocks_of x c.args.shelf ≤ c.args.k + 1) same (let most = c.if-k-blocks_of.false in omega (arith, most, number)) in
    let pushed : c.all.result.now ≡ room.read ++ c.args.block ∷ [] = c.all.ensures.blocks ∙ c.push.ensures in
    let between : MergeRoom =
    record room { read = room.read ++ c.args.block ∷ []; sweep = record room.sweep { shelf = c.of-room.result } } in
    inr (
      last,
      between,
      record {
        made = c.of-room.result;
        entries = subst (λ (bs : List Block). IsSortedFrom (entries_in v.locks.geometry bs) c.of-room.result.entries) pushed
            (subst (λ (x : Geometry). IsSortedFrom (entries_in x c.all.result.now) c.of-room.result.entries) same c.of-room.ensures.entries);
        volume = c.of-room.ensures.geometry ∙ same;
        blocks = c.of-room.ensures.blocks ∙ ap length pushed;
        same = refl;
      },
      c.goes_on.result,
      subst (λ (bs : List Block).
          GoesOn v c.args.host c.args.shelf (record room { read = bs; sweep = record room.sweep { shelf = c.of-room.result } }) c.goes_on.new.room c.goes_on.result)
          c.push.ensures c.goes_on.ensures,
      refl,
    )
