-- Steps of the stage in which a host has its hold.
use Rattle.file_plans.specs.laws.BaseLaws.{IsStill, base_still, still_looks}
use Rattle.std.specs.Option.{option_or}
use Rattle.plan_parts.specs.laws.BlockLaws.{both_images}
use Rattle.lock_store.specs.Memories.{holds}
use Rattle.vol_layout.specs.declared.kind.Resource.TheVariants.{File}
use Rattle.file_plans.specs.Calls.{block_of, index_of}
use Rattle.disk_locks.specs.Sure.{BothTold, Sure}
use Rattle.host_facts.specs.OwnBlocks.{IsOwnBlock}
use Rattle.vol_base.specs.declared.plain.PlainCall.TheVariants.{Write}
use Rattle.file_plans.specs.laws.KnownLaws.{block_own}
use Rattle.lock_store.specs.Calls.{WritesBlock}
use Rattle.host_facts.specs.Wrote.{HasValidImage, Wrote}
use Rattle.call_effects.specs.Places.{IsPlaced}
use Rattle.vol_base.specs.declared.plain.PlainReply.TheVariants.{Done}
use Rattle.plan_parts.specs.laws.PlacedLaws.{placed_write}
use Rattle.std.proofs.Common.{◌≡◌, ◌≢◌, ℕ, [], true, None, Option, Some, refl, ap, sym, subst, ◌∙◌}
use Rattle.std.specs.Prelude.{Ok, IsSome}
use Rattle.vol_base.specs.declared.answer.Next.{Next}
use Rattle.vol_base.specs.declared.block.Block.{Block}
use Rattle.vol_base.specs.declared.command.Command.{Command}
use Rattle.vol_base.specs.declared.plain.PlainCall.{PlainCall}
use Rattle.vol_base.specs.declared.plain.PlainReply.{PlainReply}
use Rattle.vol_base.specs.PlainCalls.{plain_call_of}
use Rattle.vol_layout.specs.declared.geometry.Geometry.{Geometry}
use Rattle.shared_disk.specs.Events.{Event}
use Rattle.shared_disk.specs.State.{OnImages}
use Rattle.lock_store.specs.Views.{host_at, key_at, told_of}
use Rattle.disk_locks.specs.Consistent.{Consistent}
use Rattle.held_cache.specs.Kept.{Cache, kept_at}
use Rattle.call_effects.specs.Places.{Places}
use Rattle.host_facts.specs.Facts.Fact.{RecordIs, TableIs}
use Rattle.host_facts.specs.Knows.{Knows}
use Rattle.host_facts.specs.Looks.{Looks}
use Rattle.host_facts.specs.Views.{WorldView}
use Rattle.host_facts.specs.laws.FactLaws.{joined_key}
use Rattle.host_runs.specs.Notes.{Notes, with_place}
use Rattle.plan_parts.specs.PlacedCalls.{PlacedCall}
use Rattle.plan_parts.specs.QuietCalls.{Noted, QuietCall, placed_of}
use Rattle.plan_parts.specs.declared.outcome.Outcome.{Outcome}
use Rattle.plan_parts.specs.declared.outcome.Outcome.TheVariants as outcomes
use Rattle.plan_parts.specs.laws.PlacedLaws.{noted_placed}
use Rattle.file_plans.specs.Bases.{HasHold, IsBase, MayComeTo}
use Rattle.file_plans.specs.Calls.{Runs, file_of}
use Rattle.file_plans.specs.Stands.{At}
use Rattle.file_plans.specs.Went.{IsRest, Went}
use Rattle.file_plans.specs.declared.call.FileCall.{FileCall}
use Rattle.file_plans.specs.declared.call.FileCall.TheVariants.{Plain}
use Rattle.file_plans.specs.declared.state.Core.{Core}
use Rattle.file_plans.specs.declared.stage.Stage.{Stage}
use Rattle.file_plans.specs.declared.stage.Stage.TheVariants as stages
use Rattle.file_plans.specs.laws.RestLaws.{went_rest}
use Rattle.file_plans.specs.Says.{HasBlock}
use Rattle.file_plans.specs.Sights.{IsSight, MayReply}
use Rattle.file_plans.specs.declared.call.FileCall.TheVariants.{Close}
use Rattle.file_plans.specs.declared.sight.Sight.TheVariants as sights
use Rattle.file_plans.specs.laws.KnownLaws.{block_named, block_shown, place_settled, place_settled_after, settled_look}
use Rattle.host_facts.specs.Facts.Fact.{BlockIs}
use Rattle.host_facts.specs.Others.{Others}
use Rattle.host_facts.specs.OwnBlocks.{MayName}
use Rattle.image_view.specs.declared.pointer.Number.TheVariants as numbers
use Rattle.lock_store.specs.Calls.{ReadsBlock}
use Rattle.plan_parts.specs.Commits.{Confirmed}
use Rattle.plan_parts.specs.laws.BlockLaws.{quiet_block}
use Rattle.vol_base.specs.declared.plain.PlainCall.TheVariants.{Read}
use Rattle.vol_base.specs.declared.plain.PlainReply.TheVariants.{Holds}
use Rattle.vol_layout.specs.Fields.{HasField}
use Rattle.vol_layout.specs.declared.field.Field.{Field}
use Rattle.vol_layout.specs.declared.field.Field.TheVariants.{Count, Pointer}
use Rattle.vol_layout.specs.declared.kind.Kind.TheVariants as kinds

-- a joined host has a key
pub joined_has_key : (v : WorldView) (h : ℕ) → Consistent v.locks → (host_at v.locks h).joined ≡ true → key_at v.locks h ≢ 0
joined_has_key v h c joined = joined_key v.locks.geometry.hosts _ h (host_at v.locks h) (c.memories h) joined

pub base_looks : (v w : WorldView) (c : Cache) (core : Core) → Looks core.host v w → IsBase v c core → IsBase w c core
base_looks v w c core looks = base_still v w c core (still_looks core.host v w looks) core.outcome

-- what a call comes to is none of its base
pub base_comes : (v : WorldView) (c : Cache) (core : Core) (outcome : Outcome) → IsBase v c core
    → IsBase v c (record core { outcome = outcome })
base_comes v c core outcome base = record {
  host = base.host;
  file = base.file;
  joined = base.joined;
  hold = base.hold;
  taking = base.taking;
  cached = base.cached;
}

-- a quiet call that is the place of its plain call
pub settled_call : (v w : WorldView) (h : ℕ) (command : Command) (call : PlainCall) (reply : PlainReply) (e : Event)
    (Before After : Notes → Type 0) → plain_call_of command ≡ Some call
    → OnImages (Places v.locks.geometry (Some call) (Some reply)) (told_of v.locks) (told_of w.locks)
    → QuietCall command h v w e Before After → PlacedCall command h v w e (Some reply) Before After
settled_call v w h command call reply e Before After is places quiet = record {
  acts = quiet.acts;
  answered = quiet.answered;
  geometry = quiet.geometry;
  others = quiet.others;
  valid = quiet.valid;
  files = subst (λ (o : Option PlainCall). OnImages (Places v.locks.geometry o (Some reply)) (told_of v.locks) (told_of w.locks)) (sym is) places;
  file = λ some. subst IsSome (sym is) refl;
  allowed = quiet.allowed;
  noted = quiet.noted;
}

-- the step is the place of its call, which is then answered
pub placed_went : (v w : WorldView) (c d : Cache) (core : Core) (reply : PlainReply) (e : Event) (next : Next) (stage : Stage)
    → At v c core stages.Sees → Consistent v.locks → Consistent w.locks → IsBase w d core → Knows w core.host (RecordIs [])
    → MayComeTo core.call (outcomes.Placed reply) → MayReply v.locks.geometry reply core.call
    → ((command : Command) → Runs command core.call
    → PlacedCall command core.host v w e (Some reply) (Noted command core.host v core.outcome) (Noted command core.host w core.outcome))
    → IsRest core.taken (outcomes.Placed reply) next stage
    → Went v w d core (record core { outcome = outcomes.Placed reply }) stages.Sees (record { placed = Some reply; called = true; next = next })
    stage
placed_went v w c d core reply e next stage is before after base empty may range calls rest =
    went_rest v w d core (record core { outcome = outcomes.Placed reply }) stages.Sees e (Some reply) refl refl
    (joined_has_key v core.host before is.0.base.joined) after core.outcome (λ some. ap placed_of is.0.comes) range (λ command n noted. noted)
    (λ command n. Noted command core.host w core.outcome n) calls next stage (base_comes w d core (outcomes.Placed reply) base) empty may
    (λ command n noted. noted.asks)
    (λ command n noted. noted_placed command core.host w reply n
    (subst (λ (o : Outcome). Noted command core.host w o n) is.0.comes noted)) rest

-- the lock of the file was looked at
pub confirm_went : (v w : WorldView) (c : Cache) (core : Core) (reply : PlainReply) (next : Next) (stage : Stage)
    → At v c core stages.Sees → Consistent v.locks → Consistent w.locks
    → IsSight v.locks.geometry (kept_at c core.host) core.call (sights.Settled reply) → Confirmed core.host v w
    → IsRest core.taken (outcomes.Placed reply) next stage
    → Went v w c core (record core { outcome = outcomes.Placed reply }) stages.Sees (record { placed = Some reply; called = true; next = next })
    stage
confirm_went v w c core reply next stage is before after sight did rest = cases core.call refl sight
  where
    cases : (call : FileCall) → core.call ≡ call → IsSight v.locks.geometry (kept_at c core.host) call (sights.Settled reply)
        → Went v w c core (record core { outcome = outcomes.Placed reply }) stages.Sees
        (record { placed = Some reply; called = true; next = next }) stage
    cases (Plain call) same sight =
        placed_went v w c c core reply did.event next stage is before after (base_looks v w c core did.looks is.0.base)
        (did.looks.facts (RecordIs []) is.0.empty) (subst (λ (k : FileCall). MayComeTo k (outcomes.Placed reply)) (sym same) tt)
        (subst (λ (k : FileCall). MayReply v.locks.geometry reply k) (sym same) sight.0)
        (λ command runs. settled_call v w core.host command call reply did.event _ _ (subst (Runs command) same runs)
        (place_settled v w core.host call reply did.looks
        (settled_look v c core.host before is.0.base.cached is.0.empty call reply sight)) (did.quiet command core.outcome)) rest
    cases (Close f) same sight = absurd sight

-- a data block was read
pub shows_named : (v : WorldView) (c : Cache) (core : Core) (d : ℕ) → At v c core stages.Sees → Consistent v.locks
    → IsSight v.locks.geometry (kept_at c core.host) core.call (sights.Shows d) → (x : Field) × MayName v core.host x d
shows_named v c core d is before sight = cases core.call refl sight
  where
    cases : (call : FileCall) → core.call ≡ call → IsSight v.locks.geometry (kept_at c core.host) call (sights.Shows d)
        → (x : Field) × MayName v core.host x d
    cases (Plain (Read f i)) same sight = (
      Pointer f i,
      block_named v c core.host before is.0.base.cached is.0.empty f i d sight.0
          (subst (λ (k : FileCall). HasHold k (host_at v.locks core.host)) same is.0.base.hold) sight.1,
    )
    cases call same sight = absurd sight

pub shows_went : (v w : WorldView) (c : Cache) (core : Core) (d : ℕ) (block : Block) (next : Next) (stage : Stage)
    → At v c core stages.Sees → Consistent v.locks → Consistent w.locks
    → IsSight v.locks.geometry (kept_at c core.host) core.call (sights.Shows d) → HasField v.locks.geometry (Count d)
    → ReadsBlock v.locks core.host (kinds.Number d) (Ok block) w.locks → Others core.host v w → Looks core.host v w
    → ((x : Field) → MayName v core.host x d → Knows w core.host (BlockIs x d block.0))
    → IsRest core.taken (outcomes.Placed (Holds block)) next stage
    → Went v w c core (record core { outcome = outcomes.Placed (Holds block) }) stages.Sees
    (record { placed = Some (Holds block); called = true; next = next }) stage
shows_went v w c core d block next stage is before after sight has did others looks known rest = cases core.call refl sight
  where
    reply : PlainReply
    reply = Holds block

    cases : (call : FileCall) → core.call ≡ call → IsSight v.locks.geometry (kept_at c core.host) call (sights.Shows d)
        → Went v w c core (record core { outcome = outcomes.Placed (Holds block) }) stages.Sees
        (record { placed = Some (Holds block); called = true; next = next }) stage
    cases (Plain (Read f i)) same sight =
        let base = base_looks v w c core looks is.0.base in
        let empty = looks.facts (RecordIs []) is.0.empty in
        let may = subst (λ (k : FileCall). HasHold k (host_at v.locks core.host)) same is.0.base.hold in
        let named = block_named v c core.host before is.0.base.cached is.0.empty f i d sight.0 may sight.1 in
        let there = subst (λ (g : Geometry). HasBlock g (kept_at c core.host) f i (numbers.At d sight.0)) (sym looks.geometry) sight.1 in
        placed_went v w c c core reply _ next stage is before after base empty
        (subst (λ (k : FileCall). MayComeTo k (outcomes.Placed reply)) (sym same) tt) tt
        (λ command runs. settled_call v w core.host command (Read f i) reply _ _ _ (subst (Runs command) same runs)
        (place_settled_after v w core.host (Read f i) reply looks
        (block_shown w c core.host after base.cached empty f i d sight.0 block there (known (Pointer f i) named)))
        (quiet_block v w core.host d block before has did others command core.outcome)) rest
    cases call same sight = absurd sight

-- the block was written in place
pub own_sure : (v : WorldView) (c : Cache) (core : Core) (d : ℕ) → At v c core stages.Sees → Consistent v.locks
    → IsSight v.locks.geometry (kept_at c core.host) core.call (sights.Own d)
    → (holds (host_at v.locks core.host) (File (file_of core.call)) ≡ true)
    × HasField v.locks.geometry (Pointer (file_of core.call) (index_of core.call)) × HasField v.locks.geometry (Count d)
    × Sure v.locks core.host (IsOwnBlock v.locks.geometry (file_of core.call) (index_of core.call) d)
own_sure v c core d is before sight = cases core.call is.0.base.hold sight
  where
    cases : (call : FileCall) → HasHold call (host_at v.locks core.host) → IsSight v.locks.geometry (kept_at c core.host) call (sights.Own d)
        → (holds (host_at v.locks core.host) (File (file_of call)) ≡ true)
        × HasField v.locks.geometry (Pointer (file_of call) (index_of call)) × HasField v.locks.geometry (Count d)
        × Sure v.locks core.host (IsOwnBlock v.locks.geometry (file_of call) (index_of call) d)
    cases (Plain (Write f i block)) hold sight =
        (hold, sight.pointer.has, sight.pointer.inside, block_own v c core.host before is.0.base.cached is.0.empty f i d sight)
    cases call hold sight = absurd sight

pub own_went : (v w : WorldView) (c : Cache) (core : Core) (d : ℕ) (done : Unit) (next : Next) (stage : Stage)
    → At v c core stages.Sees → Consistent v.locks → Consistent w.locks
    → IsSight v.locks.geometry (kept_at c core.host) core.call (sights.Own d) → HasField v.locks.geometry (Count d)
    → WritesBlock v.locks core.host (kinds.Number d) (block_of core.call).0 (host_at v.locks core.host) (Ok done) w.locks
    → Others core.host v w → HasValidImage w
    → Wrote core.host (kinds.Number d) (block_of core.call).0 [] (Some (d, (block_of core.call).0)) v w
    → BothTold (told_of v.locks) (told_of w.locks)
    (IsPlaced v.locks.geometry (Write (file_of core.call) (index_of core.call) (block_of core.call)) Done)
    → IsRest core.taken (outcomes.Placed Done) next stage
    → Went v w c core (record core { outcome = outcomes.Placed Done }) stages.Sees
    (record { placed = Some Done; called = true; next = next }) stage
own_went v w c core d done next stage is before after sight has did others valid wrote placed rest = cases core.call refl sight
  where
    base : IsBase w c core
    base =
        let still : IsStill core.host v w = record {
          geometry = wrote.geometry;
          memory = wrote.memory;
          tables = λ t p. wrote.facts (TableIs t p) (λ e. cc);
        } in
        base_still v w c core still core.outcome is.0.base

    cases : (call : FileCall) → core.call ≡ call → IsSight v.locks.geometry (kept_at c core.host) call (sights.Own d)
        → Went v w c core (record core { outcome = outcomes.Placed Done }) stages.Sees
        (record { placed = Some Done; called = true; next = next }) stage
    cases (Plain (Write f i block)) same sight =
        let places = subst (λ (k : FileCall). BothTold (told_of v.locks) (told_of w.locks)
        (IsPlaced v.locks.geometry (Write (file_of k) (index_of k) (block_of k)) Done)) same placed in
        placed_went v w c c core Done _ next stage is before after base (wrote.facts (RecordIs []) (λ e. cc) is.0.empty)
        (subst (λ (k : FileCall). MayComeTo k (outcomes.Placed Done)) (sym same) tt)
        (subst (λ (k : FileCall). MayReply v.locks.geometry Done k) (sym same) sight.pointer.has.1)
        (λ command runs.
        let plain : plain_call_of command ≡ Some (Write f i block) = subst (Runs command) same runs in
        placed_write command core.host v w (kinds.Number d) (block_of core.call).0 (Some Done) core.outcome done has did others valid
        (subst (λ (o : Option PlainCall). OnImages (Places v.locks.geometry o (Some Done)) (told_of v.locks) (told_of w.locks)) (sym plain)
        (both_images (told_of v.locks) (told_of w.locks) (IsPlaced v.locks.geometry (Write f i block) Done) places))
        (λ some. subst IsSome (sym plain) refl)) rest
    cases call same sight = absurd sight

-- where nothing is placed the notes stay
pub noted_still : (command : Command) (h : ℕ) (v : WorldView) (outcome : Outcome) (n : Notes) → Noted command h v outcome n
    → Noted command h v outcome (with_place None n)
noted_still command h v outcome n noted = record {
  remembered = noted.remembered;
  placed_is = or_none n.placed ∙ noted.placed_is;
  shown_is = noted.shown_is;
  full = noted.full;
  asks = noted.asks;
  wants = noted.wants;
}
  where
    or_none : (o : Option PlainReply) → option_or o None ≡ o
    or_none None = refl
    or_none (Some reply) = refl

-- a data block that is read is one of the volume
pub shows_has : (v : WorldView) (c : Cache) (core : Core) (d : ℕ) → IsSight v.locks.geometry (kept_at c core.host) core.call (sights.Shows d)
    → HasField v.locks.geometry (Count d)
shows_has v c core d sight = cases core.call sight
  where
    cases : (call : FileCall) → IsSight v.locks.geometry (kept_at c core.host) call (sights.Shows d) → HasField v.locks.geometry (Count d)
    cases (Plain (Read f i)) sight = sight.1.pointer.inside
    cases call sight = absurd sight
