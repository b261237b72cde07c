-- A plan stands over a step of another host, which may have changed what is kept for that host beside what the volume holds.
use Rattle.std.proofs.Common.{◌≡◌, ◌≢◌, ◌⊎◌, ◌<◌, ◌+◌, ℕ, false, true, List, None, Some, inl, inr, refl, slice_index_or, sym, subst, ◌∙◌}
use Rattle.vol_base.specs.declared.command.Command.{Command}
use Rattle.vol_base.specs.declared.plain.PlainCall.TheVariants as calls
use Rattle.vol_layout.specs.declared.field.Field.{Field}
use Rattle.vol_layout.specs.declared.field.Field.TheVariants.{Head, Pointer}
use Rattle.vol_layout.specs.declared.geometry.Geometry.{Geometry}
use Rattle.vol_layout.specs.declared.kind.Table.{Table}
use Rattle.vol_layout.specs.declared.kind.Table.TheVariants as tables
use Rattle.vol_layout.specs.Fields.{HasField, table_of}
use Rattle.vol_layout.specs.Ranges.{HasTable}
use Rattle.image_view.specs.declared.pointer.Number.{Number}
use Rattle.image_view.specs.declared.pointer.Number.TheVariants.{At as Names, Hole}
use Rattle.image_view.specs.Images.{Image}
use Rattle.image_view.specs.Pointers.{pointer_number}
use Rattle.image_view.specs.laws.FrameLaws.{HasTable-table_of}
use Rattle.lock_store.specs.Memories.{dropped}
use Rattle.lock_store.specs.Views.{host_at}
use Rattle.disk_locks.specs.Consistent.{Consistent}
use Rattle.held_cache.specs.Kept.{Cache, kept_at}
use Rattle.host_facts.specs.Others.{Others}
use Rattle.host_facts.specs.Views.{WorldView}
use Rattle.host_runs.specs.Notes.{Notes}
use Rattle.plan_parts.specs.Steps.{IsAtRest, IsReady}
use Rattle.file_plans.specs.Bases.{IsBase, IsCached}
use Rattle.file_plans.specs.Calls.{file_of}
use Rattle.file_plans.specs.Says.{AreHoles, AreRemains, HasBlock, IsRemain, Known, PointsTo, Reads, Says}
use Rattle.file_plans.specs.Sights.{IsSight}
use Rattle.file_plans.specs.Stands.{At, IsFreshBlock, IsOpenBase, IsOutside, NotedAt, shared_of, sight_of}
use Rattle.file_plans.specs.Went.{LeavesOthers}
use Rattle.file_plans.specs.declared.call.FileCall.{FileCall}
use Rattle.file_plans.specs.declared.call.FileCall.TheVariants.{Close, Plain}
use Rattle.file_plans.specs.declared.remains.Remain.{Remain}
use Rattle.file_plans.specs.declared.sight.Sight.{Sight}
use Rattle.file_plans.specs.declared.sight.Sight.TheVariants as sights
use Rattle.file_plans.specs.declared.stage.Fresh.{Fresh}
use Rattle.file_plans.specs.declared.stage.Stage.{Stage}
use Rattle.file_plans.specs.declared.stage.Stage.TheVariants as stages
use Rattle.file_plans.specs.declared.state.Core.{Core}
use Rattle.file_plans.specs.laws.BaseLaws.{cached_still}
use Rattle.file_plans.specs.laws.NeedLaws.{file_table_has}
use Rattle.file_plans.specs.laws.PlanStillLaws.{agrees_still, plan_still, ready_still, remembered_over}

-- what tables say of a file is said again where the same is known of each table of the volume
module _ (g : Geometry) (known later : Known) (same : (t : Table) → HasTable g t → later t ≡ known t) where
  says_again : (x : Field) (n : ℕ) → HasField g x → Says known x n → Says later x n
  says_again x n has says = record { table = says.table; kept = same (table_of x) (HasTable-table_of g x has) ∙ says.kept; is = says.is }

  points_again : (f i : ℕ) (p : Number) → PointsTo g known f i p → PointsTo g later f i p
  points_again f i p points = record {
    has = points.has;
    says = says_again (Pointer f i) (pointer_number p) points.has points.says;
    inside = points.inside;
  }

  block_again : (f i : ℕ) (p : Number) → f < g.files → HasBlock g known f i p → HasBlock g later f i p
  block_again f i p file block = record {
    length = block.length;
    head = says_again (Head f) (block.length + 1) file block.head;
    below = block.below;
    pointer = points_again f i p block.pointer;
  }

  holes_again : (f from to : ℕ) → AreHoles g known f from to → AreHoles g later f from to
  holes_again f from to are i after before = points_again f i Hole (are i after before)

  remain_again : (f from to : ℕ) (r : Remain) → IsRemain g known f from to r → IsRemain g later f from to r
  remain_again f from to r is = record {
    after = is.after;
    before = is.before;
    shared = is.shared;
    pointer = points_again f r.index (Names r.number is.shared) is.pointer;
  }

  remains_again : (f from to : ℕ) (rs : List Remain) → AreRemains g known f from to rs → AreRemains g later f from to rs
  remains_again f from to rs are = record {
    first = are.first;
    more = are.more;
    are = are.are;
    few = are.few;
    each = λ k e lt. remain_again f from to (slice_index_or rs k e) (are.each k e lt);
    ascending = are.ascending;
    together = are.together;
  }

  reads_back : (image : Image) → Reads g later image → Reads g known image
  reads_back image reads x n has says = reads x n has (says_again x n has says)

  -- so what a call does by them is right still
  sight_again : (call : FileCall) (sight : Sight) → file_of call < g.files → IsSight g known call sight → IsSight g later call sight
  sight_again call (sights.Needs t) file is = (is.0, is.1, same t (file_table_has g t is.0) ∙ is.2, is.3)
  sight_again (Plain call) (sights.Settled reply) file is = (is.0, λ image super reads. is.1 image super (reads_back image reads))
  sight_again (Plain (calls.Read f i)) (sights.Shows d) file is = (is.0, block_again f i (Names d is.0) file is.1)
  sight_again (Plain (calls.Write f i block)) (sights.Own d) file is = block_again f i (Names d false) file is
  sight_again (Plain (calls.Write f i block)) (sights.Fresh None) file is = block_again f i Hole file is
  sight_again (Plain (calls.Write f i block)) (sights.Fresh (Some d)) file is = block_again f i (Names d true) file is
  sight_again (Plain (calls.Punch f i)) (sights.Drops d) file is = (is.0, block_again f i (Names d is.0) file is.1)
  sight_again (Plain (calls.Create f)) (sights.Heads m) file is = (says_again (Head f) 0 file is.0, is.1)
  sight_again (Plain (calls.Remove f)) (sights.Heads m) file is = (is.0, says_again (Head f) (is.0 + 1) file is.1, is.2)
  sight_again (Plain (calls.Size f k)) (sights.Heads m) file is =
      (is.0, says_again (Head f) (is.0 + 1) file is.1, is.2, is.3, holes_again f is.0 k is.4)
  sight_again (Plain (calls.Size f k)) (sights.Purges rs) file is =
      (is.0, says_again (Head f) (is.0 + 1) file is.1, is.2, remains_again f is.0 k rs is.3)
  sight_again (Close f) (sights.Purges rs) file is = (is.0, says_again (Head f) is.0 file is.1, remains_again f _ _ rs is.2)
  sight_again (Close f) sights.Clear file is = (is.0, says_again (Head f) is.0 file is.1, holes_again f _ _ is.2)
  sight_again call sight file is = absurd is

-- what is kept for a host stays where another one changed its own
module _ (x h : ℕ) (c d : Cache) (leaves : LeavesOthers x c d) (apart : h ≢ x) where
  kept_in : h < c.volume.hosts → (t : Table) → HasTable c.volume t → kept_at d h t ≡ kept_at c h t
  kept_in host (tables.File f) has = leaves.others h (tables.File f) (host, has) apart
  kept_in host (tables.More f u) has = leaves.others h (tables.More f u) (host, has) apart
  kept_in host (tables.Group r) has = refl
  kept_in host (tables.Part p) has = refl

  pub kept_same : (g : Geometry) → c.volume ≡ g → h < g.hosts → (t : Table) → HasTable g t → kept_at d h t ≡ kept_at c h t
  kept_same g volume = subst (λ (k : Geometry). h < k.hosts → (t : Table) → HasTable k t → kept_at d h t ≡ kept_at c h t) volume kept_in

  pub cached_again : (v : WorldView) → h < v.locks.geometry.hosts → IsCached v c h → IsCached v d h
  cached_again v host cached = record {
    volume = leaves.volume ∙ cached.volume;
    known = λ t p file kept.
        cached.known t p file
        (sym (kept_same v.locks.geometry cached.volume host t (file_table_has v.locks.geometry t file)) ∙ kept);
  }

-- so does what stands at each stage of its plan
module _ (v : WorldView) (c d : Cache) (core : Core) (x : ℕ) (leaves : LeavesOthers x c d) (apart : core.host ≢ x) where
  outside_again : IsOutside v c core → IsOutside v d core
  outside_again is = record {
    host = is.host;
    file = is.file;
    ready = is.ready;
    none = is.none;
    cached = cached_again x core.host c d leaves apart v is.host is.cached;
    comes = is.comes;
  }

  base_again : IsBase v c core → IsBase v d core
  base_again is = record {
    host = is.host;
    file = is.file;
    joined = is.joined;
    hold = is.hold;
    taking = is.taking;
    cached = cached_again x core.host c d leaves apart v is.host is.cached;
  }

  open_again : IsOpenBase v c core → IsOpenBase v d core
  open_again is = record { base = base_again is.base; empty = is.empty; comes = is.comes }

  seen_again : IsOpenBase v c core → (sight : Sight) → IsSight v.locks.geometry (kept_at c core.host) core.call sight
      → IsSight v.locks.geometry (kept_at d core.host) core.call sight
  seen_again is sight saw =
      sight_again v.locks.geometry (kept_at c core.host) (kept_at d core.host)
      (kept_same x core.host c d leaves apart v.locks.geometry is.base.cached.volume is.base.host) core.call sight is.base.file saw

  fresh_again : (fresh : Fresh) → IsFreshBlock v c core fresh → IsFreshBlock v d core fresh
  fresh_again fresh is = record {
    comes = open_again is.comes;
    sight = seen_again is.comes (sights.Fresh (shared_of fresh.left)) is.sight;
    block = is.block;
    left = is.left;
  }

  -- a plan stands where another host changed what is kept for itself
  pub plan_kept : (stage : Stage) → At v c core stage → At v d core stage
  plan_kept stages.Asks at = (outside_again at.0, at.1)
  plan_kept stages.Begins at = outside_again at
  plan_kept (stages.Writes t) at = (outside_again at.0, at.1, at.2)
  plan_kept (stages.Reads t) at = (outside_again at.0, at.1, at.2)
  plan_kept (stages.GivesBack t) at = (outside_again at.0, at.1, at.2)
  plan_kept stages.Sees at = (open_again at.0, at.1)
  plan_kept (stages.Searches old shared search) at = (open_again at.0, at.1, seen_again at.0 (sights.Fresh old) at.2, at.3)
  plan_kept (stages.LocksShared old e group) at = (open_again at.0, seen_again at.0 (sights.Fresh (Some old)) at.1, at.2, at.3, at.4)
  plan_kept (stages.FetchesShared old e group) at = (open_again at.0, seen_again at.0 (sights.Fresh (Some old)) at.1, at.2, at.3, at.4)
  plan_kept (stages.Puts fresh) at = fresh_again fresh at
  plan_kept (stages.Fills fresh) at = (fresh_again fresh at.0, at.1)
  plan_kept (stages.Locks change) at = (open_again at.0, at.1, seen_again at.0 (sight_of change) at.2)
  plan_kept (stages.Fetches change) at = (open_again at.0, at.1, seen_again at.0 (sight_of change) at.2)
  plan_kept (stages.Changes change group) at = (open_again at.0, seen_again at.0 (sight_of change) at.1, at.2, at.3)
  plan_kept (stages.Applies a) at = (base_again at.0, at.1, at.2)
  plan_kept stages.Frees at = (base_again at.0, at.1, at.2, at.3)
  plan_kept stages.Over at = absurd at

-- a step of another host leaves what it owes to others: its calls leave what they rely on, and it keeps no table for them
module _ (v w : WorldView) (c d : Cache) (x : ℕ) (is : Consistent v.locks) (others : Others x v w) (leaves : LeavesOthers x c d) where
  -- a plan stands over it, and the notes of its command agree with it
  pub plan_lasts : (command : Command) (core : Core) (stage : Stage) (n : Notes) → core.host ≢ x
      → At v c core stage × NotedAt command v core stage n → At w d core stage × NotedAt command w core stage n
  plan_lasts command core stage n apart (at, noted) = (
    plan_kept w c d core x leaves apart stage (plan_still v w c core x is others apart stage at),
    agrees_still command v w core others.locks.lasts.geometry (others.locks.memories core.host apart) stage n noted,
  )

  -- and a host between two commands rests still, with what is kept for it
  pub rest_lasts : (h : ℕ) (n : Notes) → h ≢ x → h < v.locks.geometry.hosts → IsAtRest v h n × IsCached v c h
      → IsAtRest w h n × IsCached w d h
  rest_lasts h n apart host (rest, cached) = (
    record {
      remembered = remembered_over v w h n others.locks.lasts.geometry (others.locks.memories h apart) rest.remembered;
      rests = rests rest.rests;
      between = rest.between;
    },
    cached_again x h c d leaves apart w (subst (λ (g : Geometry). h < g.hosts) (sym others.locks.lasts.geometry) host)
        (cached_still v w c h x others apart cached),
  )
    where
      rests : IsReady v h ⊎ (host_at v.locks h ≡ dropped) → IsReady w h ⊎ (host_at w.locks h ≡ dropped)
      rests (inl ready) = inl (ready_still v w h x is others apart ready)
      rests (inr out) = inr (others.locks.memories h apart ∙ out)
