-- What stands of a host, and its notes, stay over a turn of another one.
use Rattle.std.proofs.Common.{◌≡◌, ◌≢◌, ◌<◌, ℕ, Option, Some, None, sym, subst, ◌∙◌}
use Rattle.vol_base.specs.declared.command.Command.{Command}
use Rattle.vol_layout.specs.declared.geometry.Geometry.{Geometry}
use Rattle.disk_locks.specs.Consistent.{Consistent}
use Rattle.file_plans.specs.Bases.{IsCached}
use Rattle.file_plans.specs.Went.{LeavesOthers}
use Rattle.file_plans.specs.laws.BaseLaws.{cached_still}
use Rattle.file_plans.specs.laws.KeptLaws.{cached_again, plan_kept}
use Rattle.file_plans.specs.laws.PlanStillLaws.{agrees_still, plan_still}
use Rattle.held_cache.specs.Kept.{Cache}
use Rattle.host_facts.specs.Others.{Others}
use Rattle.host_facts.specs.Views.{WorldView}
use Rattle.host_runs.specs.Awaited.{wanted}
use Rattle.host_runs.specs.Notes.{Notes}
use Rattle.recover_plan.specs.HostStays.{HostStays}
use Rattle.recover_plan.specs.laws.HostStaysLaws.{host_stays}
use Rattle.share_plans.specs.laws.GatheringStays.{collect_noted_still, collect_still}
use Rattle.hint_plans.specs.laws.StillLaws as still
use Rattle.merge_plan.specs.laws.StillLaws as merges
use Rattle.serve_plan.specs.laws.StillLaws as serves
use Rattle.cluster.specs.Carries.{IsCarried, IsWriteNoted}
use Rattle.cluster.specs.Plans.{IsResting}
use Rattle.cluster.specs.declared.carried.Carried.{Carried}
use Rattle.cluster.specs.Seats.{PlanNotedOf, PlanStandsOf}
use Rattle.cluster.specs.declared.plan.Plan.{Plan}
use Rattle.cluster.specs.declared.plan.Plan.TheVariants.{Collects, Files, Hints, Merges, Serves, Slots}

module _ (v w : WorldView) (c d : Cache) (h x : ℕ) (consistent : Consistent v.locks) (others : Others x v w) (leaves : LeavesOthers x c d)
    (apart : h ≢ x) (below : h < v.locks.geometry.hosts) (carried : Carried) where
  stays : HostStays v w h
  stays = host_stays v w h x consistent others apart

  geometry : w.locks.geometry ≡ v.locks.geometry
  geometry = others.locks.lasts.geometry

  cached : IsCached v c h → IsCached w d h
  cached is = cached_again x h c d leaves apart w (subst (λ (g : Geometry). h < g.hosts) (sym geometry) below) (cached_still v w c h x others apart is)

  carried_stays : IsCarried v h carried → IsCarried w h carried
  carried_stays is = record { watched = stays.watched carried.watch is.watched; volume = is.volume ∙ sym geometry }

  rests_stay : IsResting v c h carried → IsResting w d h carried
  rests_stay is = record { watched = stays.watched carried.watch is.watched; volume = is.volume ∙ sym geometry; cached = cached is.cached }

  pub stands_stay : (command : Command) (plan : Option Plan) → PlanStandsOf command v c h carried plan → PlanStandsOf command w d h carried plan
  stands_stay command None rests = rests_stay rests
  stands_stay command (Some (Files plan)) (of, at) = (
    of,
    (
      plan_kept w c d plan.core x leaves (λ same. apart (sym of.0 ∙ same)) plan.stage
          (plan_still v w c plan.core x consistent others (λ same. apart (sym of.0 ∙ same)) plan.stage at.0),
      carried_stays at.1,
    ),
  )
  stands_stay command (Some (Slots plan)) (of, at) = (of, (stays.plan carried.watch plan.doing at.0, cached at.1, at.2 ∙ sym geometry))
  stands_stay command (Some (Collects plan)) (of, at) = (
    of,
    (
      collect_still v w plan.core x consistent others (λ same. apart (sym of.0 ∙ same)) plan.stage at.0,
      rests_stay at.1,
    ),
  )
  stands_stay command (Some (Hints plan)) (of, at) =
      (of, (still.plan_still v w h x consistent others apart carried.pending plan.doing at.0, rests_stay at.1))
  stands_stay command (Some (Serves plan)) (of, at) =
      (of, (serves.plan_still v w h x consistent others apart plan.counts plan.doing at.0, rests_stay at.1))
  stands_stay command (Some (Merges plan)) (of, at) =
      (of, (merges.plan_still v w h x consistent others apart carried.room plan.doing at.0, rests_stay at.1))

  pub noted_stays : (command : Command) (plan : Option Plan) (n : Notes) → PlanStandsOf command v c h carried plan
      → PlanNotedOf command v h carried plan n → PlanNotedOf command w h carried plan n
  noted_stays command None n stands noted =
      let rests = stays.rests carried.watch n (record { rests = noted.rests; watch_is = noted.watch_is }) in
      record { rests = rests.rests; watch_is = rests.watch_is; pending_is = noted.pending_is }
  noted_stays command (Some (Files plan)) n (of, at) (noted, looks, waits, pending, written) = (
    agrees_still command v w plan.core geometry (others.locks.memories plan.core.host (λ same. apart (sym of.0 ∙ same))) plan.stage n noted,
    looks,
    subst (λ (g : Geometry). wanted g command n.calls n.digests n.asks ≡ None) (sym geometry) waits,
    pending,
    subst (λ (g : Geometry). IsWriteNoted g command carried.digest n) (sym geometry) written,
  )
  noted_stays command (Some (Slots plan)) n stands noted = (stays.agrees carried.watch plan.doing n noted.0, noted.1)
  noted_stays command (Some (Collects plan)) n (of, at) (noted, looks, pending) = (
    collect_noted_still v w plan.core geometry (others.locks.memories plan.core.host (λ same. apart (sym of.0 ∙ same))) plan.stage n noted,
    looks,
    pending,
  )
  noted_stays command (Some (Hints plan)) n (of, at) (noted, looks) =
      (still.agrees_still v w h x consistent others apart carried.pending.entries plan.doing n noted, looks)
  noted_stays command (Some (Serves plan)) n (of, at) (noted, looks, pending) =
      (serves.agrees_still v w h x consistent others apart plan.counts plan.doing n noted, looks, pending)
  noted_stays command (Some (Merges plan)) n (of, at) (noted, looks) =
      (merges.agrees_still v w h x consistent others apart carried.pending.entries carried.room plan.doing n noted, looks)
