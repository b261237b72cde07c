-- No more turns are left of a plan over a step of another host.
use Rattle.std.proofs.Common.{arith, ◌≡◌, ◌≢◌, ◌<◌, ◌≤◌, ◌+◌, ℕ, Bool, true, false, List, [], ◌∷◌, length, Some, sym, subst, ◌∙◌}
use Rattle.std.specs.Prelude.{if◌then◌else◌}
use Rattle.vol_layout.specs.declared.field.Edit.{Edit}
use Rattle.vol_layout.specs.declared.geometry.Geometry.{Geometry}
use Rattle.vol_layout.specs.Ranges.{IsGeometry}
use Rattle.lock_store.specs.declared.host.HostState.{HostState}
use Rattle.lock_store.specs.Views.{host_at}
use Rattle.disk_locks.specs.Consistent.{Consistent}
use Rattle.held_cache.specs.Kept.{Cache, kept_at}
use Rattle.host_facts.specs.Others.{Others}
use Rattle.host_facts.specs.Views.{WorldView}
use Rattle.table_blocks.specs.Made.{made}
use Rattle.plan_parts.specs.TableOrder.{same_table}
use Rattle.plan_parts.specs.declared.kept.Kept.{Kept}
use Rattle.file_plans.specs.Begins.{has_hold}
use Rattle.file_plans.specs.Calls.{file_of}
use Rattle.file_plans.specs.Says.{Known}
use Rattle.file_plans.specs.Stands.{At}
use Rattle.file_plans.specs.Turns.{known_behind, round_turns, turns_at, turns_begun, turns_behind, turns_left, turns_seeing, turns_trying}
use Rattle.file_plans.specs.Went.{LeavesOthers}
use Rattle.file_plans.specs.Writes.{steps_left}
use Rattle.file_plans.specs.declared.stage.Stage.{Stage}
use Rattle.file_plans.specs.declared.stage.Stage.TheVariants as stages
use Rattle.file_plans.specs.declared.state.Core.{Core}
use Rattle.file_plans.specs.laws.KeptLaws.{kept_same}
use Rattle.file_plans.specs.laws.NeedLaws.{file_table_has}
use Rattle.file_plans.specs.laws.PlanLaws.{stands_at}
use Rattle.file_plans.specs.laws.TurnCountLaws.{IsKnownStill, behind_still, seeing_still}
use Rattle.file_plans.specs.laws.TurnKnownLaws.{rested_still}

-- what is known behind a record is known still
record_still : (g : Geometry) (known later : Known) (es : List Edit) (left : List Kept) → IsKnownStill g known later
    → IsKnownStill g (known_behind known es left) (known_behind later es left)
record_still g known later es [] still t p there is = still t p there is
record_still g known later es (k ∷ more) still t p there is = pick (same_table k.which t) (record_still g known later es more still t p there) is
  where
    pick : (b : Bool) → (known_behind known es more t ≡ Some p → known_behind later es more t ≡ Some p)
        → (if b then Some (made k.which es k.table) else known_behind known es more t) ≡ Some p
        → (if b then Some (made k.which es k.table) else known_behind later es more t) ≡ Some p
    pick true later known = known
    pick false later known = later known

-- no more turns are left where what is known is known still
module _ (g : Geometry) (m : HostState) (known later : Known) (core : Core) (range : IsGeometry g) (file : file_of core.call < g.files)
    (still : IsKnownStill g known later) where
  begun_still : turns_begun g m later core.call ≤ turns_begun g m known core.call
  begun_still = pick (has_hold core.call m)
    where
      pick : (b : Bool) → (if b then turns_seeing g later core.call else turns_trying g core.call)
          ≤ (if b then turns_seeing g known core.call else turns_trying g core.call)
      pick true = seeing_still g known later core.call range file still
      pick false = omega arith

  sum_still : (n a b : ℕ) → a ≤ b → n + a ≤ n + b
  sum_still n a b few = omega (arith, few)

  round_still : (stage : Stage) → round_turns g (steps_left g stage) + turns_behind g later core.call
      ≤ round_turns g (steps_left g stage) + turns_behind g known core.call
  round_still stage = sum_still (round_turns g (steps_left g stage)) _ _ (behind_still g known later core.call range file still)

  turns_still : (stage : Stage) → turns_left g m later core stage ≤ turns_left g m known core stage
  turns_still stages.Asks = omega arith
  turns_still stages.Begins = begun_still
  turns_still (stages.Writes t) = omega arith
  turns_still (stages.Reads t) = omega arith
  turns_still (stages.GivesBack t) = omega arith
  turns_still stages.Sees = seeing_still g known later core.call range file still
  turns_still (stages.Applies a) =
      sum_still (round_turns g (steps_left g (stages.Applies a))) _ _
      (rested_still g (known_behind known a.entry.edits a.left) (known_behind later a.entry.edits a.left) core.call core.outcome range file
      (record_still g known later a.entry.edits a.left still))
  turns_still stages.Frees = sum_still (length core.taken) _ _ (rested_still g known later core.call core.outcome range file still)
  turns_still stages.Over = omega arith
  turns_still (stages.Searches old shared search) = round_still (stages.Searches old shared search)
  turns_still (stages.LocksShared old d group) = round_still (stages.LocksShared old d group)
  turns_still (stages.FetchesShared old d group) = round_still (stages.FetchesShared old d group)
  turns_still (stages.Puts fresh) = round_still (stages.Puts fresh)
  turns_still (stages.Fills fresh) = round_still (stages.Fills fresh)
  turns_still (stages.Locks change) = round_still (stages.Locks change)
  turns_still (stages.Fetches change) = round_still (stages.Fetches change)
  turns_still (stages.Changes change group) = round_still (stages.Changes change group)

-- so it is over a step of another host
pub turns_last : (v w : WorldView) (c d : Cache) (core : Core) (x : ℕ) → Consistent v.locks → Others x v w → LeavesOthers x c d
    → core.host ≢ x → (stage : Stage) → At v c core stage → turns_at w d core stage ≤ turns_at v c core stage
turns_last v w c d core x is others leaves apart stage at =
    let g = v.locks.geometry in
    let stands = stands_at v c core stage at in
    let kept = kept_same x core.host c d leaves apart g stands.cached.volume stands.host in
    subst (λ (h : Geometry). turns_left h (host_at w.locks core.host) (kept_at d core.host) core stage ≤ turns_at v c core stage)
    (sym others.locks.lasts.geometry)
    (subst (λ (m : HostState). turns_left g m (kept_at d core.host) core stage ≤ turns_at v c core stage)
    (sym (others.locks.memories core.host apart))
    (turns_still g (host_at v.locks core.host) (kept_at c core.host) (kept_at d core.host) core is.geometry stands.file
    (λ t p there known. kept t (file_table_has g t there) ∙ known) stage))
