-- What each step of a change did: the group of its data blocks was locked, its table read, or its record written.
use Rattle.std.proofs.Common.{◌≡◌, ◌/◌, List, [], ◌∷◌, None, refl, ap, sym, subst, ◌∙◌}
use Rattle.vol_base.specs.declared.answer.Step.{Step}
use Rattle.vol_base.specs.declared.command.Command.{Command}
use Rattle.vol_layout.specs.declared.field.Edit.{Edit}
use Rattle.vol_layout.specs.declared.field.Field.TheVariants.{Count}
use Rattle.vol_layout.specs.declared.kind.Resource.{Resource}
use Rattle.vol_layout.specs.declared.kind.Resource.TheVariants.{Group}
use Rattle.vol_layout.specs.Fields.{table_of}
use Rattle.vol_layout.specs.Ranges.{per_table}
use Rattle.disk_locks.specs.Consistent.{Consistent}
use Rattle.held_cache.specs.Kept.{Cache}
use Rattle.host_facts.specs.Facts.Fact.{RecordIs, TableIs}
use Rattle.host_facts.specs.Views.{WorldView}
use Rattle.host_runs.specs.Notes.{Notes}
use Rattle.plan_parts.specs.Fetched.{Fetched, LockTaken}
use Rattle.plan_parts.specs.QuietCalls.{Noted}
use Rattle.plan_parts.specs.declared.applying.Applying.{Applying}
use Rattle.plan_parts.specs.declared.kept.Kept.{Kept}
use Rattle.plan_parts.specs.declared.outcome.Outcome.{Outcome}
use Rattle.file_plans.specs.Commits.{HasCommitted}
use Rattle.file_plans.specs.Stands.{At, IsOpenBase, NotedAt, first_of_change, sight_of}
use Rattle.file_plans.specs.Went.{Went}
use Rattle.file_plans.specs.declared.state.Core.{Core}
use Rattle.file_plans.specs.declared.stage.Change.{Change}
use Rattle.file_plans.specs.declared.stage.Stage.{Stage}
use Rattle.file_plans.specs.declared.stage.Stage.TheVariants as stages
use Rattle.file_plans.specs.laws.ApplyStageLaws.{base_relocked, goes_at}
use Rattle.file_plans.specs.laws.ChangeSightLaws.{change_no_write, may_open, runs_no_write}
use Rattle.file_plans.specs.laws.BaseLaws.{base_still, coming, still_looks}
use Rattle.file_plans.specs.laws.WriteBaseLaws.{sight_on}
use Rattle.file_plans.specs.laws.WriteEndLaws.{goes, goes_to, record_put, went_as}

-- the group was locked
pub change_locked : (v w : WorldView) (c : Cache) (core : Core) → Consistent v.locks → Consistent w.locks → (change : Change)
    (after : List Resource) → At v c core (stages.Locks change)
    → LockTaken core.host v w (Group (first_of_change change / per_table)) core.taken after
    → Went v w c core (coming core after core.outcome) (stages.Locks change) goes (stages.Fetches change)
change_locked v w c core is later change after at did =
    let relocks = did.gains.relocks in
    let base = base_relocked v w c core (Group (first_of_change change / per_table)) after tt relocks did.taking at.0.base in
    goes_to v w c core (stages.Locks change) is later at.0.base (λ command n noted. noted) did.event (coming core after core.outcome)
    (stages.Fetches change) refl refl base (
      record { base = base; empty = did.gains.facts (RecordIs []) at.0.empty; comes = at.0.comes },
      did.pushed ∙ ap (λ (ts : List Resource). Group (first_of_change change / per_table) ∷ ts) at.1,
      sight_on v w c core relocks.passes.geometry (λ t p. did.gains.facts (TableIs t p)) (sight_of change) at.2,
    )
    (λ command n noted. noted) did.quiet

-- its table was read
pub change_fetched : (v w : WorldView) (c : Cache) (core : Core) → Consistent v.locks → Consistent w.locks → (change : Change)
    (kept : Kept) → At v c core (stages.Fetches change) → Fetched core.host v w (table_of (Count (first_of_change change))) kept
    → Went v w c core core (stages.Fetches change) goes (stages.Changes change kept)
change_fetched v w c core is later change kept at did =
    let still = still_looks core.host v w did.looks in
    let base = base_still v w c core still core.outcome at.0.base in
    goes_at v w c c core (stages.Fetches change) is later at.0.base (λ command n noted. noted) did.event
    (λ command runs. did.quiet command core.outcome
    (λ f i n r write table full. runs_no_write command core.call f i n runs (change_no_write _ _ core.call change at.2) write))
    (stages.Changes change kept) base.cached (
      record { base = base; empty = did.looks.facts (RecordIs []) at.0.empty; comes = at.0.comes },
      sight_on v w c core still.geometry still.tables (sight_of change) at.2,
      did.is_kept,
      did.which,
    )
    (λ command n noted. noted)

-- the record of a purge was written
pub change_purged : (v w : WorldView) (c : Cache) (core : Core) (before : Stage) → Consistent v.locks → Consistent w.locks
    → (es : List Edit) (a : Applying) (step : Step) (after : Stage) → IsOpenBase v c core
    → ((command : Command) (n : Notes) → NotedAt command v core before n → Noted command core.host v core.outcome n)
    → HasCommitted core.host v w core.call None es a → step ≡ goes → after ≡ stages.Applies a → Went v w c core core before step after
change_purged v w c core before is later es a step after stands noted did is_step is_after =
    went_as v w c core core before step goes after (stages.Applies a) is_step is_after
    (subst (λ (o : Outcome). Went v w c core (coming core core.taken o) before goes (stages.Applies a)) (sym stands.comes)
    (record_put v w c core before is later core.call None es a stands noted refl (may_open core.call) tt did))
