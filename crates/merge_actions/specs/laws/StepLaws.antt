-- The call of a share or a promotion on the notes of a merge, and a step behind which the plan goes on.
use Rattle.std.proofs.Common.{◌≡◌, ◌<◌, ◌∙◌, ℕ, List, refl, sym, subst}
use Rattle.vol_base.specs.declared.command.Command.TheVariants.{Merge}
use Rattle.vol_layout.specs.declared.geometry.Geometry.{Geometry}
use Rattle.shared_disk.specs.Events.{Call, Event, Fences, Reads, Registers, Tests, Writes}
use Rattle.hint_blocks.specs.declared.entry.LogEntry.{LogEntry}
use Rattle.hint_blocks.specs.Entries.{IsLogEntry}
use Rattle.host_facts.specs.Views.{WorldView}
use Rattle.plan_parts.specs.QuietCalls.{Noted, QuietCall}
use Rattle.plan_parts.specs.declared.outcome.Outcome.{Outcome}
use Rattle.share_plans.specs.Closings.{KeepsHolds}
use Rattle.share_plans.specs.HintSpares.{SparesHints}
use Rattle.share_plans.specs.Went.{MayShare}
use Rattle.merge_steps.specs.Logs.{LogsRead, SparesLogs}
use Rattle.merge_steps.specs.Steps.{MergeCame}
use Rattle.merge_steps.specs.laws.CallLaws.{noted_spared, spares_hints}
use Rattle.merge_actions.specs.Acts.{At, StandsAt, left, left_at, outcome_at}
use Rattle.merge_actions.specs.Steps.{DoesAt, StepsTo}
use Rattle.merge_actions.specs.declared.acting.ActPlan.{ActPlan}
use Rattle.merge_actions.specs.declared.acting.Acting.{Acting}
use Rattle.merge_actions.specs.declared.acting.Came.TheVariants.{More}

-- a share and a promotion may be parts of a merge
pub may_merge : MayShare Merge
may_merge = (refl, λ f i n is. cc)

-- a call at no block of hints shows no log
spares_logs : (g : Geometry) (h : ℕ) (call : Call) → SparesHints g call → SparesLogs g h call
spares_logs g h (Reads place) spares = spares_hints g h place spares
spares_logs g h (Writes place block) spares = tt
spares_logs g h (Tests place old new) spares = spares_hints g h place spares
spares_logs g h (Registers of) spares = tt
spares_logs g h (Fences target) spares = tt

-- such a call, on the notes of a merge
pub merge_quiet : (v w : WorldView) (x h : ℕ) (e : Event) (was now : Outcome) → x ≡ h → SparesHints v.locks.geometry e.call
    → QuietCall Merge x v w e (Noted Merge x v was) (Noted Merge x w now) → (pending : List LogEntry) (r : LogsRead)
    → QuietCall Merge h v w e (MergeCame h v was pending r) (MergeCame h w now pending r)
merge_quiet v w x h e was now same spares quiet pending r =
    subst (λ (y : ℕ). QuietCall Merge y v w e (MergeCame y v was pending r) (MergeCame y w now pending r)) same
    (noted_spared x v w e was now r pending (spares_logs v.locks.geometry x e.call spares) quiet)

-- the plan goes on: what its host and its entry are stays
pub acts_on : (v w : WorldView) (old : ActPlan) (later : Acting) (e : Event) → At v old → KeepsHolds old.host v w
    → ((pending : List LogEntry) (r : LogsRead)
    → QuietCall Merge old.host v w e (MergeCame old.host v (outcome_at old.acting) pending r) (MergeCame old.host w (outcome_at later) pending r))
    → StandsAt w old.host old.entry old.action later → DoesAt v w e old old.acting (More later) → left_at later < left old
    → StepsTo v w old (More later)
acts_on v w old later e is keeps quiet stands does less = record {
  same = record { host = refl; entry = refl; action = refl };
  keeps = keeps;
  event = e;
  quiet = quiet;
  stands = record {
    host = subst (λ (g : Geometry). old.host < g.hosts) (sym keeps.geometry) is.host;
    joined = keeps.joined ∙ is.joined;
    range = subst (λ (g : Geometry). IsLogEntry g old.entry) (sym keeps.geometry) is.range;
    at = stands;
  };
  posted = tt;
  does = does;
  less = less;
}
