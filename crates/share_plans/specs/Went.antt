-- What a step of a share did.
use Rattle.std.specs.Prelude.{◌≡◌, ◌≢◌, ◌<◌, ◌+◌, ◌/◌, ◌==◌, ◌-◌, ℕ, false, true, List, None, Option, Some, if◌then◌else◌}
use Rattle.vol_base.specs.declared.command.Command.{Command}
use Rattle.vol_base.specs.declared.command.Command.TheVariants.{Write}
use Rattle.vol_layout.specs.declared.kind.Resource.{Resource}
use Rattle.vol_layout.specs.Ranges.{per_table}
use Rattle.shared_disk.specs.Events.{Event}
use Rattle.host_runs.specs.Tries.{frees_locks}
use Rattle.host_facts.specs.Views.{WorldView}
use Rattle.plan_parts.specs.QuietCalls.{Noted, QuietCall}
use Rattle.plan_parts.specs.Steps.{IsReady}
use Rattle.plan_parts.specs.declared.kept.Kept.{Kept}
use Rattle.plan_parts.specs.declared.outcome.Outcome.{Outcome}
use Rattle.plan_parts.specs.declared.outcome.Outcome.TheVariants as outcomes
use Rattle.share_plans.specs.Causes.{HasAnswered}
use Rattle.share_plans.specs.Closings.{KeepsHolds, rest_of}
use Rattle.share_plans.specs.HintSpares.{SparesHints}
use Rattle.share_plans.specs.Lefts.{left, left_behind}
use Rattle.share_plans.specs.Stands.{At, HasPlaces}
use Rattle.share_plans.specs.declared.closing.Closing.{Closing}
use Rattle.share_plans.specs.declared.sharing.Place.{Place}
use Rattle.share_plans.specs.declared.sharing.Place.TheVariants.{Arena, File}
use Rattle.share_plans.specs.declared.sharing.Shared.{Shared}
use Rattle.share_plans.specs.declared.sharing.Shared.TheVariants as answers
use Rattle.share_plans.specs.declared.sight.Sight.{Sight}
use Rattle.share_plans.specs.declared.sight.Sight.TheVariants as sights
use Rattle.share_plans.specs.declared.stage.Came.{Came}
use Rattle.share_plans.specs.declared.stage.Came.TheVariants.{Answered, More}
use Rattle.share_plans.specs.declared.stage.Core.{Core}
use Rattle.share_plans.specs.declared.stage.Pair.{Pair}
use Rattle.share_plans.specs.declared.stage.Stage.{Stage}
use Rattle.share_plans.specs.declared.stage.Stage.TheVariants as stages

-- the commands of which a share may be a part: it is no write, and frees no dead host's locks
abbrev pub MayShare : Command → Type 0
MayShare command = (frees_locks command ≡ false) × ((f i n : ℕ) → command ≢ Write f i n)

-- the answer that is known at a stage, and that a step came to
abbrev pub answer_at : Stage → Option Shared
answer_at (stages.Closes closing answer) = Some answer
answer_at stage = None

abbrev pub answer_of : Came → Option Shared
answer_of (More stage) = answer_at stage
answer_of (Answered answer) = Some answer

-- what a command has come to by the answer of its share: nothing, but where a lock was busy
abbrev pub outcome_by : Option Shared → Outcome
outcome_by (Some (answers.Busy key)) = outcomes.Busy key
outcome_by answer = outcomes.Open

-- the share stands where it goes on; where it is answered, the host has no record that stands, and holds no part and no group
abbrev pub StandsBehind : WorldView → Core → Came → Type 0
StandsBehind w core (More stage) = At w core stage
StandsBehind w core (Answered answer) = HasPlaces w core.host core.file core.source × IsReady w core.host

-- the share is of the same host, place and source
pub record IsSame (old new : Core) : Type 0 where
  pub host : new.host ≡ old.host
  pub file : new.file ≡ old.file
  pub index : new.index ≡ old.index
  pub source : new.source ≡ old.source

-- a step made its one call, at no block of hints, which changed no file: its turn may make it in a command of which the share is a part, and the notes agree
-- behind it, with what the share then came to
pub record Went (v w : WorldView) (old new : Core) (stage : Stage) (came : Came) : Type 0 where
  pub same : IsSame old new
  pub keeps : KeepsHolds old.host v w
  pub stands : StandsBehind w new came
  pub answers_are : HasAnswered v w old stage (answer_at stage) (answer_of came)
  pub less : left_behind new came < left old stage
  pub event : Event
  pub spares : SparesHints v.locks.geometry event.call
  pub quiet : (command : Command) → MayShare command
      → QuietCall command old.host v w event (Noted command old.host v (outcome_by (answer_at stage)))
      (Noted command old.host w (outcome_by (answer_of came)))

-- what a step came to, by the stage and the answer behind it
abbrev pub came_of : Stage → Option Shared → Came
came_of stage None = More stage
came_of stage (Some answer) = Answered answer

abbrev pub result_of : Came → Option Shared
result_of (More stage) = None
result_of (Answered answer) = Some answer

-- what comes next once the tables were looked at
abbrev pub behind_look : Sight → Came
behind_look (sights.Needs t) = More (stages.Reads t)
behind_look (sights.Answers answer) = Answered answer
behind_look (sights.Peeks own) = More (stages.Peeks own)
behind_look (sights.Pairs pair) = More (stages.Locks pair)

-- behind the first read of a slot
abbrev pub behind_peek : ℕ → ℕ → Came
behind_peek own number =
    if number == 0 then Answered answers.NoSource
    else (if number - 1 == own then Answered answers.Already
    else More (stages.Locks (record { own = own; source = number - 1; shared = true })))

-- behind the last lock
abbrev pub behind_locks : Place → Pair → Came
behind_locks (File f i) pair = More (stages.ReadsSource pair)
behind_locks (Arena s) pair = More (stages.PeeksAgain pair)

-- behind the first lock
abbrev pub behind_first : Place → Pair → Came
behind_first source pair =
    if pair.own / per_table == pair.source / per_table then behind_locks source pair else More (stages.LocksSource pair)

-- once an answer is known, by what is left of the transaction
abbrev pub closed_by : Option Closing → Shared → Came
closed_by None answer = Answered answer
closed_by (Some closing) answer = More (stages.Closes closing answer)

abbrev pub ended_by : List Resource → Shared → Came
ended_by taken answer = closed_by (rest_of taken) answer

-- behind the second read of a slot
abbrev pub behind_again : List Resource → Pair → ℕ → Came
behind_again taken pair number =
    if number == pair.source + 1 then More (stages.ReadsSource pair) else ended_by taken answers.NoSource

-- behind the comparison, by the first place at which the blocks differ
abbrev pub behind_compare : List Resource → Pair → Option ℕ → Came
behind_compare taken pair None = More (stages.CountsOwn pair)
behind_compare taken pair (Some at) = ended_by taken (answers.Differs at)

-- behind the read of the first group's table
abbrev pub behind_counts : Pair → Kept → Came
behind_counts pair group =
    if pair.own / per_table == pair.source / per_table then More (stages.Commits pair group None) else More (stages.CountsSource pair group)
