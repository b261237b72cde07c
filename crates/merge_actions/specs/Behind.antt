-- What comes behind a step of a share and of a promotion.
use Rattle.std.specs.Prelude.{ℕ, None, Option, Some, if◌then◌else◌}
use Rattle.vol_layout.specs.declared.kind.Resource.TheVariants.{File}
use Rattle.hint_blocks.specs.declared.entry.LogEntry.{LogEntry}
use Rattle.lock_store.specs.Memories.{holds}
use Rattle.lock_store.specs.Views.{host_at}
use Rattle.host_facts.specs.Views.{WorldView}
use Rattle.share_plans.specs.declared.promote.PromotePlan.{PromotePlan}
use Rattle.share_plans.specs.declared.promotion.Promoted.{Promoted}
use Rattle.share_plans.specs.declared.promotion.Promoted.TheVariants as answers
use Rattle.share_plans.specs.declared.share.SharePlan.{SharePlan}
use Rattle.share_plans.specs.declared.sharing.Shared.{Shared}
use Rattle.share_plans.specs.declared.sharing.Shared.TheVariants as shared
use Rattle.merge_decide.specs.declared.action.Action.{Action}
use Rattle.merge_decide.specs.declared.action.Action.TheVariants as actions
use Rattle.merge_decide.specs.declared.outcome.Outcome.{Outcome}
use Rattle.merge_decide.specs.declared.outcome.Outcome.TheVariants as outcomes
use Rattle.merge_decide.specs.declared.outcome.PromoteOutcome.TheVariants as promoted
use Rattle.merge_decide.specs.declared.outcome.ShareOutcome.{ShareOutcome}
use Rattle.merge_decide.specs.declared.outcome.ShareOutcome.TheVariants as shares
use Rattle.merge_actions.specs.Acts.{share_of, sharing_of, slot_in}
use Rattle.merge_actions.specs.declared.acting.Acted.{Acted}
use Rattle.merge_actions.specs.declared.acting.Acted.TheVariants.{Busy, Done}
use Rattle.merge_actions.specs.declared.acting.Acting.{Acting}
use Rattle.merge_actions.specs.declared.acting.Acting.TheVariants.{Over, Promotes, Reads, SharesOther}
use Rattle.merge_actions.specs.declared.acting.Came.{Came}
use Rattle.merge_actions.specs.declared.acting.Came.TheVariants.{Ended, More}

-- what is done next, and what came of the action
abbrev pub acting_behind : Came → Acting
acting_behind (More acting) = acting
acting_behind (Ended acted) = Over

abbrev pub acted_of : Came → Option Acted
acted_of (More acting) = None
acted_of (Ended acted) = Some acted

abbrev pub came_of : Acting → Option Acted → Came
came_of acting None = More acting
came_of acting (Some acted) = Ended acted

-- what a share ends with: that of the entry's place, or of the other one where the entry's was promoted to this slot
abbrev pub share_outcome : Option ℕ → ShareOutcome → Outcome
share_outcome None outcome = outcomes.Shared outcome
share_outcome (Some t) outcome = outcomes.Promoted (promoted.Shared outcome)

abbrev pub share_ended : Option ℕ → ShareOutcome → Acted
share_ended to outcome = Done (share_outcome to outcome) (slot_in to)

-- behind a step of a share
abbrev pub behind_share : Option ℕ → SharePlan → Option Shared → Came
behind_share to plan None = More (sharing_of to plan)
behind_share to plan (Some (shared.Busy key)) = Ended (Busy key)
behind_share to plan (Some shared.Linked) = Ended (share_ended to shares.Linked)
behind_share to plan (Some shared.Already) = Ended (share_ended to shares.Already)
behind_share to plan (Some (shared.Differs at)) = Ended (share_ended to shares.Differs)
behind_share to plan (Some shared.NoSource) = Ended (share_ended to shares.NoSource)
behind_share to plan (Some shared.Hole) = Ended (share_ended to shares.Hole)

-- once the entry's place was promoted to a slot: the other place shares it where the host holds its file, and else the file's host is asked to
abbrev pub other_of : WorldView → ℕ → LogEntry → Action → ℕ → Came
other_of w h entry (actions.Promote f i) t =
    if holds (host_at w.locks h) (File f) then More (SharesOther (share_of h f i t) t)
    else More (Reads f (record { digest = entry.digest; index = i; slot = t }))
other_of w h entry action t = More Over

-- behind a step of a promotion
abbrev pub behind_promotion : WorldView → ℕ → LogEntry → Action → PromotePlan → Option Promoted → Came
behind_promotion w h entry action plan None = More (Promotes plan)
behind_promotion w h entry action plan (Some (answers.Busy key)) = Ended (Busy key)
behind_promotion w h entry action plan (Some (answers.Promoted t)) = other_of w h entry action t
behind_promotion w h entry action plan (Some answers.Marked) = Ended (Done (outcomes.Promoted promoted.Marked) 0)
behind_promotion w h entry action plan (Some answers.Hole) = Ended (Done (outcomes.Promoted promoted.Hole) 0)
behind_promotion w h entry action plan (Some answers.PartFull) = Ended (Done (outcomes.Promoted promoted.PartFull) 0)
