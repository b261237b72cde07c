-- Where a plan begins, how many steps come, and what a merge has come to.
use Rattle.std.proofs.Common.{◌≡◌, ◌≤◌, ℕ, None, Option, Some, refl, arith}
use Rattle.hint_blocks.specs.declared.entry.LogEntry.{LogEntry}
use Rattle.host_facts.specs.Views.{WorldView}
use Rattle.plan_parts.specs.QuietCalls.{placed_of}
use Rattle.share_plans.specs.Promotions as promotion
use Rattle.share_plans.specs.Stands.{IsHost}
use Rattle.share_plans.specs.Went.{answer_at, outcome_by}
use Rattle.share_plans.specs.declared.promotion.Promoted.{Promoted}
use Rattle.share_plans.specs.declared.promotion.Promoted.TheVariants as promoted
use Rattle.share_plans.specs.declared.sharing.Place.TheVariants.{Arena}
use Rattle.share_plans.specs.declared.sharing.Shared.{Shared}
use Rattle.share_plans.specs.declared.sharing.Shared.TheVariants as shared
use Rattle.share_plans.specs.laws.PromoteStays.{promote_begins}
use Rattle.share_plans.specs.laws.ShareStays.{share_begins}
use Rattle.merge_decide.specs.declared.action.Action.{Action}
use Rattle.merge_decide.specs.declared.action.Action.TheVariants as actions
use Rattle.merge_actions.specs.Acts.{At, Calls, IsHeld, MayAct, StandsAt, begun, left_at, outcome_at}
use Rattle.merge_actions.specs.declared.acting.Acting.{Acting}
use Rattle.merge_actions.specs.declared.acting.Acting.TheVariants.{Promotes, Shares, SharesOther}

-- a plan that begins
module _ (v : WorldView) (h : ℕ) (entry : LogEntry) where
  host_of : (action : Action) → MayAct v h entry action → IsHeld v h entry.file → IsHost v h entry.file
  host_of action is held = record { host = is.merging.host; file = is.range.0; joined = is.merging.ready.joined; held = held }

  begun_at : (action : Action) → MayAct v h entry action → Calls action → StandsAt v h entry action (begun h entry action)
  begun_at (actions.Share s) is calls = record {
    host = refl;
    of = (refl, refl, refl);
    slot = let below = is.asks.1 in omega (arith, below);
    at = share_begins v h entry.file entry.index (Arena s) is.merging.ready
        (record { is_host = host_of (actions.Share s) is is.asks.0; from = is.asks.1 });
  }
  begun_at (actions.Promote f i) is calls = record {
    file = f;
    index = i;
    of = refl;
    other = is.asks.1;
    host = refl;
    here = (refl, refl);
    at = promote_begins v h entry.file entry.index is.merging.ready (host_of (actions.Promote f i) is is.asks.0);
  }
  begun_at (actions.Post s) is calls =
      record { ready = is.merging.ready; file = is.range.0; range = (is.range.1, is.asks); of = refl }
  begun_at action is calls = absurd calls

  pub act_begins : (action : Action) → MayAct v h entry action → Calls action
      → At v (record { host = h; entry = entry; action = action; acting = begun h entry action })
  act_begins action is calls = record {
    host = is.merging.host;
    joined = is.merging.ready.joined;
    range = is.range;
    at = begun_at action is calls;
  }

-- at most 36 steps come
pub act_few : (h : ℕ) (entry : LogEntry) (action : Action) → left_at (begun h entry action) ≤ 36
act_few h entry (actions.Share s) = omega arith
act_few h entry (actions.Promote f i) = omega arith
act_few h entry (actions.Post s) = omega arith
act_few h entry action = omega arith

-- no reply has its place in what a merge has come to
share_placed : (answer : Option Shared) → placed_of (outcome_by answer) ≡ None
share_placed (Some (shared.Busy key)) = refl
share_placed answer = refl

promote_placed : (answer : Option Promoted) → placed_of (promotion.outcome_by answer) ≡ None
promote_placed (Some (promoted.Busy key)) = refl
promote_placed answer = refl

pub act_placed : (acting : Acting) → placed_of (outcome_at acting) ≡ None
act_placed (Shares plan) = share_placed (answer_at plan.stage)
act_placed (SharesOther plan t) = share_placed (answer_at plan.stage)
act_placed (Promotes plan) = promote_placed (promotion.answer_at plan.stage)
act_placed acting = refl
