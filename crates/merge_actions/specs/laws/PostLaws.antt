-- The steps by which a request is posted.
use Rattle.std.proofs.Common.{◌≡◌, ◌<◌, ℕ, Some, refl, sym, subst, arith}
use Rattle.vol_base.specs.declared.block.Block.{Block}
use Rattle.vol_layout.specs.declared.geometry.Geometry.{Geometry}
use Rattle.vol_layout.specs.declared.kind.Kind.TheVariants as kinds
use Rattle.vol_layout.specs.Places.{place_of}
use Rattle.vol_layout.specs.Ranges.{arena_slots}
use Rattle.shared_disk.specs.Events.{Call, Reply, Shows, Tests, event}
use Rattle.shared_disk.specs.Events as calls
use Rattle.hint_blocks.specs.declared.entry.LogEntry.{LogEntry}
use Rattle.hint_blocks.specs.declared.entry.Request.{Request}
use Rattle.hint_blocks.specs.Entries.{IsRequest}
use Rattle.lock_store.specs.Views.{key_at}
use Rattle.host_facts.specs.Views.{WorldView}
use Rattle.plan_parts.specs.Steps.{IsReady}
use Rattle.share_plans.specs.Closings.{KeepsHolds}
use Rattle.share_plans.specs.laws.ClosingLaws.{keeps_memory}
use Rattle.merge_decide.specs.Counted.{EndsWith}
use Rattle.merge_decide.specs.declared.action.Action.{Action}
use Rattle.merge_decide.specs.declared.action.Action.TheVariants as actions
use Rattle.merge_shelves.specs.Changes.{requested_with}
use Rattle.merge_steps.specs.Logs.{LogsRead, unread}
use Rattle.merge_steps.specs.Steps as merging
use Rattle.merge_steps.specs.Steps.{IsMerging, IsSwapReply}
use Rattle.merge_steps.specs.laws.CallLaws.{merging_on}
use Rattle.merge_actions.specs.Acts.{At, post_ended, post_outcome, post_slot, request_of, with_acting}
use Rattle.merge_actions.specs.Steps.{IsPosted, StepsTo}
use Rattle.merge_actions.specs.declared.acting.ActPlan.{ActPlan}
use Rattle.merge_actions.specs.declared.acting.Acting.TheVariants.{Posts, Reads}
use Rattle.merge_actions.specs.declared.acting.Came.TheVariants.{Ended, More}
use Rattle.merge_actions.specs.laws.StepLaws.{acts_on}

-- a post ends with an outcome of its action, and a slot of the arena
post_ends : (entry : LogEntry) (action : Action) (f : ℕ) (request : Request) → request_of entry action (post_ended action request) ≡ Some (f, request)
    → EndsWith action (post_outcome action)
post_ends entry (actions.Share s) f request of = absurd cc
post_ends entry action f request of = tt

post_ranged : (g : Geometry) (action : Action) (request : Request) → request.slot < arena_slots g → post_slot action request < arena_slots g
post_ranged g (actions.Promote f i) request below = below
post_ranged g action request below = omega (arith, below)

module _ (v w : WorldView) (plan : ActPlan) (f : ℕ) (request : Request) (block : Block) where
  abbrev g : Geometry
  g = v.locks.geometry

  -- what any of its calls leaves
  module _ (call : Call) (reply : Reply) (went : (r : LogsRead) → merging.Went plan.host v w call reply r r) where
    keeps : KeepsHolds plan.host v w
    keeps = keeps_memory plan.host v w (went unread).geometry (went unread).memory

    ready : plan.host < g.hosts → IsReady v plan.host → IsReady w plan.host
    ready host is = (merging_on plan.host v w call reply unread unread (went unread) (record { host = host; ready = is })).ready

  -- the block of requests is read
  pub read_went : At v (with_acting plan (Reads f request))
      → ((r : LogsRead) → merging.Went plan.host v w (calls.Reads (place_of g (kinds.Request f))) (Shows block.0) r r)
      → StepsTo v w (with_acting plan (Reads f request)) (More (Posts f request block))
  read_went is went =
      let call = calls.Reads (place_of g (kinds.Request f)) in
      let k = keeps call (Shows block.0) went in
      acts_on v w (with_acting plan (Reads f request)) (Posts f request block) (event (key_at v.locks plan.host) call (Shows block.0)) is k
      (λ pending r. (went r).quiet pending) (record {
        ready = ready call (Shows block.0) went is.host is.at.ready;
        file = subst (λ (x : Geometry). f < x.files) (sym k.geometry) is.at.file;
        range = subst (λ (x : Geometry). IsRequest x request) (sym k.geometry) is.at.range;
        of = is.at.of;
      }) (block, refl, refl) (omega arith)

  -- and set to that with the request behind
  pub post_went : At v (with_acting plan (Posts f request block)) → (reply : Reply)
      → ((r : LogsRead)
      → merging.Went plan.host v w (Tests (place_of g (kinds.Request f)) block.0 (requested_with g block.0 request)) reply r r)
      → StepsTo v w (with_acting plan (Posts f request block)) (Ended (post_ended plan.action request))
  post_went is reply went =
      let call : Call = Tests (place_of g (kinds.Request f)) block.0 (requested_with g block.0 request) in
      let k = keeps call reply went in record {
        same = record { host = refl; entry = refl; action = refl };
        keeps = k;
        event = event (key_at v.locks plan.host) call reply;
        quiet = λ pending r. (went r).quiet pending;
        stands = (
          ready call reply went is.host is.at.ready,
          post_ends plan.entry plan.action f request is.at.of,
          subst (λ (x : Geometry). post_slot plan.action request < arena_slots x) (sym k.geometry)
              (post_ranged g plan.action request is.at.range.1),
        );
        posted = subst (IsPosted g (event (key_at v.locks plan.host) call reply)) (sym is.at.of) (block, refl);
        does = (reply, refl, refl, is.at.of);
        less = omega arith;
      }
