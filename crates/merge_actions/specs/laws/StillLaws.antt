-- A plan stands over the calls of other hosts, and its host has a key.
use Rattle.std.proofs.Common.{◌≡◌, ◌≢◌, ◌<◌, ◌∙◌, ℕ, None, Option, Some, ap, sym, subst}
use Rattle.vol_layout.specs.declared.geometry.Geometry.{Geometry}
use Rattle.vol_layout.specs.Ranges.{arena_slots}
use Rattle.hint_blocks.specs.Entries.{IsLogEntry, IsPlace, IsRequest}
use Rattle.lock_store.specs.declared.host.HostState.{HostState}
use Rattle.lock_store.specs.Views.{host_at, key_at}
use Rattle.disk_locks.specs.Consistent.{Consistent}
use Rattle.host_facts.specs.Others.{Others}
use Rattle.host_facts.specs.Views.{WorldView}
use Rattle.host_facts.specs.laws.FactLaws.{joined_key}
use Rattle.share_plans.specs.declared.share.SharePlan.{SharePlan}
use Rattle.share_plans.specs.laws.PromoteStays.{promote_still}
use Rattle.share_plans.specs.laws.ShareStays.{share_still}
use Rattle.hint_blocks.specs.declared.entry.Request.{Request}
use Rattle.merge_steps.specs.laws.CallLaws.{merging_still}
use Rattle.merge_actions.specs.Acts.{At, IsPosting, IsSharing, StandsAt, slot_in}
use Rattle.merge_actions.specs.declared.acting.ActPlan.{ActPlan}
use Rattle.merge_actions.specs.declared.acting.Acting.{Acting}
use Rattle.merge_actions.specs.declared.acting.Acting.TheVariants.{Over, Posts, Promotes, Reads, Shares, SharesOther}

pub act_key : (v : WorldView) (plan : ActPlan) → Consistent v.locks → At v plan → key_at v.locks plan.host ≢ 0
act_key v plan c is = joined_key v.locks.geometry.hosts _ plan.host (host_at v.locks plan.host) (c.memories plan.host) is.joined

module _ (v w : WorldView) (plan : ActPlan) (x : ℕ) (c : Consistent v.locks) (others : Others x v w) (apart : plan.host ≢ x)
    (is : At v plan) where
  geometry : w.locks.geometry ≡ v.locks.geometry
  geometry = others.locks.lasts.geometry

  other_host : (h : ℕ) → h ≡ plan.host → h ≢ x
  other_host h same is_x = apart (sym same ∙ is_x)

  sharing_still : (to : Option ℕ) (share : SharePlan) → IsSharing v plan.host plan.entry plan.action to share
      → IsSharing w plan.host plan.entry plan.action to share
  sharing_still to share at = record {
    host = at.host;
    of = at.of;
    slot = subst (λ (g : Geometry). slot_in to < arena_slots g) (sym geometry) at.slot;
    at = share_still v w share.core x c others (other_host share.core.host at.host) share.stage at.at;
  }

  posting_still : (f : ℕ) (request : Request) → IsPosting v plan.host plan.entry plan.action f request
      → IsPosting w plan.host plan.entry plan.action f request
  posting_still f request at = record {
    ready = (merging_still v w plan.host x others apart (record { host = is.host; ready = at.ready })).ready;
    file = subst (λ (g : Geometry). f < g.files) (sym geometry) at.file;
    range = subst (λ (g : Geometry). IsRequest g request) (sym geometry) at.range;
    of = at.of;
  }

  at_still : (acting : Acting) → StandsAt v plan.host plan.entry plan.action acting → StandsAt w plan.host plan.entry plan.action acting
  at_still (Shares share) at = sharing_still None share at
  at_still (SharesOther share t) at = sharing_still (Some t) share at
  at_still (Promotes promotion) at = record {
    file = at.file;
    index = at.index;
    of = at.of;
    other = subst (λ (g : Geometry). IsPlace g at.file at.index) (sym geometry) at.other;
    host = at.host;
    here = at.here;
    at = promote_still v w promotion.core x c others (other_host promotion.core.host at.host) promotion.stage at.at;
  }
  at_still (Reads f request) at = posting_still f request at
  at_still (Posts f request block) at = posting_still f request at
  at_still Over at = absurd at

  pub act_still : At w plan
  act_still = record {
    host = subst (λ (g : Geometry). plan.host < g.hosts) (sym geometry) is.host;
    joined = ap (λ (m : HostState). m.joined) (others.locks.memories plan.host apart) ∙ is.joined;
    range = subst (λ (g : Geometry). IsLogEntry g plan.entry) (sym geometry) is.range;
    at = at_still plan.acting is.at;
  }
