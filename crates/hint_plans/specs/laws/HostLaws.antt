-- A host with its pending hints is as before where its memory is, and has a key.
use Rattle.std.proofs.Common.{◌≡◌, ◌≢◌, ◌<◌, ◌∙◌, ℕ, [], ap, sym, subst}
use Rattle.vol_layout.specs.declared.geometry.Geometry.{Geometry}
use Rattle.hint_blocks.specs.declared.entry.LogEntry.{LogEntry}
use Rattle.hint_blocks.specs.HintLists.{HintList}
use Rattle.lock_store.specs.declared.host.HostState.{HostState}
use Rattle.lock_store.specs.Views.{host_at, key_at}
use Rattle.disk_locks.specs.Consistent.{Consistent}
use Rattle.host_facts.specs.Facts.{Fact}
use Rattle.host_facts.specs.Facts.Fact.{RecordIs}
use Rattle.host_facts.specs.Knows.{Knows}
use Rattle.host_facts.specs.Views.{WorldView}
use Rattle.host_facts.specs.laws.FactLaws.{joined_key}
use Rattle.plan_parts.specs.Steps.{IsReady}
use Rattle.plan_parts.specs.laws.TakenLaws.{taking_same}
use Rattle.hint_plans.specs.Plans.{IsHost}

pub ready_key : (v : WorldView) (h : ℕ) → Consistent v.locks → IsReady v h → key_at v.locks h ≢ 0
ready_key v h c ready = joined_key v.locks.geometry.hosts _ h (host_at v.locks h) (c.memories h) ready.joined

-- over a call that changes nothing in its memory, and no fact that it knows
pub ready_on : (v w : WorldView) (h : ℕ) → w.locks.geometry ≡ v.locks.geometry → host_at w.locks h ≡ host_at v.locks h
    → ((a : Fact) → Knows v h a → Knows w h a) → IsReady v h → IsReady w h
ready_on v w h geometry memory facts ready = record {
  joined = ap (λ (m : HostState). m.joined) memory ∙ ready.joined;
  empty = facts (RecordIs []) ready.empty;
  taking = taking_same v w h [] geometry memory ready.taking;
}

pub host_on : (v w : WorldView) (h : ℕ) (pending : HintList LogEntry) → w.locks.geometry ≡ v.locks.geometry
    → host_at w.locks h ≡ host_at v.locks h → ((a : Fact) → Knows v h a → Knows w h a) → IsHost v h pending → IsHost w h pending
host_on v w h pending geometry memory facts is = record {
  host = subst (λ (g : Geometry). h < g.hosts) (sym geometry) is.host;
  ready = ready_on v w h geometry memory facts is.ready;
  volume = is.volume ∙ sym geometry;
}
