-- What stands between two steps of a plan: it stands over an own call that keeps the file's hold and all facts, and over the calls of others.
use Rattle.std.proofs.Common.{◌≡◌, ◌≢◌, ◌<◌, ◌||◌, ℕ, Bool, true, List, ap, sym, subst, ◌∙◌}
use Rattle.vol_base.specs.Packing.{Packing}
use Rattle.vol_base.specs.declared.plain.PlainCall.TheVariants as calls
use Rattle.vol_layout.specs.declared.geometry.Geometry.{Geometry}
use Rattle.vol_layout.specs.declared.kind.Resource.{Resource}
use Rattle.vol_layout.specs.declared.kind.Resource.TheVariants.{File}
use Rattle.vol_layout.specs.declared.kind.Table.{Table}
use Rattle.table_blocks.specs.Tables.{IsPackingOf}
use Rattle.lock_store.specs.declared.host.HostState.{HostState}
use Rattle.lock_store.specs.Memories.{holds, reads}
use Rattle.lock_store.specs.Views.{host_at, key_at}
use Rattle.disk_locks.specs.Consistent.{Consistent}
use Rattle.held_cache.specs.Kept.{Cache, IsFileTable}
use Rattle.host_facts.specs.Facts.Fact.{TableIs}
use Rattle.host_facts.specs.Knows.{Knows}
use Rattle.host_facts.specs.Looks.{Looks}
use Rattle.host_facts.specs.Others.{Others}
use Rattle.host_facts.specs.Views.{WorldView}
use Rattle.host_facts.specs.laws.FactLaws.{joined_key}
use Rattle.plan_parts.specs.TakenLocks.{IsTaking}
use Rattle.plan_parts.specs.declared.outcome.Outcome.{Outcome}
use Rattle.plan_parts.specs.laws.TakenLaws.{taking_same}
use Rattle.file_plans.specs.Bases.{HasHold, IsBase, IsCached}
use Rattle.file_plans.specs.Calls.{file_of}
use Rattle.file_plans.specs.declared.call.FileCall.{FileCall}
use Rattle.file_plans.specs.declared.call.FileCall.TheVariants.{Plain}
use Rattle.file_plans.specs.declared.state.Core.{Core}

-- the plan's core with other locks, and another outcome
abbrev pub coming : Core → List Resource → Outcome → Core
coming core taken outcome = record { host = core.host; call = core.call; taken = taken; outcome = outcome }

-- a hold of the file stands where its lock does in the host's memory
pub hold_on : (call : FileCall) (m n : HostState) → holds n (File (file_of call)) ≡ holds m (File (file_of call))
    → reads n (File (file_of call)) ≡ reads m (File (file_of call)) → HasHold call m → HasHold call n
hold_on (Plain (calls.Read f i)) m n held read is =
    ap (λ (b : Bool). b || reads n (File f)) held ∙ ap (λ (b : Bool). holds m (File f) || b) read ∙ is
hold_on call m n held read is = held ∙ is

-- the host's memory, its tables and the volume are as before
pub record IsStill (h : ℕ) (v w : WorldView) : Type 0 where
  pub geometry : w.locks.geometry ≡ v.locks.geometry
  pub memory : host_at w.locks h ≡ host_at v.locks h
  pub tables : (t : Table) (p : Packing) → Knows v h (TableIs t p) → Knows w h (TableIs t p)

pub still_looks : (h : ℕ) (v w : WorldView) → Looks h v w → IsStill h v w
still_looks h v w looks = record {
  geometry = looks.geometry;
  memory = looks.memory;
  tables = λ t p known. looks.facts (TableIs t p) known;
}

pub base_key : (v : WorldView) (c : Cache) (core : Core) → Consistent v.locks → IsBase v c core → key_at v.locks core.host ≢ 0
base_key v c core is base = joined_key v.locks.geometry.hosts _ core.host (host_at v.locks core.host) (is.memories core.host) base.joined

pub still_others : (v w : WorldView) (h x : ℕ) → Others x v w → h ≢ x → key_at v.locks h ≢ 0 → IsStill h v w
still_others v w h x others apart some = record {
  geometry = others.locks.lasts.geometry;
  memory = (others.locks.keeps h apart some).memory;
  tables = λ t p known. others.facts h (TableIs t p) apart known;
}

-- what is kept stays known where the facts on tables stay
pub cached_on : (v w : WorldView) (c : Cache) (h : ℕ) → w.locks.geometry ≡ v.locks.geometry
    → ((t : Table) (p : Packing) → Knows v h (TableIs t p) → Knows w h (TableIs t p)) → IsCached v c h → IsCached w c h
cached_on v w c h geometry tables cached = record {
  volume = cached.volume ∙ sym geometry;
  known = λ t p is kept.
      let known = cached.known t p (subst (λ (g : Geometry). IsFileTable g t) geometry is) kept in (
        tables t p known.0,
        subst (λ (g : Geometry). IsPackingOf g t p) (sym geometry) known.1,
      );
}

-- so it does over the calls of other hosts
pub cached_still : (v w : WorldView) (c : Cache) (h x : ℕ) → Others x v w → h ≢ x → IsCached v c h → IsCached w c h
cached_still v w c h x others apart = cached_on v w c h others.locks.lasts.geometry (λ t p. others.facts h (TableIs t p) apart)

-- what the host has stands with other locks
pub base_on : (v w : WorldView) (c : Cache) (core : Core) → w.locks.geometry ≡ v.locks.geometry
    → ((t : Table) (p : Packing) → Knows v core.host (TableIs t p) → Knows w core.host (TableIs t p)) → (taken : List Resource)
    → (outcome : Outcome) → (host_at w.locks core.host).joined ≡ true → HasHold core.call (host_at w.locks core.host)
    → IsTaking w core.host taken → IsBase v c core → IsBase w c (coming core taken outcome)
base_on v w c core geometry tables taken outcome joined hold taking is = record {
  host = subst (λ (g : Geometry). core.host < g.hosts) (sym geometry) is.host;
  file = subst (λ (g : Geometry). file_of core.call < g.files) (sym geometry) is.file;
  joined = joined;
  hold = hold;
  taking = taking;
  cached = cached_on v w c core.host geometry tables is.cached;
}

-- and where memory stays, with the same ones
pub base_still : (v w : WorldView) (c : Cache) (core : Core) → IsStill core.host v w → (outcome : Outcome) → IsBase v c core
    → IsBase w c (coming core core.taken outcome)
base_still v w c core still outcome is =
    base_on v w c core still.geometry still.tables core.taken outcome (ap (λ (m : HostState). m.joined) still.memory ∙ is.joined)
    (subst (HasHold core.call) (sym still.memory) is.hold)
    (taking_same v w core.host core.taken still.geometry still.memory is.taking) is
